-- The named bytes, where they are lent, are checked.
-- Assumes nothing.
use mathlib.Core.Path.{sym, ◌∙◌}
use native.Mathlib.Omega.{arith}
use lib.Seq.{length-take-le}
use Rattle.screen.proofs.ScreenLaws.{lacking, all_lent}
use Rattle.screen.proofs.load.Goals as goal

pub returns-then-lent-named : goal.returns-then-lent-named
returns-then-lent-named c =
    let a = c.args in
    sym (lacking a.lent.now a.named c.if-lent-named.true)

pub slice_bounds-check-end : goal.slice_bounds-check-end
slice_bounds-check-end c =
    let a = c.args in
    let l = c.if-lent-named.false in
    sym (length-take-le a.named a.lent.now (omega (arith, l)))

pub returns-else-lent-named : goal.returns-else-lent-named
returns-else-lent-named c =
    let a = c.args in
    let l = c.if-lent-named.false in
    c.check.ensures ∙ sym (all_lent a.lent.now a.named (omega (arith, l)))
