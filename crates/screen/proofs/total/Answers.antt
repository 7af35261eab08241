-- The total of the named bytes, where they are lent.
-- Assumes nothing.
use mathlib.Core.Path.{sym, ◌∙◌}
use native.Mathlib.Omega.{arith}
use lib.Seq.{length-take-le}
use Rattle.screen.proofs.ScreenLaws.{total_lacking, total_lent}
use Rattle.screen.proofs.total.Goals as goal

pub returns-then-lent-named : goal.returns-then-lent-named
returns-then-lent-named c =
    let a = c.args in
    sym (total_lacking a.lent.now a.named c.if-lent-named.true)

pub slice_bounds-total_in-end : goal.slice_bounds-total_in-end
slice_bounds-total_in-end c =
    let a = c.args in
    let l = c.if-lent-named.false in
    sym (length-take-le a.named a.lent.now (omega (arith, l)))

pub returns : goal.returns
returns c =
    let a = c.args in
    let l = c.if-lent-named.false in
    c.total_in.ensures ∙ sym (total_lent a.lent.now a.named (omega (arith, l)))
