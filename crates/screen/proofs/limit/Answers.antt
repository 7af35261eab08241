-- A ticket asked about: refused, or its total weighed against the limit.
-- Assumes nothing.
use Rattle.std.specs.Prelude.{Ok}
use Rattle.std.proofs.lemmas.Result.{err_from_is_err_and}
use mathlib.Core.Path.{sym, ap, ◌∙◌}
use Prim.Native.Nat.{ℕ, ◌≤◌}
use native.Mathlib.Omega.{arith}
use lib.IntN.{pos, nat_abs}
use lib.ListN.{length}
use lib.Seq.{length-take-le}
use lib.Signed.{lt_z}
use Rattle.exact.proofs.Integers.{seen}
use Rattle.screen.specs.Screen.{weighed}
use Rattle.screen.specs.declared.Limited.{Limited}
use Rattle.screen.proofs.ScreenLaws.{below_zero, limit_lacking, limit_refused, limit_asked}
use Rattle.screen.proofs.limit.Goals as goal
use Rattle.screen.proofs.limit.Goals.{Else-lent-named}

named-lent : (c : Else-lent-named) →
    let a = c.args in
    a.named ≤ length a.lent.now
named-lent c =
    let l = c.if-lent-named.false in
    omega (arith, l)

pub returns-then-limit-lt0 : goal.returns-then-limit-lt0
returns-then-limit-lt0 c =
    let a = c.args in
    sym (below_zero a.lent.now a.named a.ticket.now a.limit (sym (seen (λ x. lt_z x (pos 0)) a.limit c.ranges.limit (sym c.if-limit-lt0.true))))

pub returns-then-lent-named : goal.returns-then-lent-named
returns-then-lent-named c =
    let a = c.args in
    sym (limit_lacking a.lent.now a.named a.ticket.now a.limit (sym (seen (λ x. lt_z x (pos 0)) a.limit c.ranges.limit (sym c.if-limit-lt0.false))) c.if-lent-named.true)

pub slice_bounds-ask_order-end : goal.slice_bounds-ask_order-end
slice_bounds-ask_order-end c =
    let a = c.args in
    sym (length-take-le a.named a.lent.now (named-lent c))

pub returns-in_err-total : goal.returns-in_err-total
returns-in_err-total c =
    let a = c.args in
    let p = err_from_is_err_and c.from_residual.result c.from_residual.ensures.1 in
    rw (p.1, p.2)
    (limit_refused a.lent.now a.named a.ticket.now a.limit (sym (seen (λ x. lt_z x (pos 0)) a.limit c.ranges.limit (sym c.if-limit-lt0.false))) (named-lent (goal.at.returns-in_err-total c).Else-lent-named)
    c.in_err-total.field-0.0 (sym c.in_err-total.was ∙ c.ask_order.ensures))

pub returns : goal.returns
returns c =
    let a = c.args in
    ap (λ (l : Limited). Ok l) (c.weigh.ensures ∙ ap (λ (n : ℕ). weighed n c.in_ok-total.total.0) (seen nat_abs a.limit c.ranges.limit c.magnitude.ensures))
    ∙ limit_asked a.lent.now a.named a.ticket.now a.limit (sym (seen (λ x. lt_z x (pos 0)) a.limit c.ranges.limit (sym c.if-limit-lt0.false))) (named-lent (goal.at.returns c).Else-lent-named)
    c.in_ok-total.total (sym c.in_ok-total.was ∙ c.ask_order.ensures)
