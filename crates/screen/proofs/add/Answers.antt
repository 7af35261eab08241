-- A ticket added: refused, or put among the lent bytes where it stands.
-- Assumes nothing.
use Rattle.std.proofs.lemmas.Result.{err_from_is_err_and}
use mathlib.Core.Path.{sym, ◌∙◌}
use Prim.Native.Nat.{◌≤◌}
use native.Mathlib.Omega.{arith}
use lib.ListN.{length}
use Rattle.screen.specs.Screen.{held}
use Rattle.screen.proofs.AddingLaws.{whole, none_lent, refused, no_room_lem, at_named, room}
use Rattle.screen.proofs.add.Goals as goal

pub returns-then-lent-named : goal.returns-then-lent-named
returns-then-lent-named c =
    let a = c.args in
    let h = none_lent a.lent.now a.named a.ticket.now c.if-lent-named.true in
    (h.is, h.after)

pub returns-in_err-at : goal.returns-in_err-at
returns-in_err-at c =
    let a = c.args in
    let l = c.if-lent-named.false in
    let p = err_from_is_err_and c.from_residual.result c.from_residual.ensures.1 in
    let h = refused a.lent.now a.named a.ticket.now (omega (arith, l)) c.in_err-at.field-0.0 (sym c.in_err-at.was ∙ c.place_order.ensures) in
    rw (p.1, p.2) (h.is, h.after)

pub returns-then-lent-named-lt-RECORD_BYTES : goal.returns-then-lent-named-lt-RECORD_BYTES
returns-then-lent-named-lt-RECORD_BYTES c =
    let a = c.args in
    let l = c.if-lent-named.false in
    let few = c.if-lent-named-lt-RECORD_BYTES.true in
    let h = no_room_lem a.lent.now a.named a.ticket.now (omega (arith, l)) c.in_ok-at.at (sym c.in_ok-at.was ∙ c.place_order.ensures) (omega (arith, few, l)) in
    (h.is, h.after)

pub insert-requires : goal.insert-requires
insert-requires c =
    let a = c.args in
    let l = c.if-lent-named.false in
    let e = c.if-lent-named-lt-RECORD_BYTES.false in
    let p = sym c.in_ok-at.was ∙ c.place_order.ensures in
    let named : a.named ≤ length a.lent.now = omega (arith, l) in (
      whole (held a.lent.now a.named) a.ticket.now c.in_ok-at.at p,
      (at_named a.lent.now a.named a.ticket.now named c.in_ok-at.at p, omega (arith, e, named)),
    )

pub returns : goal.returns
returns c =
    let a = c.args in
    let l = c.if-lent-named.false in
    let e = c.if-lent-named-lt-RECORD_BYTES.false in
    let named : a.named ≤ length a.lent.now = omega (arith, l) in
    let h = room a.lent.now a.named a.ticket.now named c.in_ok-at.at (sym c.in_ok-at.was ∙ c.place_order.ensures)
    (omega (arith, e, named)) c.insert.new.lent c.insert.ensures in
    (h.is, h.after)
