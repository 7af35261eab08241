-- Each way that the code ends.
-- Assumes nothing.
use Rattle.std.proofs.lemmas.Result.{err_from_is_err_and}
use mathlib.Core.Path.{refl, sym, ap, ◌∙◌}
use native.Mathlib.Omega.{arith}
use Prim.Native.Nat.{◌%◌}
use mathlib.Core.Bool.{not}
use lib.ListN.{length}
use borrow.Author.Tests.{lt-ltb, le-ltb, eq-eqb, ne_eqb}
use Rattle.record.specs.Bytes.{record_bytes}
use Rattle.writing.proofs.Answered.{refuses, refuses_long, refuses_cut, refuses_room, writes}
use Rattle.writing.proofs.write.Goals as goal

pub returns-then-entries-gt-MOST_BYTES : goal.returns-then-entries-gt-MOST_BYTES
returns-then-entries-gt-MOST_BYTES c =
    let a = c.args in
    refuses_long a.entries.now a.out.now a.out.now refl (lt-ltb 61440 (length a.entries.now) c.if-entries-gt-MOST_BYTES.true)

pub returns-then-entries-ne0 : goal.returns-then-entries-ne0
returns-then-entries-ne0 c =
    let a = c.args in
    refuses_cut a.entries.now a.out.now a.out.now refl
    (le-ltb 61440 (length a.entries.now) c.if-entries-gt-MOST_BYTES.false)
    (ap not (ne_eqb (length a.entries.now % record_bytes) 0 c.if-entries-ne0.true))

pub order_of-order-requires : goal.order_of-order-requires
order_of-order-requires c = omega (arith, c.if-entries-gt-MOST_BYTES.false)

pub verdict_on-requires : goal.verdict_on-requires
verdict_on-requires c =
    let a = c.args in
    let n = length a.entries.now in
    (c.order_of-order.ensures, (le-ltb 61440 n c.if-entries-gt-MOST_BYTES.false, ap not (eq-eqb (n % record_bytes) 0 c.if-entries-ne0.false)))

pub returns-in_err-verdict_on : goal.returns-in_err-verdict_on
returns-in_err-verdict_on c =
    let a = c.args in
    let p = err_from_is_err_and c.from_residual.result c.from_residual.ensures.1 in
    rw (p.1, p.2) (refuses a.entries.now a.out.now a.out.now refl c.in_err-verdict_on.field-0.0 (sym c.in_err-verdict_on.was ∙ c.verdict_on.ensures))

pub returns-then-out-entries : goal.returns-then-out-entries
returns-then-out-entries c =
    let a = c.args in
    refuses_room a.entries.now a.out.now a.out.now refl (sym c.verdict_on.ensures ∙ c.in_ok-verdict_on.was) c.if-out-entries.true

pub fill-requires : goal.fill-requires
fill-requires c =
    (c.order_of-order.ensures, (omega arith, omega (arith, c.if-out-entries.false)))

pub returns : goal.returns
returns c =
    let a = c.args in
    let whole = ap not (eq-eqb (length a.entries.now % record_bytes) 0 c.if-entries-ne0.false) in
    writes a.entries.now a.out.now _ whole (sym c.verdict_on.ensures ∙ c.in_ok-verdict_on.was) c.if-out-entries.false c.fill.ensures
