-- What the check and the tickets say, as the screen's calls need it.
-- Assumes nothing.
use Rattle.std.specs.Prelude.{Ok, Err}
use Prim.Native.Nat.{ℕ, ◌*◌, ◌≤◌}
use native.Mathlib.Omega.{arith}
use mathlib.Core.Path.{◌≡◌, ap, subst⁻¹}
use mathlib.Core.Bool.{Bool, true, false, cond}
use mathlib.Core.Logic.{◌⊎◌, inl, inr}
use mathlib.Core.List.{List}
use lib.Dec.{eqb}
use lib.ListN.{length}
use Rattle.record.specs.Layout.{Record, record_bytes}
use Rattle.account.specs.Answers.{number_of, record_of, refusal}
use Rattle.account.specs.Checked.{checked}
use Rattle.account.specs.Records.{records}
use Rattle.account.specs.Answers.{Answer}
use Rattle.account.specs.declared.answers.Refusal.TheVariants.{UnknownKind, KindFalls, UnusedByte, FieldOutside, Unlisted, OutOfOrder, OverLimit}
use Rattle.account.specs.declared.answers.Refusal.TheVariants.{NoRate, ConversionBeyond}
use Rattle.account.proofs.Claimed.{claimed}
use Rattle.tickets.specs.Claims.{TicketRow}
use Rattle.tickets.specs.Ticket.{place, with_ticket, row_fault, ticket_checked}
use Rattle.tickets.proofs.Claims.{claims, told}
use Rattle.tickets.proofs.Placed.{plain, place_within}

-- ---- neither says 16 or more

abbrev Low : Answer → Type 0
Low a = number_of a ≤ 15

by_test : (c d e f g h i j l : Bool) (k : ℕ) →
    Low
    (cond c (Err (UnknownKind k))
    (cond d (Err (KindFalls k))
    (cond e (Err (UnusedByte k))
    (cond f (Err (FieldOutside k))
    (cond g (Err (Unlisted k)) (cond h (Err (OutOfOrder k)) (cond i (Err (OverLimit k)) (cond j (Err (NoRate k)) (cond l (Err (ConversionBeyond k)) (Ok tt))))))))))
by_test true d e f g h i j l k = omega arith
by_test false true e f g h i j l k = omega arith
by_test false false true f g h i j l k = omega arith
by_test false false false true g h i j l k = omega arith
by_test false false false false true h i j l k = omega arith
by_test false false false false false true i j l k = omega arith
by_test false false false false false false true j l k = omega arith
by_test false false false false false false false true l k = omega arith
by_test false false false false false false false false true k = omega arith
by_test false false false false false false false false false k = omega arith

refusal_low : (n k : ℕ) → Low (refusal n k)
refusal_low n k = by_test (eqb n 3) (eqb n 4) (eqb n 5) (eqb n 6) (eqb n 7) (eqb n 8) (eqb n 9) (eqb n 14) (eqb n 15) k

pub check_low : (file : List ℕ) → Low (checked file)
check_low file = go (claimed file).exactly.numbers
  where
    go : (number_of (checked file) ≤ 9) ⊎ ((14 ≤ number_of (checked file)) × (number_of (checked file) ≤ 15)) → Low (checked file)
    go (inl m) = omega (arith, m)
    go (inr m) = m.1

pub ticket_low : (file : List ℕ) (ticket : Record) → Low (ticket_checked file ticket)
ticket_low file ticket =
    told file ticket
    (record {
      two = λ h e. subst⁻¹ Low e (omega arith);
      three = λ h g e. subst⁻¹ Low e (omega arith);
      row = λ h g e. subst⁻¹ Low e (refusal_low (row_fault file ticket) (place ticket (records file)));
      one = λ h g l e. subst⁻¹ Low e (omega arith);
      accepted = λ h g l e. subst⁻¹ Low e (omega arith);
    })

-- ---- an accepted ticket

module _ (file : List ℕ) (ticket : Record) (ok : checked file ≡ Ok tt) (taken : ticket_checked file ticket ≡ Ok tt) where
  is_row : TicketRow ticket
  is_row = ((claims file ticket).exactly.accepted.forth (record { number = ap number_of taken; record_is = ap record_of taken })).0

  pub ticket_long : length ticket ≡ record_bytes
  ticket_long = is_row.whole

  pub accepted_with : checked (with_ticket file ticket) ≡ Ok tt
  accepted_with = ((claims file ticket).put_in ok is_row).accepted.forth taken

pub stands_within : (file : List ℕ) (ticket : Record) → checked file ≡ Ok tt → place ticket (records file) * record_bytes ≤ length file
stands_within file ticket ok =
    let p = place_within file ok ticket in
    let b = (plain file ok).bytes in
    omega (arith, p, b)
