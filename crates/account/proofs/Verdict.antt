-- The verdict, from the faults of the records: the first fault answers, and without one the file is accepted.
-- Assumes nothing.
use Rattle.std.specs.Prelude.{Ok, Err, eqb}
use Prim.Native.Nat.{ℕ, zero, suc, ◌+◌, ◌-◌, ◌*◌, ◌≤◌, ◌<◌}
use mathlib.Core.Path.{◌≡◌, refl, sym, ap, ◌∙◌}
use mathlib.Core.Bool.{Bool, true, false, cond}
use mathlib.Core.List.{List, [], ◌∷◌}
use lib.ListN.{drop}
use native.Mathlib.Omega.{arith}
use native.Mathlib.Numerals.{add-one}
use borrow.Author.Tests.{ne_eqb, eqb-true, eqb-false}
use Rattle.record.specs.Bytes.{record_bytes}
use Rattle.record.specs.Layout.{Record, contract}
use Rattle.record.specs.Ranges.{unknown_kind, unused_byte, field_outside}
use Rattle.account.specs.Answers.{number_of, refusal}
use Rattle.account.specs.Check.{the_one_before, kind_falls, unlisted, out_of_order, over_limit, fault_of, or_else, first_fault, too_long, cut_record}
use Rattle.account.specs.Check.{records_checked}
use Rattle.account.specs.code.Notes.{before_at, prompts_noted, unlisted_by, over_limit_by, fault_at}
use Rattle.account.specs.code.Surveyed.{length_checked}
use Rattle.account.specs.Records.{cut, record_at, records, record_count, earlier}
use Rattle.account.specs.Answers.{Answer}
use Rattle.account.specs.declared.answers.Refusal.TheVariants.{TooLong, CutRecord}
use Rattle.account.proofs.Firsts.{fault_range, number_refusal}
use Rattle.account.proofs.Laid.{Faultless}
use Rattle.account.proofs.Walk.{cut_on}

module _ (file : List ℕ) where
  -- the verdict of the records from record k on
  abbrev from_on : ℕ → Answer
  from_on k = first_fault k (earlier file k) (cut (record_count file - k) (drop (k * record_bytes) file))

  abbrev rest : ℕ → Answer
  rest k =
      first_fault (k + 1) (record_at file k ∷ earlier file k)
      (cut (record_count file - (k + 1)) (drop ((k + 1) * record_bytes) file))

  step : (k : ℕ) → k < record_count file → from_on k ≡ or_else (fault_of (earlier file k) (record_at file k)) k (rest k)
  step k h = ap (first_fault k (earlier file k)) (cut_on file (record_count file) k h)

  on : (k : ℕ) → rest k ≡ from_on (k + 1)
  on k =
      ap (λ (es : List Record). first_fault (k + 1) es (cut (record_count file - (k + 1)) (drop ((k + 1) * record_bytes) file)))
      (ap (earlier file) (sym (add-one k)))

  pub reach : (k : ℕ) → k ≤ record_count file → Faultless file k → first_fault 0 [] (records file) ≡ from_on k
  reach zero h fine =
      let e : record_count file - 0 ≡ record_count file = omega arith in
      ap (λ (n : ℕ). first_fault 0 [] (cut n file)) (sym e)
  reach (suc k) h fine =
      reach k (omega arith) (λ j l. fine j (omega arith)) ∙ step k (omega arith)
      ∙ ap (λ (n : ℕ). or_else n k (rest k)) (fine k (omega arith)) ∙ on k ∙ ap from_on (add-one k)

  pub stops :
      (k n : ℕ) → k < record_count file → Faultless file k → fault_of (earlier file k) (record_at file k) ≡ n →
      (n ≡ 0 → ⊥)
      → first_fault 0 [] (records file) ≡ refusal n k
  stops k n h fine e nz =
      reach k (omega arith) fine ∙ step k h ∙ ap (λ (m : ℕ). or_else m k (rest k)) e
      ∙ ap (λ (b : Bool). cond b (rest k) (refusal n k)) (ne_eqb n 0 nz)

  pub ends : Faultless file (record_count file) → first_fault 0 [] (records file) ≡ Ok tt
  ends fine =
      let n = record_count file in
      let e : n - n ≡ 0 = omega arith in
      reach n (omega arith) fine
      ∙ ap (λ (m : ℕ). first_fault n (earlier file n) (cut m (drop (n * record_bytes) file))) e

  pub too_long_lem : too_long file ≡ true → records_checked file ≡ Err TooLong
  too_long_lem e = ap (λ (b : Bool). cond b (Err TooLong) (cond (cut_record file) (Err CutRecord) (first_fault 0 [] (records file)))) e

  pub cut_short : too_long file ≡ false → cut_record file ≡ true → records_checked file ≡ Err CutRecord
  cut_short e f =
      ap (λ (b : Bool). cond b (Err TooLong) (cond (cut_record file) (Err CutRecord) (first_fault 0 [] (records file)))) e
      ∙ ap (λ (b : Bool). cond b (Err CutRecord) (first_fault 0 [] (records file))) f

  pub by_records : too_long file ≡ false → cut_record file ≡ false → records_checked file ≡ first_fault 0 [] (records file)
  by_records e f =
      ap (λ (b : Bool). cond b (Err TooLong) (cond (cut_record file) (Err CutRecord) (first_fault 0 [] (records file)))) e
      ∙ ap (λ (b : Bool). cond b (Err CutRecord) (first_fault 0 [] (records file))) f

-- ---- 1 and 2
module _ (file : List ℕ) where
  pub length_long : too_long file ≡ true → Err TooLong ≡ length_checked file
  length_long e = rw e

  pub length-cut-short : too_long file ≡ false → cut_record file ≡ true → Err CutRecord ≡ length_checked file
  length-cut-short e f = rw (e, f)

  pub length_whole : too_long file ≡ false → cut_record file ≡ false → Ok tt ≡ length_checked file
  length_whole e f = rw (e, f)

  pub length-fine : length_checked file ≡ Ok tt → (too_long file ≡ false) × (cut_record file ≡ false)
  length-fine = go (too_long file) (cut_record file)
    where
      go : (t u : Bool) → cond {A = Answer} t (Err TooLong) (cond u (Err CutRecord) (Ok tt)) ≡ Ok tt → (t ≡ false) × (u ≡ false)
      go true u e = absurd (omega (arith, ap number_of e))
      go false true e = absurd (omega (arith, ap number_of e))
      go false false e = (refl, refl)

  pub length_refused : (number_of (length_checked file) ≡ 0 → ⊥) → length_checked file ≡ records_checked file
  length_refused = go (too_long file) (cut_record file)
    where
      go : (t u : Bool) → (number_of (cond t (Err TooLong) (cond u (Err CutRecord) (Ok tt))) ≡ 0 → ⊥)
          → cond t (Err TooLong) (cond u (Err CutRecord) (Ok tt)) ≡ cond t (Err TooLong) (cond u (Err CutRecord) (first_fault 0 [] (records file)))
      go true u h = refl
      go false true h = refl
      go false false h = absurd (h refl)

-- a fault has a number from 3 to 9
pub fault_number : (es : List Record) (r : Record) (n : ℕ) → fault_of es r ≡ n → (n ≡ 0 → ⊥) → (3 ≤ n) × (n ≤ 9)
fault_number es r n h nz =
    fault_range (unknown_kind r) (kind_falls (the_one_before es) r) (unused_byte r) (field_outside r) (unlisted es r)
    (out_of_order (the_one_before es) r) (over_limit es r) n h nz

-- the same of a fault by the notes: its refusal has its number
pub fault_named : (file first counts : List ℕ) (k n j : ℕ) → n ≡ fault_at file first counts k → (n ≡ 0 → ⊥) → number_of (refusal n j) ≡ n
fault_named file first counts k n j e nz =
    let r = record_at file k in
    let before = before_at file k in
    let range = fault_range (unknown_kind r) (kind_falls before r) (unused_byte r) (field_outside r)
    (unlisted_by counts (prompts_noted file first counts (contract r)) r) (out_of_order before r) (over_limit_by counts r) n (sym e) nz in
    number_refusal n j range.0 range.1

-- a record that is not refused has no fault
pub fault_clear : (file first counts : List ℕ) (k : ℕ) → refusal (fault_at file first counts k) k ≡ Ok tt → fault_at file first counts k ≡ 0
fault_clear file first counts k e = go (eqb (fault_at file first counts k) 0) refl
  where
    go : (t : Bool) → eqb (fault_at file first counts k) 0 ≡ t → fault_at file first counts k ≡ 0
    go true h = eqb-true (fault_at file first counts k) 0 h
    go false h =
        sym (fault_named file first counts k (fault_at file first counts k) k refl (eqb-false (fault_at file first counts k) 0 h)) ∙ ap number_of e
