-- The records of a file without faults so far: each part stands in one stretch, and the latest record's part reaches to the
-- end.
-- Assumes nothing.
use Prim.Native.Nat.{ℕ, zero, suc, ◌+◌, ◌≤◌, ◌<◌}
use mathlib.Core.Path.{◌≡◌, refl, sym, subst, ◌∙◌}
use mathlib.Core.Bool.{Bool, true, false}
use mathlib.Core.List.{List, [], ◌∷◌, ◌++◌}
use lib.ListN.{length}
use native.Mathlib.Omega.{arith}
use native.Mathlib.Nat.{le_refl}
use borrow.Author.Tests.{eq-eqb, eqb-true}
use Rattle.exact.specs.Lists.{count}
use Rattle.record.specs.Layout.{Record, kind, contract, most_contract}
use Rattle.account.specs.Check.{fault_of}
use Rattle.account.specs.code.Notes.{part_of, before_at}
use Rattle.account.specs.PartNumbers.{in_part, parts as allParts}
use Rattle.account.specs.Parts.{start_of}
use Rattle.account.specs.Records.{cut, record_at, earlier}
use Rattle.account.proofs.Earlier.{cut_more}
use Rattle.account.proofs.Lists.{Stretch, stretch_skip, stretch_grow, stretch-latest, counts_not}
use Rattle.account.proofs.Passed.{Passed, passed, Known, known_of, part_bound, mine, part_rises}

-- no record before record k has a fault
abbrev pub Faultless : List ℕ → ℕ → Type 0
Faultless file k = (j : ℕ) → j < k → fault_of (earlier file j) (record_at file j) ≡ 0

pub record Laid (xs : List Record) (top : ℕ) : Type 0 where
  pub parts : (v : ℕ) → v < allParts → Stretch (in_part v) xs
  pub upto : (v : ℕ) → v < allParts → 0 < count (in_part v) xs → v ≤ top
  pub latest : 0 < count (in_part top) xs → start_of (in_part top) xs + count (in_part top) xs ≡ length xs

laid_none : Laid [] 0
laid_none =
    record {
      parts = λ v h. record { within = le_refl 0; kept = refl };
      upto = λ v h z. omega arith;
      latest = λ z. omega arith;
    }

module _ (xs : List Record) (top : ℕ) (old : Laid xs top) (r : Record) (k : Known r) (up : top ≤ part_of r) where
  ours : in_part (part_of r) r ≡ true
  ours = mine r k (part_of r) (part_bound r k) ∙ eq-eqb (part_of r) (part_of r) refl

  -- where the record's part has records, it is the latest one
  so_far :
      0 < count (in_part (part_of r)) xs → start_of (in_part (part_of r)) xs + count (in_part (part_of r)) xs ≡ length xs
  so_far h =
      let u = old.upto (part_of r) (part_bound r k) h in
      let e : top ≡ part_of r = omega arith in
      subst (λ (v : ℕ). 0 < count (in_part v) xs → start_of (in_part v) xs + count (in_part v) xs ≡ length xs) e
      old.latest h

  laid_more : Laid (xs ++ r ∷ []) (part_of r)
  laid_more =
      record {
        parts = λ v h. part_of_lem v h (in_part v r) refl;
        upto = λ v h z. upto_of v h z (in_part v r) refl;
        latest = λ z. stretch-latest (in_part (part_of r)) xs r (old.parts (part_of r) (part_bound r k)) ours so_far;
      }
    where
      part_of_lem : (v : ℕ) → v < allParts → (t : Bool) → in_part v r ≡ t → Stretch (in_part v) (xs ++ r ∷ [])
      part_of_lem v h true e =
          let same : part_of r ≡ v = eqb-true _ _ (sym (mine r k v h) ∙ e) in
          subst (λ (u : ℕ). Stretch (in_part u) (xs ++ r ∷ [])) same
          (stretch_grow (in_part (part_of r)) xs r (old.parts (part_of r) (part_bound r k)) ours so_far)
      part_of_lem v h false e = stretch_skip (in_part v) xs r (old.parts v h) e

      upto_of : (v : ℕ) → v < allParts → 0 < count (in_part v) (xs ++ r ∷ []) → (t : Bool) → in_part v r ≡ t → v ≤ part_of r
      upto_of v h z true e =
          let same : part_of r ≡ v = eqb-true _ _ (sym (mine r k v h) ∙ e) in
          omega arith
      upto_of v h z false e =
          let u = old.upto v h (omega (arith, counts_not (in_part v) xs r e)) in
          omega arith

module _ (file : List ℕ) where
  pub passed_at : (k : ℕ) → Faultless file k → (j : ℕ) → j < k → Passed (earlier file j) (record_at file j)
  passed_at k fine j h = passed (earlier file j) (record_at file j) (fine j h)

  -- what the record before is known to be
  pub before_known : (k : ℕ) → Faultless file k → (kind (before_at file k) ≤ 6) × (contract (before_at file k) ≤ most_contract)
  before_known zero fine = (omega arith, omega arith)
  before_known (suc k) fine =
      let b = known_of (record_at file k) (passed_at (suc k) fine k (omega arith)) in
      (b.high, b.contracts)

  pub laid : (k : ℕ) → Faultless file k → Laid (cut k file) (part_of (before_at file k))
  laid zero fine = laid_none
  laid (suc k) fine =
      let less : Faultless file k = λ j h. fine j (omega arith) in
      let p = passed_at (suc k) fine k (omega arith) in
      let r = known_of (record_at file k) p in
      let b = before_known k less in
      let up = part_rises (before_at file k) (record_at file k) p.ordered r b.0 b.1 p.rises in
      subst (λ (rs : List Record). Laid rs (part_of (record_at file k))) (sym (cut_more k file))
      (laid_more (cut k file) (part_of (before_at file k)) (laid k less) (record_at file k) r up)
