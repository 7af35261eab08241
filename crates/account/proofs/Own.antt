-- The contracts of a faultless file come first in it, and there are at most sixteen.
-- Assumes nothing.
use Prim.Native.Nat.{ℕ, zero, suc, ◌+◌, ◌≤◌, ◌<◌}
use mathlib.Core.Path.{◌≡◌, refl, sym, subst⁻¹, ◌∙◌}
use mathlib.Core.Bool.{Bool, true, false}
use mathlib.Core.List.{List, [], ◌∷◌, ◌++◌}
use lib.ListN.{length, length-append}
use lib.Dec.{eqb}
use native.Mathlib.Omega.{arith}
use native.Mathlib.Nat.{le_refl}
use borrow.Author.Tests.{eq-eqb, ne_eqb, eqb-true, eqb-false, leb-false, ltb-false}
use Rattle.exact.specs.Lists.{count}
use Rattle.record.specs.Layout.{Record, kind, contract}
use Rattle.account.specs.code.Notes.{before_at}
use Rattle.account.specs.Parts.{of_kind, start_of}
use Rattle.account.specs.Records.{cut, record_at, earlier}
use Rattle.account.specs.Check.{most_contracts}
use Rattle.account.proofs.Dispatch.{order_1}
use Rattle.account.proofs.Earlier.{cut_more}
use Rattle.account.proofs.Laid.{Faultless, passed_at}
use Rattle.account.proofs.Lists.{Stretch, stretch_skip, stretch_grow, counts_not, counts_one, starts_same_not, starts_same, starts_here}
use Rattle.account.proofs.Passed.{Passed, Known, known_of, right_off}

-- of the records so far, `before` the latest
pub record Own (xs : List Record) (before : Record) : Type 0 where
  pub one : Stretch (of_kind 1) xs
  pub begins : start_of (of_kind 1) xs ≡ 0
  pub all : kind before ≤ 1 → count (of_kind 1) xs ≡ length xs
  pub none : kind before ≡ 0 → count (of_kind 1) xs ≡ 0
  pub few : kind before ≡ 1 → count (of_kind 1) xs ≤ contract before + 1
  pub most : count (of_kind 1) xs ≤ most_contracts

own_none : Own [] []
own_none =
    record {
      one = record { within = le_refl 0; kept = refl };
      begins = refl;
      all = λ h. refl;
      none = λ h. refl;
      few = λ h. omega arith;
      most = omega arith;
    }

module _ (xs : List Record) (before r : Record) (old : Own xs before) (k : Known r) (up : kind before ≤ kind r) where
  module _ (e : kind r ≡ 1) (rise : kind before ≡ 1 → contract before < contract r) where
    is : of_kind 1 r ≡ true
    is = eq-eqb (kind r) 1 e

    full : count (of_kind 1) xs ≡ length xs
    full = old.all (omega arith)

    room : count (of_kind 1) xs ≤ contract r
    room = go (eqb (kind before) 1) refl
      where
        go : (t : Bool) → eqb (kind before) 1 ≡ t → count (of_kind 1) xs ≤ contract r
        go true t =
            let b = eqb-true (kind before) 1 t in
            omega (arith, old.few b, rise b)
        go false t =
            let d = eqb-false (kind before) 1 t in
            omega (arith, old.none (omega arith))

    own_one : Own (xs ++ r ∷ []) r
    own_one =
        let b = old.begins in
        let n = counts_one (of_kind 1) xs r is in
        let c = k.contracts in
        record {
          one = stretch_grow (of_kind 1) xs r old.one is (λ h. omega (arith, full));
          begins = start (count (of_kind 1) xs) refl;
          all = λ h. omega (arith, full, length-append xs (r ∷ []));
          none = λ h. absurd (omega arith);
          few = λ h. omega (arith, room);
          most = omega (arith, room);
        }
      where
        start : (n : ℕ) → count (of_kind 1) xs ≡ n → start_of (of_kind 1) (xs ++ r ∷ []) ≡ 0
        start zero z = starts_here (of_kind 1) xs r is z ∙ sym full ∙ z
        start (suc n) z = starts_same (of_kind 1) xs r is (omega arith) ∙ old.begins

  own_other : (kind r ≡ 1 → ⊥) → Own (xs ++ r ∷ []) r
  own_other d =
      let not = ne_eqb (kind r) 1 d in
      let n = counts_not (of_kind 1) xs r not in
      let l = k.low in
      let m = old.most in
      record {
        one = stretch_skip (of_kind 1) xs r old.one not;
        begins = starts_same_not (of_kind 1) xs r not ∙ old.begins;
        all = λ h. absurd (omega arith);
        none = λ h. absurd (omega arith);
        few = λ h. absurd (d h);
        most = omega arith;
      }

module _ (file : List ℕ) where
  pub own : (k : ℕ) → Faultless file k → Own (cut k file) (before_at file k)
  own zero fine = own_none
  own (suc k) fine =
      let r = record_at file k in
      let b = before_at file k in
      let p = passed_at file (suc k) fine k (omega arith) in
      let i = own k (λ j h. fine j (omega arith)) in
      let up = ltb-false (kind r) (kind b) p.rises in
      subst⁻¹ (λ (rs : List Record). Own rs r) (cut_more k file) (go b p i up (eqb (kind r) 1) refl)
    where
      go :
          (b : Record) → Passed (earlier file k) (record_at file k) → Own (cut k file) (before_at file k)
          → kind (before_at file k) ≤ kind (record_at file k) → (t : Bool) → eqb (kind (record_at file k)) 1 ≡ t
          → Own (cut k file ++ record_at file k ∷ []) (record_at file k)
      go b p i up true t =
          let r = record_at file k in
          let e = eqb-true (kind r) 1 t in
          own_one (cut k file) (before_at file k) r i (known_of r p) up e
          (λ h. leb-false (contract r) (contract (before_at file k))
          (right_off (eq-eqb _ _ h) (sym (order_1 (before_at file k) r e) ∙ p.ordered)))
      go b p i up false t =
          own_other (cut k file) (before_at file k) (record_at file k) i (known_of (record_at file k) p) up
          (eqb-false _ _ t)
