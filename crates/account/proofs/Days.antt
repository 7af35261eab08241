-- The prompts of a contract in a faultless file have different days.
-- Assumes nothing.
use Prim.Native.Nat.{ℕ, zero, suc, ◌≤◌, ◌<◌}
use mathlib.Core.Path.{◌≡◌, refl, sym, ap, subst, subst⁻¹, ◌∙◌}
use mathlib.Core.Bool.{Bool, true, false, ◌&&◌}
use mathlib.Core.List.{List, [], ◌∷◌, ◌++◌, append-nil}
use lib.ListN.{length}
use lib.Dec.{eqb, leb, ltb}
use native.Mathlib.Omega.{arith}
use native.Mathlib.Nat.{le_refl}
use borrow.Author.Tests.{eq-eqb, ne_eqb, eqb-true, leb-false, ltb-false}
use Rattle.exact.specs.Lists.{cons_if, keep, count}
use Rattle.exact.proofs.Lists.{keep_append}
use Rattle.record.specs.Layout.{Record, kind, contract, tier, day, most_contract}
use Rattle.record.proofs.Within.{never, both_true, neither}
use Rattle.account.specs.Accepted.{Each}
use Rattle.account.specs.Check.{day_not_above, tier_falls, out_of_order}
use Rattle.account.specs.PartNumbers.{part, in_part}
use Rattle.account.specs.code.Notes.{part_of, before_at}
use Rattle.account.specs.Parts.{of_contract, on_day}
use Rattle.account.specs.Records.{cut, record_at}
use Rattle.account.proofs.Dispatch.{order_2}
use Rattle.account.proofs.Earlier.{cut_more}
use Rattle.account.proofs.Every.{every_append, every_weaker, length_kept}
use Rattle.account.proofs.Laid.{Faultless, laid, passed_at}
use Rattle.account.proofs.Lists.{counts_one, counts_not}
use Rattle.account.proofs.Noted.{part_is}
use Rattle.account.proofs.Passed.{known_of, mine, right_off, part_rises}

none_on : (d : ℕ) (xs : List Record) → Each (λ r. day r < d) xs → count (on_day d) xs ≡ 0
none_on d [] a = refl
none_on d (x ∷ xs) a =
    let l = a.0 in
    rw (ne_eqb (day x) d (λ e. omega arith), none_on d xs a.1)

-- so far, `before` the latest record
pub record Days (c : ℕ) (xs : List Record) (before : Record) : Type 0 where
  pub once : (d : ℕ) → count (on_day d) (keep (of_contract 2 c) xs) ≤ 1
  pub bound : of_contract 2 c before ≡ true → Each (λ r. day r ≤ day before) (keep (of_contract 2 c) xs)

pub none_kept : (p : Record → Bool) (xs : List Record) → count p xs ≡ 0 → keep p xs ≡ []
none_kept p xs z = nil (keep p xs) (length_kept p xs ∙ z)
  where
    nil : (l : List Record) → length l ≡ 0 → l ≡ []
    nil [] e = refl
    nil (y ∷ ys) e = absurd (omega arith)

module _ (c : ℕ) (xs : List Record) (before r : Record) where
  grown : of_contract 2 c r ≡ true → keep (of_contract 2 c) (xs ++ r ∷ []) ≡ keep (of_contract 2 c) xs ++ r ∷ []
  grown e =
      keep_append (of_contract 2 c) xs (r ∷ [])
      ∙ ap (λ (b : Bool). keep (of_contract 2 c) xs ++ cons_if b r []) e

  same : of_contract 2 c r ≡ false → keep (of_contract 2 c) (xs ++ r ∷ []) ≡ keep (of_contract 2 c) xs
  same e =
      keep_append (of_contract 2 c) xs (r ∷ [])
      ∙ ap (λ (b : Bool). keep (of_contract 2 c) xs ++ cons_if b r []) e ∙ append-nil (keep (of_contract 2 c) xs)

  -- a later day than every prompt so far
  later :
      Days c xs before → of_contract 2 c r ≡ true → Each (λ p. day p < day r) (keep (of_contract 2 c) xs)
      → Days c (xs ++ r ∷ []) r
  later old e a =
      let ks = keep (of_contract 2 c) xs in
      record {
        once = λ d. subst⁻¹ (λ (rs : List Record). count (on_day d) rs ≤ 1) (grown e) (here d (eqb (day r) d) refl);
        bound =
            λ h.
            subst⁻¹ (Each (λ p. day p ≤ day r)) (grown e)
            (every_append (λ p. day p ≤ day r) ks (r ∷ []) (every_weaker ks (λ p l. omega arith) a)
            (le_refl (day r), tt));
      }
    where
      here : (d : ℕ) (t : Bool) → eqb (day r) d ≡ t → count (on_day d) (keep (of_contract 2 c) xs ++ r ∷ []) ≤ 1
      here d true i =
          let same-day = eqb-true (day r) d i in
          let z = none_on d (keep (of_contract 2 c) xs)
          (subst (λ (n : ℕ). Each (λ p. day p < n) (keep (of_contract 2 c) xs)) same-day a) in
          omega (arith, z, counts_one (on_day d) (keep (of_contract 2 c) xs) r i)
      here d false i = omega (arith, old.once d, counts_not (on_day d) (keep (of_contract 2 c) xs) r i)

  apart : Days c xs before → of_contract 2 c r ≡ false → Days c (xs ++ r ∷ []) r
  apart old e =
      record {
        once = λ d. subst⁻¹ (λ (rs : List Record). count (on_day d) rs ≤ 1) (same e) (old.once d);
        bound = λ h. absurd (never (sym e ∙ h));
      }

  -- the day rises from one prompt of a contract to the next
  pub day_rises :
      of_contract 2 c before ≡ true → of_contract 2 c r ≡ true → out_of_order before r ≡ false → day before < day r
  day_rises b e off =
      let x = both_true (eqb (kind before) 2) (eqb (contract before) c) b in
      let y = both_true (eqb (kind r) 2) (eqb (contract r) c) e in
      let k = eqb-true (kind r) 2 y.0 in
      let d = (neither (day_not_above before r) (tier_falls before r) (sym (order_2 before r k) ∙ off)).0 in
      let t = right_off x.0 d in
      let s = (neither (ltb (contract r) (contract before)) (eqb (contract r) (contract before) && leb (day r)
      (day before)) t).1 in
      leb-false (day r) (day before)
      (right_off (eq-eqb (contract r) (contract before) (eqb-true _ _ y.1 ∙ sym (eqb-true _ _ x.1))) s)

  -- and the tier does not fall
  pub tier_stays :
      of_contract 2 c before ≡ true → of_contract 2 c r ≡ true → out_of_order before r ≡ false → tier before ≤ tier r
  tier_stays b e off =
      let y = both_true (eqb (kind r) 2) (eqb (contract r) c) e in
      let t = (neither (day_not_above before r) (tier_falls before r) (sym (order_2 before r (eqb-true (kind r) 2 y.0)) ∙ off)).1 in
      ltb-false (tier r) (tier before)
      (right_off (ap (λ (n : ℕ). of_contract 2 n before) (eqb-true (contract r) c y.1) ∙ b) t)

module _ (file : List ℕ) (c : ℕ) (hc : c ≤ most_contract) where
  -- where the contract has prompts before another of its prompts, the record before is one of them
  adjacent :
      (k : ℕ) → Faultless file (suc k) → of_contract 2 c (record_at file k) ≡ true
      → 0 < count (of_contract 2 c) (cut k file) → of_contract 2 c (before_at file k) ≡ true
  adjacent zero fine e h = absurd (omega arith)
  adjacent (suc k) fine e h =
      let v = part 2 c in
      let p = passed_at file (suc (suc k)) fine (suc k) (omega arith) in
      let q = passed_at file (suc (suc k)) fine k (omega arith) in
      let b = known_of (record_at file k) q in
      let r = known_of (record_at file (suc k)) p in
      let is = part_is 2 c (omega arith) hc in
      let lay = laid file (suc k) (λ j l. fine j (omega arith)) in
      let some : 0 < count (in_part v) (cut (suc k) file) = subst⁻¹
      (λ (t : Record → Bool). 0 < count t (cut (suc k) file)) is h in
      let up = lay.upto v (omega arith) some in
      let mine-r : part_of (record_at file (suc k)) ≡ v =
      eqb-true _ _ (sym (mine (record_at file (suc k)) r v (omega arith)) ∙ ap
      (λ (t : Record → Bool). t (record_at file (suc k))) is ∙ e) in
      let rise = part_rises (record_at file k) (record_at file (suc k)) p.ordered r b.high b.contracts
      p.rises in
      ap (λ (t : Record → Bool). t (record_at file k)) (sym is) ∙ mine (record_at file k) b v (omega arith)
      ∙ eq-eqb (part_of (record_at file k)) v (omega arith)

  pub days : (k : ℕ) → Faultless file k → Days c (cut k file) (before_at file k)
  days zero fine = record { once = λ d. omega arith; bound = λ h. tt }
  days (suc k) fine =
      let old = days k (λ j h. fine j (omega arith)) in
      subst⁻¹ (λ (rs : List Record). Days c rs (record_at file k)) (cut_more k file)
      (go old (of_contract 2 c (record_at file k)) refl (count (of_contract 2 c) (cut k file)) refl)
    where
      go :
          Days c (cut k file) (before_at file k) → (t : Bool) → of_contract 2 c (record_at file k) ≡ t
          → (n : ℕ) → count (of_contract 2 c) (cut k file) ≡ n → Days c (cut k file ++ record_at file k ∷ [])
          (record_at file k)
      go old false e n z = apart c (cut k file) (before_at file k) (record_at file k) old e
      go old true e zero z =
          later c (cut k file) (before_at file k) (record_at file k) old e
          (subst⁻¹ (Each (λ p. day p < day (record_at file k))) (none_kept (of_contract 2 c) (cut k file) z) tt)
      go old true e (suc n) z =
          let b = adjacent k fine e (omega arith) in
          let p = passed_at file (suc k) fine k (omega arith) in
          let rise = day_rises c (cut k file) (before_at file k) (record_at file k) b e p.ordered in
          later c (cut k file) (before_at file k) (record_at file k) old e
          (every_weaker (keep (of_contract 2 c) (cut k file)) (λ q l. omega arith) (old.bound b))
