-- The sums over the accounts of a run: the counts of the refusals, one account more, and the committee's numbers from them.
-- Assumes nothing.
use Prim.Native.Nat.{ℕ, zero, suc, ◌+◌, ◌-◌, ◌*◌, ◌/◌, ◌%◌, ◌≤◌, ◌<◌, ◌^◌, zero-le}
use native.Mathlib.Nat.{le_trans, div-le_self, div-add-mod'}
use native.Mathlib.Omega.{arith}
use mathlib.Core.Path.{◌≡◌, refl, ap, subst, ◌∙◌}
use mathlib.Core.Bool.{Bool, true, false, cond}
use mathlib.Core.List.{List, [], ◌∷◌, ◌++◌}
use borrow.Author.Tests.{eqb-true, eqb-false, ne_eqb}
use lib.Dec.{eqb}
use lib.ListN.{length, length-set, length-append, get_or, set, get_or-append}
use lib.Seq.{get_or-set_same, get_or-set_other, get_or-append-add}
use Rattle.exact.specs.Lists.{one_if}
use Rattle.committee.specs.Committee.{most_accounts}
use Rattle.committee.specs.code.Sums.{most_total, RefusalCounted, Within, later_numbers, sums_numbers}
use Rattle.committee.specs.declared.sums.Sums.{Sums}

-- ---- the counts of the refusals
pub uncounted : (counts : List ℕ) (refusal : ℕ) → length counts ≡ 15 → ((k : ℕ) → k < 15 → refusal ≡ suc k → ⊥) → RefusalCounted counts refusal counts
uncounted counts refusal n h =
    record { as_many = n; each = λ k l. let e = ap one_if (ne_eqb refusal (suc k) (h k l)) in omega arith }

module _ (counts : List ℕ) (refusal : ℕ) (n : length counts ≡ 15) (some : 0 < refusal) where
  abbrev more : List ℕ
  more = set counts (refusal - 1) (get_or counts (refusal - 1) 0 + 1)

  one_more_lem : (k : ℕ) → k < 15 → (t : Bool) → eqb refusal (suc k) ≡ t → get_or more k 0 ≡ get_or counts k 0 + one_if t
  one_more_lem k l true e =
      let r = eqb-true refusal (suc k) e in
      let here : k ≡ refusal - 1 = omega arith in
      subst (λ (j : ℕ). get_or (set counts j (get_or counts j 0 + 1)) k 0 ≡ get_or counts k 0 + 1) here
      (get_or-set_same counts k (get_or counts k 0 + 1) 0 (omega arith))
  one_more_lem k l false e =
      let other = eqb-false refusal (suc k) e in
      let same = get_or-set_other counts (refusal - 1) k (get_or counts (refusal - 1) 0 + 1) 0 (λ z. other (omega arith)) in
      omega arith

  pub counted : RefusalCounted counts refusal more
  counted = record {
    as_many = length-set counts (refusal - 1) (get_or counts (refusal - 1) 0 + 1) ∙ n;
    each = λ k l. one_more_lem k l (eqb refusal (suc k)) refl;
  }

-- ---- the committee's numbers
module _ (s : Sums) (n : length s.refusals ≡ 15) where
  pub refusal_at : (k : ℕ) → 2 ≤ k → k < 17 → get_or (sums_numbers s) k 0 ≡ get_or s.refusals (k - 2) 0
  refusal_at k l h =
      let e : k ≡ suc (suc (k - 2)) = omega arith in
      ap (λ (j : ℕ). get_or (sums_numbers s) j 0) e ∙ get_or-append s.refusals (later_numbers s) 0 (k - 2) (omega arith)

  pub later_at : (k : ℕ) → 17 ≤ k → get_or (sums_numbers s) k 0 ≡ get_or (later_numbers s) (k - 17) 0
  later_at k l =
      let e : k ≡ suc (suc (length s.refusals + (k - 17))) = omega arith in
      ap (λ (j : ℕ). get_or (sums_numbers s) j 0) e ∙ get_or-append-add s.refusals (later_numbers s) (k - 17) 0

  pub numbers-length : length (sums_numbers s) ≡ 24
  numbers-length = let l = length-append s.refusals (later_numbers s) in omega arith

-- none of them outgrows 64 bits
either_list : (most : ℕ) (xs ys : List ℕ) (k : ℕ) → ((j : ℕ) → get_or xs j 0 ≤ most) → ((j : ℕ) → get_or ys j 0 ≤ most) → get_or (xs ++ ys) k 0 ≤ most
either_list most [] ys k h g = g k
either_list most (x ∷ xs) ys zero h g = h 0
either_list most (x ∷ xs) ys (suc k) h g = either_list most xs ys k (λ j. h (suc j)) g

none_or : (t : Bool) (x most : ℕ) → x ≤ most → cond t 0 x ≤ most
none_or true x most h = zero-le
none_or false x most h = h

mod_within : (n d : ℕ) → n % d ≤ n
mod_within n d = let e = div-add-mod' n d in omega arith

module _ (s : Sums) (w : Within most_accounts s) where
  abbrev most : ℕ
  most = most_accounts * most_total

  later_most : (k : ℕ) → get_or (later_numbers s) k 0 ≤ most
  later_most zero = w.margin_most
  later_most (suc zero) = let h = w.largest_most in omega arith
  later_most (suc (suc zero)) = let h = w.place_most in omega arith
  later_most (suc (suc (suc zero))) = let h = w.credits_most in omega arith
  later_most (suc (suc (suc (suc zero)))) = let h = w.above_most in omega arith
  later_most (suc (suc (suc (suc (suc zero))))) =
      none_or (eqb s.accepted 0) (s.margin.0 / s.accepted) most (le_trans (div-le_self s.margin.0 s.accepted) w.margin_most)
  later_most (suc (suc (suc (suc (suc (suc zero)))))) =
      none_or (eqb s.accepted 0) (s.margin.0 % s.accepted) most (le_trans (mod_within s.margin.0 s.accepted) w.margin_most)
  later_most (suc (suc (suc (suc (suc (suc (suc k))))))) = zero-le

  number_most : (k : ℕ) → get_or (sums_numbers s) k 0 ≤ most
  number_most zero = let h = w.accepted_most in omega arith
  number_most (suc zero) = let h = w.refused_most in omega arith
  number_most (suc (suc k)) =
      either_list most s.refusals (later_numbers s) k (λ j. let h = w.refusals_most j in omega arith) later_most

  pub number_fits : (k : ℕ) → get_or (sums_numbers s) k 0 < 2 ^ 63
  number_fits k = let h = number_most k in omega arith
