-- The largest of several totals: at least each of them and one of them, first held at its number.
-- Assumes nothing.
use mathlib.Core.Path.{◌≡◌, refl, ◌∙◌, ap}
use mathlib.Core.Bool.{Bool, true, false, cond}
use mathlib.Core.List.{List, [], ◌∷◌}
use Prim.Native.Nat.{ℕ, zero, suc, ◌≤◌, ◌<◌}
use native.Mathlib.Nat.{le_of_suc-le-suc, not-suc-le-zero}
use native.Mathlib.Omega.{arith}
use lib.IntN.{ℤ, pos, negsuc}
use lib.ListN.{length, get_or}
use lib.Signed.{lt_z, le_z}
use borrow.Author.Tests.{eq-eqb, ne_eqb, ltb-true}
use Rattle.exact.specs.Signed.{larger}
use Rattle.exact.specs.Largest.{largest, same, first_at}
use Rattle.exact.proofs.Lists.{Held}
use Rattle.exact.proofs.Integers.{at_most_refl, at_most_trans, larger_first, larger_second}

pub same_refl : (z : ℤ) → same z z ≡ true
same_refl (pos a) = eq-eqb a a refl
same_refl (negsuc a) = eq-eqb a a refl

pub below_same : (a b : ℤ) → lt_z a b ≡ true → same a b ≡ false
below_same (pos a) (pos b) h = ne_eqb a b (λ e. omega (arith, ltb-true a b h))
below_same (pos a) (negsuc b) h = refl
below_same (negsuc a) (pos b) h = refl
below_same (negsuc a) (negsuc b) h = ne_eqb a b (λ e. omega (arith, ltb-true b a h))

-- each total is at most the largest
pub largest_most : (xs : List ℤ) (k : ℕ) → k < length xs → le_z (get_or xs k (pos 0)) (largest xs) ≡ true
largest_most [] k h = absurd (not-suc-le-zero h)
largest_most (x ∷ []) zero h = at_most_refl x
largest_most (x ∷ []) (suc k) h = absurd (not-suc-le-zero (le_of_suc-le-suc h))
largest_most (x ∷ y ∷ ys) zero h = larger_first x (largest (y ∷ ys))
largest_most (x ∷ y ∷ ys) (suc k) h =
    at_most_trans (get_or (y ∷ ys) k (pos 0)) (largest (y ∷ ys)) (larger x (largest (y ∷ ys)))
    (largest_most (y ∷ ys) k (le_of_suc-le-suc h)) (larger_second x (largest (y ∷ ys)))

-- the largest is one of the totals
pub largest-held : (xs : List ℤ) → 0 < length xs → Held xs (pos 0) (largest xs)
largest-held [] h = absurd (not-suc-le-zero h)
largest-held (x ∷ []) h = record { place = 0; within = omega arith; holds = refl }
largest-held (x ∷ y ∷ ys) h = go (lt_z x (largest (y ∷ ys))) (largest-held (y ∷ ys) (omega arith))
  where
    go : (t : Bool) → Held (y ∷ ys) (pos 0) (largest (y ∷ ys)) → Held (x ∷ y ∷ ys) (pos 0) (cond t (largest (y ∷ ys)) x)
    go true r = record { place = suc r.place; within = omega (arith, r.within); holds = r.holds }
    go false r = record { place = 0; within = omega arith; holds = refl }

pub first_at_most : (z : ℤ) (xs : List ℤ) (k : ℕ) → k < length xs → get_or xs k (pos 0) ≡ z → first_at z xs ≤ suc k
first_at_most z [] k h e = absurd (not-suc-le-zero h)
first_at_most z (x ∷ xs) zero h e = rw (ap (λ (y : ℤ). same y z) e ∙ same_refl z) (omega arith)
first_at_most z (x ∷ xs) (suc k) h e = go (same x z) (first_at_most z xs k (le_of_suc-le-suc h) e)
  where
    go : (t : Bool) → first_at z xs ≤ suc k → cond t 1 (suc (first_at z xs)) ≤ suc (suc k)
    go true r = omega arith
    go false r = omega arith

pub first_within : (xs : List ℤ) → 0 < length xs → first_at (largest xs) xs ≤ length xs
first_within xs h =
    let r = largest-held xs h in
    omega (arith, r.within, first_at_most (largest xs) xs r.place r.within r.holds)

-- one total more in front
pub first_earlier : (x y : ℤ) (ys : List ℤ) → first_at (largest (x ∷ y ∷ ys)) (x ∷ y ∷ ys) ≡ cond (lt_z x (largest (y ∷ ys)))
    (suc (first_at (largest (y ∷ ys)) (y ∷ ys))) 1
first_earlier x y ys = go (lt_z x (largest (y ∷ ys))) refl
  where
    go : (t : Bool) → lt_z x (largest (y ∷ ys)) ≡ t → first_at (cond t (largest (y ∷ ys)) x) (x ∷ y ∷ ys) ≡ cond t (suc (first_at (largest (y ∷ ys)) (y ∷ ys))) 1
    go true e = rw (below_same x (largest (y ∷ ys)) e)
    go false e = rw (same_refl x)
