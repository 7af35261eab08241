-- The largest of several totals, and the first place that holds it.
-- Assumes nothing.
use Rattle.std.specs.Prelude.{ℕ, suc, ◌≡◌, Bool, false, cond, List, [], ◌∷◌, eqb, ℤ, pos, negsuc}
use Rattle.exact.specs.Signed.{larger}

-- "the largest total", and 0 of none
abbrev pub largest : List ℤ → ℤ
largest [] = pos 0
largest (x ∷ []) = x
largest (x ∷ y ∷ ys) = larger x (largest (y ∷ ys))

abbrev pub same : ℤ → ℤ → Bool
same (pos a) (pos b) = eqb a b
same (pos a) (negsuc b) = false
same (negsuc a) (pos b) = false
same (negsuc a) (negsuc b) = eqb a b

-- "the lowest number holding" z, the first place being number 1; one past the last where none holds it
abbrev pub first_at : ℤ → List ℤ → ℕ
first_at z [] = 1
first_at z (x ∷ xs) = cond (same x z) 1 (suc (first_at z xs))

-- a value and a number are the largest of the totals and the lowest number holding it
pub record IsLargest (totals : List ℤ) (value : ℤ) (number : ℕ) : Type 0 where
  pub value_is : value ≡ largest totals
  pub number_is : number ≡ first_at (largest totals) totals
