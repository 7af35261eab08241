-- The largest of sums, or 0, is at most the sum of the largest, or 0.
-- Assumes nothing.
use Prim.Native.Nat.{ℕ, suc, ◌+◌, ◌-◌, ◌≤◌, zero-le}
use native.Mathlib.Omega.{arith}
use mathlib.Core.Path.{◌≡◌, ap}
use mathlib.Core.Bool.{Bool, true, false, cond, false≢true}
use mathlib.Core.List.{List, [], ◌∷◌, map}
use borrow.Author.Tests.{leb-true}
use lib.Dec.{ltb}
use lib.IntN.{ℤ, pos, negsuc, sub_ℕ, ◌+ℤ◌}
use lib.Signed.{lt_z, le_z}
use Rattle.exact.specs.Largest.{largest}
use Rattle.exact.specs.Signed.{larger, or_zero}
use Rattle.exact.proofs.Integers.{larger_first, larger_second}

difference_within : (a b : ℕ) → or_zero (sub_ℕ a b) ≤ a
difference_within a b = go (ltb a b)
  where
    go : (t : Bool) → or_zero (cond t (negsuc (b - suc a)) (pos (a - b))) ≤ a
    go true = zero-le
    go false = omega arith

pub sum_within : (a b : ℤ) → or_zero (a +ℤ b) ≤ or_zero a + or_zero b
sum_within (pos a) (pos b) = omega arith
sum_within (pos a) (negsuc b) = omega (arith, difference_within a (suc b))
sum_within (negsuc a) (pos b) = omega (arith, difference_within b (suc a))
sum_within (negsuc a) (negsuc b) = omega arith

at_most : (a b : ℤ) → le_z a b ≡ true → or_zero a ≤ or_zero b
at_most (pos a) (pos b) h = leb-true a b h
at_most (pos a) (negsuc b) h = absurd (false≢true h)
at_most (negsuc a) (pos b) h = omega arith
at_most (negsuc a) (negsuc b) h = omega arith

larger_within : (a b : ℤ) (n : ℕ) → or_zero a ≤ n → or_zero b ≤ n → or_zero (larger a b) ≤ n
larger_within a b n ha hb = go (lt_z a b)
  where
    go : (t : Bool) → or_zero (cond t b a) ≤ n
    go true = hb
    go false = ha

-- of totals that are sums, scenario by scenario
module _ (f g h : ℕ → ℤ) (adds : (s : ℕ) → h s ≡ f s +ℤ g s) where
  one : (s : ℕ) → or_zero (h s) ≤ or_zero (f s) + or_zero (g s)
  one s = let e = ap or_zero (adds s) in omega (arith, e, sum_within (f s) (g s))

  pub largest_within : (ss : List ℕ) → or_zero (largest (map h ss)) ≤ or_zero (largest (map f ss)) + or_zero (largest (map g ss))
  largest_within [] = omega arith
  largest_within (s ∷ []) = one s
  largest_within (s ∷ t ∷ ss) =
      let ff = largest (map f (t ∷ ss)) in
      let gg = largest (map g (t ∷ ss)) in
      let f1 = at_most (f s) (larger (f s) ff) (larger_first (f s) ff) in
      let g1 = at_most (g s) (larger (g s) gg) (larger_first (g s) gg) in
      let f2 = at_most ff (larger (f s) ff) (larger_second (f s) ff) in
      let g2 = at_most gg (larger (g s) gg) (larger_second (g s) gg) in
      larger_within (h s) (largest (map h (t ∷ ss))) (or_zero (larger (f s) ff) + or_zero (larger (g s) gg))
      (omega (arith, one s, f1, g1)) (omega (arith, largest_within (t ∷ ss), f2, g2))
