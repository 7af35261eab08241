-- The largest of totals within a bound is within it.
-- Assumes nothing.
use mathlib.Core.Path.{◌≡◌, subst}
use mathlib.Core.Bool.{Bool, true, false, cond}
use mathlib.Core.List.{List, [], ◌∷◌}
use Prim.Native.Nat.{ℕ, suc, ◌-◌, ◌≤◌, zero-le}
use native.Mathlib.Omega.{arith}
use lib.IntN.{ℤ, pos, nat_abs}
use lib.ListN.{get_or}
use lib.Signed.{lt_z}
use Rattle.exact.specs.Largest.{largest}
use Rattle.formulas.specs.Bounds.{most_risk}
use Rattle.formulas.specs.code.Risks.{TotalsWithin}

either : (t : Bool) (a b : ℤ) (m : ℕ) → nat_abs a ≤ m → nat_abs b ≤ m → nat_abs (cond t b a) ≤ m
either true a b m h k = k
either false a b m h k = h

largest_within : (xs : List ℤ) (m : ℕ) → ((k : ℕ) → nat_abs (get_or xs k (pos 0)) ≤ m) → nat_abs (largest xs) ≤ m
largest_within [] m h = zero-le
largest_within (x ∷ []) m h = h 0
largest_within (x ∷ y ∷ ys) m h =
    either (lt_z x (largest (y ∷ ys))) x (largest (y ∷ ys)) m (h 0) (largest_within (y ∷ ys) m (λ k. h (suc k)))

pub total_within : (ts : List ℤ) → TotalsWithin ts → nat_abs (largest ts) ≤ most_risk
total_within ts w =
    largest_within ts most_risk
    (λ k. let e : suc k - 1 ≡ k = omega arith in subst (λ (n : ℕ). nat_abs (get_or ts n (pos 0)) ≤ most_risk) e (w.each (suc k)))
