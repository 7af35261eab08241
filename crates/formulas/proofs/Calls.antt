-- Sums and differences of signed results: a call of `plus` or `minus` on what two calls gave, in the integers.
-- Assumes nothing.
use mathlib.Core.Path.{◌≡◌, refl, ap₂, ◌∙◌, subst⁻¹}
use Prim.Native.Nat.{◌<◌, ◌^◌}
use lib.Signed.{mag}
use lib.IntN.{ℤ, nat_abs}
use mir.Syntax.{w64}
use mir.Val.{SFits, to_z, of_z}
use Rattle.exact.proofs.Integers.{back, sfits_abs}

-- what a call is handed of a signed number, and what it gives back
abbrev pub handed : ℤ → ℤ
handed z = to_z w64 (of_z w64 z)

-- an operation on the results x and y, known to be a and b, of which the size is known
module _ (op : ℤ → ℤ → ℤ) (x y a b : ℤ) (fx : mag x < 2 ^ 63) (fy : mag y < 2 ^ 63) (ex : x ≡ a) (ey : y ≡ b) where
  pub on_handed : op (handed x) (handed y) ≡ op a b
  on_handed = ap₂ op (back x (record { sfits = fx }) ∙ ex) (back y (record { sfits = fy }) ∙ ey)

  pub op_fits : nat_abs (op a b) < 2 ^ 63 → SFits w64 (op (handed x) (handed y))
  op_fits h = sfits_abs (op (handed x) (handed y)) (subst⁻¹ (λ (z : ℤ). nat_abs z < 2 ^ 63) on_handed h)

  pub op_is : (r : ℤ) → mag r < 2 ^ 63 → r ≡ op (handed x) (handed y) → handed r ≡ op a b
  op_is r fr e = back r (record { sfits = fr }) ∙ e ∙ on_handed

  -- the same of an operation in the code
  pub native_is : nat_abs (op a b) < 2 ^ 63 → handed (op (handed x) (handed y)) ≡ op a b
  native_is h = op_is (op (handed x) (handed y)) (op_fits h).sfits refl
