-- What calls of `times` and `plus` ask and give, said of the numbers themselves and of their sizes.
-- Assumes nothing.
use mathlib.Core.Path.{◌≡◌, sym, ◌∙◌, ap₂, subst}
use Prim.Native.Nat.{ℕ, ◌+◌, ◌*◌, ◌^◌, ◌≤◌, ◌<◌}
use native.Mathlib.Nat.{mul-le-mul, lt_of_le_of_lt}
use native.Mathlib.Omega.{arith}
use lib.IntN.{ℤ, nat_abs, ◌+ℤ◌, ◌*ℤ◌}
use mir.Syntax.{w64}
use mir.Val.{SFits, to_z, of_z}
use Rattle.exact.specs.Signed.{Sized}
use Rattle.exact.proofs.Integers.{back, sfits_abs, abs_mul, abs_add}

pub abs_times : (x y : ℤ) {m n : ℕ} → nat_abs x ≤ m → nat_abs y ≤ n → nat_abs (x *ℤ y) ≤ m * n
abs_times x y {m} {n} hx hy = subst (λ (k : ℕ). k ≤ m * n) (sym (abs_mul x y)) (mul-le-mul hx hy)

pub abs_plus : (x y : ℤ) {m n : ℕ} → nat_abs x ≤ m → nat_abs y ≤ n → nat_abs (x +ℤ y) ≤ m + n
abs_plus x y hx hy = omega (arith, abs_add x y)

-- two arguments a and b that stand for x and y, of sizes up to m and n
module _ (a b x y : ℤ) (m n : ℕ) (fa : SFits w64 a) (fb : SFits w64 b) (ea : a ≡ x) (eb : b ≡ y) (hx : nat_abs x ≤ m) (hy : nat_abs y ≤ n) where
  product_read : to_z w64 (of_z w64 a) *ℤ to_z w64 (of_z w64 b) ≡ x *ℤ y
  product_read = ap₂ ◌*ℤ◌ (back a fa ∙ ea) (back b fb ∙ eb)

  sum_read : to_z w64 (of_z w64 a) +ℤ to_z w64 (of_z w64 b) ≡ x +ℤ y
  sum_read = ap₂ ◌+ℤ◌ (back a fa ∙ ea) (back b fb ∙ eb)

  pub times_fits : m * n < 2 ^ 63 → SFits w64 (to_z w64 (of_z w64 a) *ℤ to_z w64 (of_z w64 b))
  times_fits h = subst (λ (z : ℤ). SFits w64 z) (sym product_read) (sfits_abs (x *ℤ y) (lt_of_le_of_lt (abs_times x y hx hy) h))

  pub plus_fits : m + n < 2 ^ 63 → SFits w64 (to_z w64 (of_z w64 a) +ℤ to_z w64 (of_z w64 b))
  plus_fits h = subst (λ (z : ℤ). SFits w64 z) (sym sum_read) (sfits_abs (x +ℤ y) (lt_of_le_of_lt (abs_plus x y hx hy) h))

  pub times_is : (r : ℤ) → r ≡ to_z w64 (of_z w64 a) *ℤ to_z w64 (of_z w64 b) → Sized (m * n) (x *ℤ y) r
  times_is r e =
      let is : r ≡ x *ℤ y = e ∙ product_read in
      record { is = is; size = subst (λ (z : ℤ). nat_abs z ≤ m * n) (sym is) (abs_times x y hx hy) }

  pub plus_is : (r : ℤ) → r ≡ to_z w64 (of_z w64 a) +ℤ to_z w64 (of_z w64 b) → Sized (m + n) (x +ℤ y) r
  plus_is r e =
      let is : r ≡ x +ℤ y = e ∙ sum_read in
      record { is = is; size = subst (λ (z : ℤ). nat_abs z ≤ m + n) (sym is) (abs_plus x y hx hy) }

-- a result that is read back
pub sized_back : {most : ℕ} {z : ℤ} (r : ℤ) → SFits w64 r → Sized most z r → Sized most z (to_z w64 (of_z w64 r))
sized_back {most} {z} r f s = subst (λ (q : ℤ). Sized most z q) (sym (back r f)) s
