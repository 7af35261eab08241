-- Rounding z × m / d once, halves away from zero: what it is in parts, so that no product outgrows 64 bits, and its laws for every
-- fraction, which are those of rounding halves up to a unit of 1.
-- Assumes nothing.
use mathlib.Core.Path.{◌≡◌, refl, sym, ◌∙◌, ap}
use mathlib.Core.Bool.{true, false≢true}
use Prim.Native.Nat.{ℕ, zero, suc, ◌+◌, ◌*◌, ◌/◌, ◌%◌, ◌≤◌, ◌<◌}
use native.Mathlib.Nat.{zero-mul, mul-one, add-mul, mul_right_comm, mul-le-mul_left, mul-le-mul_right, div-add-mod', le_of_lt, mod-lt}
use native.Mathlib.Omega.{arith}
use lib.IntN.{ℤ, pos, negsuc, neg_ℤ, nat_abs, neg_ℤ-neg_ℤ}
use lib.Signed.{le_z}
use borrow.Author.Tests.{leb-true, le-leb}
use Rattle.exact.specs.Signed.{with_sign_of}
use Rattle.exact.specs.Rounding.{half_up, half_up_to, half_away}
use Rattle.exact.specs.Units.{UpTo}
use Rattle.exact.specs.Fractions.{Away, Fractions}
use Rattle.exact.proofs.Integers.{abs_sign, sign_abs}
use Rattle.exact.proofs.HalfUp.{half_whole, half_within}
use Rattle.exact.proofs.UnitLaws.{half_order, half_none, neg_at_most, neg_order, up_to_lem, one_up}

-- ---- in parts

-- each d in the size gives m; what is left is rounded
pub half_parts : (n m d : ℕ) → 0 < d → half_up (n * m) d ≡ n / d * m + half_up (n % d * m) d
half_parts n m d h =
    let e : n * m ≡ n / d * m * d + n % d * m =
    ap (λ (x : ℕ). x * m) (sym (div-add-mod' n d)) ∙ add-mul (n / d * d) (n % d) m ∙ ap (λ (x : ℕ). x + n % d * m) (mul_right_comm (n / d) d m) in
    ap (λ (x : ℕ). half_up x d) e ∙ half_whole (n / d * m) (n % d * m) d h

-- what is left, times m, is within d times m
pub rest_within : (n m d : ℕ) → 0 < d → n % d * m ≤ d * m
rest_within n m d h = mul-le-mul_right m (le_of_lt (mod-lt n h))

-- how large it gets
pub fraction_within : (k : ℕ) (z : ℤ) (m d : ℕ) → nat_abs z * m ≤ k * d → nat_abs (half_away z m d) ≤ k
fraction_within k z m d h = omega (arith, abs_sign z (half_up (nat_abs z * m) d), half_within k (nat_abs z * m) d h)

-- ---- for every fraction

module _ (m d : ℕ) (h : 0 < d) where
  abbrev up : UpTo 1 d
  up = up_to_lem 1 d (omega arith) h

  size : (z : ℤ) → nat_abs (half_away z m d) ≡ half_up_to (nat_abs z * m) d 1
  size z = abs_sign z (half_up (nat_abs z * m) d) ∙ sym (one_up (nat_abs z * m) d)

  turned : (z : ℤ) → half_away (neg_ℤ z) m d ≡ neg_ℤ (half_away z m d)
  turned (pos zero) =
      let none : half_up (0 * m) d ≡ 0 = ap (λ (n : ℕ). half_up n d) (zero-mul m) ∙ half_none d in
      ap pos none ∙ sym (ap (λ (n : ℕ). neg_ℤ (pos n)) none)
  turned (pos (suc n)) = refl
  turned (negsuc n) = sym (neg_ℤ-neg_ℤ (pos (half_up (suc n * m) d)))

  sized : (a b : ℕ) → a ≤ b → half_up (a * m) d ≤ half_up (b * m) d
  sized a b k = half_order (a * m) (b * m) d (mul-le-mul_right m k)

  order : (a b : ℤ) → le_z a b ≡ true → le_z (half_away a m d) (half_away b m d) ≡ true
  order (pos a) (pos b) k = le-leb (half_up (a * m) d) (half_up (b * m) d) (sized a b (leb-true a b k))
  order (pos a) (negsuc b) k = absurd (false≢true k)
  order (negsuc a) (pos b) k = neg_at_most (half_up (suc a * m) d) (half_up (b * m) d)
  order (negsuc a) (negsuc b) k = neg_order (half_up (suc a * m) d) (half_up (suc b * m) d) (sized (suc b) (suc a) (omega (arith, leb-true b a k)))

  nearest : (n k : ℕ) → 2 * (d * k) ≤ 2 * n + d → 2 * n < 2 * (d * k) + d → half_up n d ≡ k
  nearest n k a b =
      let d1 = mul-one d in
      let k1 = mul-one k in
      let e : 2 * (d * (k * 1)) ≡ 2 * (d * k) = ap (λ (x : ℕ). 2 * (d * x)) k1 in
      sym (one_up n d) ∙ sym (up.only n k (omega arith) (omega arith)) ∙ k1

  pub away : Away m d
  away =
      record {
        above = λ z. let d1 = mul-one d in omega (arith, up.above (nat_abs z * m), ap (λ (x : ℕ). d * x) (size z));
        below = λ z. let d1 = mul-one d in omega (arith, up.below (nat_abs z * m), ap (λ (x : ℕ). d * x) (size z));
        whole = λ z k e. ap (with_sign_of z) (nearest (nat_abs z * m) k (omega (arith, e, as_times k)) (omega (arith, e, as_times k, h)));
        halves = λ z k e. ap (with_sign_of z) (nearest (nat_abs z * m) (suc k) (omega (arith, e, as_half k)) (omega (arith, e, as_half k, h)));
        turned = turned;
        order = order;
        more = λ z n k. omega (
          arith,
          abs_sign z (half_up (nat_abs z * m) d),
          abs_sign z (half_up (nat_abs z * n) d),
          half_order (nat_abs z * m) (nat_abs z * n) d
              (mul-le-mul_left (nat_abs z) k),
        );
      }
    where
      as_times : (k : ℕ) → d * k ≡ k * d
      as_times k = omega arith

      as_half : (k : ℕ) → 2 * (d * suc k) ≡ (2 * k + 1) * d + d
      as_half k = omega arith

pub fractions : Fractions
fractions = record { away = away; one = λ z d h. (away d d h).whole z (nat_abs z) refl ∙ sign_abs z }
