-- Rounding to a unit, for every unit: a quotient by twice the unit says all of it.
-- Assumes nothing.
use mathlib.Core.Path.{◌≡◌, refl, sym, ◌∙◌, ap}
use mathlib.Core.Bool.{true, false≢true}
use Prim.Native.Nat.{ℕ, zero, suc, ◌+◌, ◌*◌, ◌%◌, ◌≤◌, ◌<◌}
use native.Mathlib.Nat.{zero-mul, mul-one, one-mul, mul-pos, mul_left_comm, mul-mod_left, mul-le-mul_right, div-mul-le_self, lt-div-mul-add, le-div_iff_mul-le}
use native.Mathlib.Nat.{div-eq_of_lt-le}
use native.Mathlib.Omega.{arith}
use lib.IntN.{ℤ, pos, negsuc, neg_ℤ, nat_abs, neg_ℤ-neg_ℤ}
use lib.Signed.{le_z}
use borrow.Author.Tests.{leb-true, le-leb}
use Rattle.exact.specs.Signed.{with_sign_of}
use Rattle.exact.specs.Rounding.{half_up, half_up_to, half_away_to}
use Rattle.exact.specs.Units.{UpTo, AwayTo, Units}
use Rattle.exact.proofs.Integers.{abs_sign, sign_abs}
use Rattle.exact.proofs.HalfUp.{half_zero, half_down}

-- ---- halves up

pub half_order : (n m d : ℕ) → n ≤ m → half_up n d ≤ half_up m d
half_order n m zero h = omega (arith, half_zero n)
half_order n m (suc e) h = (le-div_iff_mul-le {k = 2 * suc e} {x = half_up n (suc e)} {y = 2 * m + suc e} (omega arith)).1
    (omega (arith, div-mul-le_self (2 * n + suc e) (2 * suc e)))

pub half_none : (d : ℕ) → half_up 0 d ≡ 0
half_none zero = half_zero 0
half_none (suc e) = half_down 0 (suc e) (omega arith)

module _ (unit d : ℕ) where
  -- d times so many units, as a multiple of twice d × unit
  as_units : (k : ℕ) → 2 * (d * (k * unit)) ≡ k * (2 * (d * unit))
  as_units k = omega (arith, mul_left_comm d k unit, mul_left_comm k 2 (d * unit))

  pub up_none : half_up_to 0 d unit ≡ 0
  up_none = ap (λ (q : ℕ). q * unit) (half_none (d * unit)) ∙ zero-mul unit

  -- how large it gets, also where there is no unit
  pub up_above : (n : ℕ) → 2 * (d * half_up_to n d unit) ≤ 2 * n + d * unit
  up_above n = omega (arith, as_units (half_up n (d * unit)), div-mul-le_self (2 * n + d * unit) (2 * (d * unit)))

pub away_above : (unit : ℕ) (z : ℤ) → 2 * nat_abs (half_away_to z unit) ≤ 2 * nat_abs z + unit
away_above unit z = omega (arith, abs_sign z (half_up_to (nat_abs z) 1 unit), up_above unit 1 (nat_abs z))

module _ (unit d : ℕ) (hu : 0 < unit) (hd : 0 < d) where
  positive : 0 < d * unit
  positive = mul-pos hd hu

  pub up_to_lem : UpTo unit d
  up_to_lem =
      record {
        multiple = λ n. mul-mod_left (half_up n (d * unit)) unit;
        above = up_above unit d;
        below = λ n. omega (arith, as_units unit d (half_up n (d * unit)), lt-div-mul-add {a = 2 * n + d * unit} {b = 2 * (d * unit)} (omega (arith, positive)));
        halves = λ n k e. sym (nearest n (suc k) (omega (arith, as_half k, e)) (omega (arith, as_half k, e, positive)));
        only = nearest;
        order = λ n m h. mul-le-mul_right unit (half_order n m (d * unit) h);
      }
    where
      nearest : (n k : ℕ) → 2 * (d * (k * unit)) ≤ 2 * n + d * unit → 2 * n < 2 * (d * (k * unit)) + d * unit → k * unit ≡ half_up_to n d unit
      nearest n k a b =
          ap (λ (q : ℕ). q * unit) (sym (div-eq_of_lt-le (2 * (d * unit)) (omega (arith, as_units unit d k, a)) (omega (arith, as_units unit d k, b))))

      as_half : (k : ℕ) → 2 * (d * (suc k * unit)) ≡ (2 * k + 1) * (d * unit) + d * unit
      as_half k = as_units unit d (suc k) ∙ omega arith

-- ---- halves away from zero

-- of sizes, the negative ones the other way round
pub neg_at_most : (m k : ℕ) → le_z (neg_ℤ (pos m)) (pos k) ≡ true
neg_at_most zero k = le-leb 0 k (omega arith)
neg_at_most (suc m) k = refl

pub neg_order : (m k : ℕ) → k ≤ m → le_z (neg_ℤ (pos m)) (neg_ℤ (pos k)) ≡ true
neg_order m zero h = neg_at_most m 0
neg_order zero (suc k) h = absurd (omega arith)
neg_order (suc m) (suc k) h = le-leb k m (omega arith)

module _ (unit : ℕ) (hu : 0 < unit) where
  abbrev up : UpTo unit 1
  up = up_to_lem unit 1 hu (omega arith)

  size : (z : ℤ) → nat_abs (half_away_to z unit) ≡ half_up_to (nat_abs z) 1 unit
  size z = abs_sign z (half_up_to (nat_abs z) 1 unit)

  turned : (z : ℤ) → half_away_to (neg_ℤ z) unit ≡ neg_ℤ (half_away_to z unit)
  turned (pos zero) = ap pos (up_none unit 1) ∙ sym (ap (λ (n : ℕ). neg_ℤ (pos n)) (up_none unit 1))
  turned (pos (suc n)) = refl
  turned (negsuc n) = sym (neg_ℤ-neg_ℤ (pos (half_up_to (suc n) 1 unit)))

  order : (a b : ℤ) → le_z a b ≡ true → le_z (half_away_to a unit) (half_away_to b unit) ≡ true
  order (pos a) (pos b) h = le-leb (half_up_to a 1 unit) (half_up_to b 1 unit) (up.order a b (leb-true a b h))
  order (pos a) (negsuc b) h = absurd (false≢true h)
  order (negsuc a) (pos b) h = neg_at_most (half_up_to (suc a) 1 unit) (half_up_to b 1 unit)
  order (negsuc a) (negsuc b) h = neg_order (half_up_to (suc a) 1 unit) (half_up_to (suc b) 1 unit) (up.order (suc b) (suc a) (omega (arith, leb-true b a h)))

  pub away_to : AwayTo unit
  away_to =
      record {
        multiple = λ z. ap (λ (n : ℕ). n % unit) (size z) ∙ up.multiple (nat_abs z);
        above = away_above unit;
        below = λ z. omega (arith, size z, up.below (nat_abs z));
        halves = λ z k e. size z ∙ up.halves (nat_abs z) k (e ∙ ap (λ (n : ℕ). (2 * k + 1) * n) (sym (one-mul unit)));
        turned = turned;
        order = order;
      }

-- ---- one hundredth

pub one_up : (n d : ℕ) → half_up_to n d 1 ≡ half_up n d
one_up n d = mul-one (half_up n (d * 1)) ∙ ap (half_up n) (mul-one d)

pub one_away : (z : ℤ) → half_away_to z 1 ≡ z
one_away z =
    let same : half_up_to (nat_abs z) 1 1 ≡ nat_abs z = one_up (nat_abs z) 1 ∙ omega arith in
    ap (with_sign_of z) same ∙ sign_abs z

pub units : Units
units = record { up = up_to_lem; away = away_to; one_up = one_up; one_away = one_away }
