-- Rounding, halves up: what it is of a quotient and a remainder, and how large it gets.
-- Assumes nothing.
use mathlib.Core.Path.{◌≡◌, refl, sym, ◌∙◌, ap}
use mathlib.Core.Bool.{Bool, true, false}
use Prim.Native.Nat.{ℕ, zero, suc, ◌+◌, ◌*◌, ◌/◌, ◌%◌, ◌≤◌, ◌<◌}
use native.Mathlib.Nat.{zero-mul, div-zero, div-add-mod', div-mul-le_self, mul_left_comm, mul-add-div_right, div-eq_of_lt, div-eq_of_lt-le, div-lt_iff_lt-mul}
use native.Mathlib.Nat.{mod-lt, le-mul_of_pos_right}
use native.Mathlib.Omega.{arith}
use lib.Dec.{leb}
use borrow.Author.Tests.{leb-true, leb-false}
use Rattle.exact.specs.Rounding.{half_up}

pub half_zero : (n : ℕ) → half_up n 0 ≡ 0
half_zero n = div-zero (2 * n + 0)

-- a whole number of divisors is no part of the rounding, however large the number: the one law behind what is worked out in
-- parts, so that nothing outgrows 64 bits
pub half_whole : (q n d : ℕ) → 0 < d → half_up (q * d + n) d ≡ q + half_up n d
half_whole q n d h =
    let e : 2 * (q * d + n) + d ≡ q * (2 * d) + (2 * n + d) = omega (arith, mul_left_comm q 2 d) in
    ap (λ (x : ℕ). x / (2 * d)) e ∙ mul-add-div_right (omega arith) q (2 * n + d)

-- the quotient, and the remainder rounded
pub half_split : (n d : ℕ) → half_up n d ≡ n / d + half_up (n % d) d
half_split n zero = half_zero n ∙ sym (omega (arith, div-zero n, half_zero (n % 0)))
half_split n (suc k) = ap (λ (x : ℕ). half_up x (suc k)) (sym (div-add-mod' n (suc k))) ∙ half_whole (n / suc k) (n % suc k) (suc k) (omega arith)

pub half_down : (r d : ℕ) → 2 * r < d → half_up r d ≡ 0
half_down r d h = div-eq_of_lt (omega arith)

pub half_one : (r d : ℕ) → r < d → d ≤ 2 * r → half_up r d ≡ 1
half_one r d h k = div-eq_of_lt-le (2 * d) (omega arith) (omega arith)

-- the remainder is at least half of d, or below it
pub half_above : (n d : ℕ) → 0 < d → d ≤ 2 * (n % d) → half_up n d ≡ n / d + 1
half_above n d h k = half_split n d ∙ ap (λ (x : ℕ). n / d + x) (half_one (n % d) d (mod-lt n h) k)

pub half_below : (n d : ℕ) → 2 * (n % d) < d → half_up n d ≡ n / d
half_below n d h = half_split n d ∙ omega (arith, half_down (n % d) d h)

-- at most k where the number is at most k times d
pub half_within : (k n d : ℕ) → n ≤ k * d → half_up n d ≤ k
half_within k n zero h = omega (arith, half_zero n)
half_within k n (suc e) h = omega (arith, (div-lt_iff_lt-mul {k = 2 * suc e} {x = 2 * n + suc e} {y = k + 1} (omega arith)).1 (omega arith))

-- one more than a quotient that is rounded up is at most the number
pub half_room : (n d : ℕ) → 0 < d → d ≤ 2 * (n % d) → n / d + 1 ≤ n
half_room n d h k = omega (arith, div-add-mod' n d, le-mul_of_pos_right (n / d) h)

-- rounding at most doubles what is rounded
pub half_twice : (n d : ℕ) → half_up n d * d ≤ 2 * n
half_twice n d = go (leb d (2 * n)) refl
  where
    go : (t : Bool) → leb d (2 * n) ≡ t → half_up n d * d ≤ 2 * n
    go true e = omega (arith, leb-true d (2 * n) e, div-mul-le_self (2 * n + d) (2 * d), mul_left_comm (half_up n d) 2 d)
    go false e = rw (half_down n d (leb-false d (2 * n) e)) (omega (arith, zero-mul d))
