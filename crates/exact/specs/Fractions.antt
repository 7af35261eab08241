-- 2026-05: "rounded to a hundredth, halves away from zero". What rounding z × m / d is, whatever the fraction.
-- Assumes nothing.
use Rattle.std.specs.Prelude.{ℕ, suc, ◌+◌, ◌*◌, ◌≤◌, ◌<◌, ◌≡◌, true, ℤ, neg_ℤ, nat_abs}
use Rattle.std.specs.Int.Signed.{le_z}
use Rattle.exact.specs.Signed.{with_sign_of}
use Rattle.exact.specs.Rounding.{half_away}

pub record Away (m d : ℕ) : Type 0 where
  -- at most half away: as much above, and not as much below
  pub above : (z : ℤ) → 2 * (d * nat_abs (half_away z m d)) ≤ 2 * (nat_abs z * m) + d
  pub below : (z : ℤ) → 2 * (nat_abs z * m) < 2 * (d * nat_abs (half_away z m d)) + d
  -- what divides is not rounded
  pub whole : (z : ℤ) (k : ℕ) → nat_abs z * m ≡ k * d → half_away z m d ≡ with_sign_of z k
  -- k and a half go to the next, on either side of zero
  pub halves : (z : ℤ) (k : ℕ) → 2 * (nat_abs z * m) ≡ (2 * k + 1) * d → half_away z m d ≡ with_sign_of z (suc k)
  pub turned : (z : ℤ) → half_away (neg_ℤ z) m d ≡ neg_ℤ (half_away z m d)
  pub order : (a b : ℤ) → le_z a b ≡ true → le_z (half_away a m d) (half_away b m d) ≡ true
  -- a larger fraction gives no less
  pub more : (z : ℤ) (n : ℕ) → m ≤ n → nat_abs (half_away z m d) ≤ nat_abs (half_away z n d)

pub record Fractions : Type 0 where
  pub away : (m d : ℕ) → 0 < d → Away m d
  -- the whole: nothing is changed
  pub one : (z : ℤ) (d : ℕ) → 0 < d → half_away z d d ≡ z
