-- 2026-09: "The rounding is to be proved once for all units." What rounding to a unit is, whatever the unit.
-- Assumes nothing.
use Rattle.std.specs.Prelude.{ℕ, suc, ◌+◌, ◌*◌, ◌%◌, ◌≤◌, ◌<◌, ◌≡◌, true, ℤ, neg_ℤ, nat_abs}
use Rattle.std.specs.Int.Signed.{le_z}
use Rattle.exact.specs.Rounding.{half_up, half_up_to, half_away_to}

-- n / d, halves up
pub record UpTo (unit d : ℕ) : Type 0 where
  pub multiple : (n : ℕ) → half_up_to n d unit % unit ≡ 0
  -- at most half a unit away: as much above, and not as much below
  pub above : (n : ℕ) → 2 * (d * half_up_to n d unit) ≤ 2 * n + d * unit
  pub below : (n : ℕ) → 2 * n < 2 * (d * half_up_to n d unit) + d * unit
  -- k units and a half go to the next unit
  pub halves : (n k : ℕ) → 2 * n ≡ (2 * k + 1) * (d * unit) → half_up_to n d unit ≡ suc k * unit
  -- no other multiple is as near
  pub only : (n k : ℕ) → 2 * (d * (k * unit)) ≤ 2 * n + d * unit → 2 * n < 2 * (d * (k * unit)) + d * unit → k * unit ≡ half_up_to n d unit
  pub order : (n m : ℕ) → n ≤ m → half_up_to n d unit ≤ half_up_to m d unit

-- a signed number, halves away from zero
pub record AwayTo (unit : ℕ) : Type 0 where
  pub multiple : (z : ℤ) → nat_abs (half_away_to z unit) % unit ≡ 0
  pub above : (z : ℤ) → 2 * nat_abs (half_away_to z unit) ≤ 2 * nat_abs z + unit
  pub below : (z : ℤ) → 2 * nat_abs z < 2 * nat_abs (half_away_to z unit) + unit
  -- k units and a half go to the next unit, on either side of zero
  pub halves : (z : ℤ) (k : ℕ) → 2 * nat_abs z ≡ (2 * k + 1) * unit → nat_abs (half_away_to z unit) ≡ suc k * unit
  pub turned : (z : ℤ) → half_away_to (neg_ℤ z) unit ≡ neg_ℤ (half_away_to z unit)
  pub order : (a b : ℤ) → le_z a b ≡ true → le_z (half_away_to a unit) (half_away_to b unit) ≡ true

pub record Units : Type 0 where
  pub up : (unit d : ℕ) → 0 < unit → 0 < d → UpTo unit d
  pub away : (unit : ℕ) → 0 < unit → AwayTo unit
  -- one hundredth: nothing is changed
  pub one_up : (n d : ℕ) → half_up_to n d 1 ≡ half_up n d
  pub one_away : (z : ℤ) → half_away_to z 1 ≡ z
