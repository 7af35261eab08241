-- What a contract's sixteen totals say, as one promise.
-- Assumes nothing.
use Rattle.std.specs.Prelude.{ℕ, ◌*◌, ◌≤◌, ◌≡◌, List, ℤ, nat_abs}
use Rattle.formulas.specs.Bounds.{most_risk}
use Rattle.formulas.specs.Scanning.{scanning_risk, active_scenario}
use Rattle.formulas.specs.Credit.{total_of, twice_price_risk}

-- totals as an accepted account has them
pub record TotalsWithin (ts : List ℤ) : Type 0 where
  pub each : (scenario : ℕ) → nat_abs (total_of ts scenario) ≤ most_risk

pub record Scanned (ts : List ℤ) (active scanning twicePrice : ℕ) : Type 0 where
  pub active_is : active ≡ active_scenario ts
  pub scanning_is : scanning ≡ scanning_risk ts
  pub price_is : twicePrice ≡ twice_price_risk ts
  pub scanning_within : scanning ≤ most_risk
  pub price_within : twicePrice ≤ 4 * most_risk
