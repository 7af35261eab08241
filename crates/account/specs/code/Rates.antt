-- The table of rates, as the code holds it.
-- Assumes nothing.
use Rattle.std.specs.Prelude.{ℕ, ◌+◌, ◌≤◌, ◌≡◌, List, length, get_or}
use Rattle.record.specs.Layout.{Record, most_currency}
use Rattle.record.specs.Within.{RateWithin}
use Rattle.account.specs.Accepted.{Each}
use Rattle.account.specs.declared.rates.Rates.{Rates}
use Rattle.account.specs.Products.{rate_for, raised, lowered}

-- the table holds the raised and the lowered rate of each currency
pub record RatesOf (rates : List Record) (t : Rates) : Type 0 where
  pub raised-places : length t.raised ≡ most_currency + 1
  pub lowered-places : length t.lowered ≡ most_currency + 1
  pub raised_are : (c : ℕ) → c ≤ most_currency → get_or t.raised c 0 ≡ raised (rate_for rates c)
  pub lowered_are : (c : ℕ) → c ≤ most_currency → get_or t.lowered c 0 ≡ lowered (rate_for rates c)

-- it holds some rates within their ranges
pub record HoldsRates (t : Rates) : Type 0 where
  pub rates : List Record
  pub held : RatesOf rates t
  pub within : Each RateWithin rates
