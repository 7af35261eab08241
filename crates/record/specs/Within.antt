-- What the ranges of document 01 say of a record of each kind whose fields are all within them.
-- Assumes nothing.
use Rattle.std.specs.Prelude.{ℕ, ◌≤◌, ◌≡◌, nat_abs}
use Rattle.record.specs.Layout.{Record, contract, short_option_rate, unit, most_unit, tier, day, spread_rate_of, outright_rate_of, row_type, currency, lots, delta}
use Rattle.record.specs.Layout.{value, loss, leg_count, rate_per_spread, leg_tier, leg_side, leg_ratio, second_contract, percent, first_ratio, second_ratio}
use Rattle.record.specs.Layout.{tenths, most_entry_ratio, most_contract, most_day, most_tier, most_rate, most_ratio, hundred_thousand, most_value, most_row_type}
use Rattle.record.specs.Layout.{one_lot, scenario_count, most_percent, most_currency, rate_currency, spot_rate, most_spot_rate, adjustment, most_adjustment}

pub record Between (low x high : ℕ) : Type 0 where
  pub least : low ≤ x
  pub most : x ≤ high

pub record ContractWithin (r : Record) : Type 0 where
  pub contracts : contract r ≤ most_contract
  pub rates : short_option_rate r ≤ most_rate
  pub units : Between 1 (unit r) most_unit

pub record PromptWithin (r : Record) : Type 0 where
  pub contracts : contract r ≤ most_contract
  pub tiers : Between 1 (tier r) most_tier
  pub days : Between 1 (day r) most_day
  pub spread_rates : spread_rate_of r ≤ most_rate
  pub outright_rates : outright_rate_of r ≤ most_rate

pub record RowWithin (r : Record) : Type 0 where
  pub contracts : contract r ≤ most_contract
  pub types : row_type r ≤ most_row_type
  pub currencies : currency r ≤ most_currency
  pub days : Between 1 (day r) most_day
  pub lotss : nat_abs (lots r) ≤ hundred_thousand
  pub deltas : nat_abs (delta r) ≤ one_lot
  pub values : Between 1 (value r) most_value
  pub losses : (scenario : ℕ) → Between 1 scenario scenario_count → nat_abs (loss r scenario) ≤ hundred_thousand

pub record LegWithin (r : Record) (leg : ℕ) : Type 0 where
  pub tiers : Between 1 (leg_tier r leg) most_tier
  pub sides : Between 1 (leg_side r leg) 2
  pub ratios : Between 1 (leg_ratio r leg) most_ratio

pub record SpreadWithin (r : Record) : Type 0 where
  pub contracts : contract r ≤ most_contract
  pub leg_counts : Between 2 (leg_count r) 3
  pub rates : rate_per_spread r ≤ most_rate
  pub first_leg : LegWithin r 0
  pub second_leg : LegWithin r 1
  pub third_leg : leg_count r ≡ 3 → LegWithin r 2

pub record EntryWithin (r : Record) : Type 0 where
  pub contracts : contract r ≤ most_contract
  pub seconds : second_contract r ≤ most_contract
  pub percents : percent r ≤ most_percent
  pub first_ratios : Between 1 (first_ratio r) (most_entry_ratio (tenths r))
  pub second_ratios : Between 1 (second_ratio r) (most_entry_ratio (tenths r))

pub record RateWithin (r : Record) : Type 0 where
  pub currencies : Between 1 (rate_currency r) most_currency
  pub spot_rates : Between 1 (spot_rate r) most_spot_rate
  pub adjustments : adjustment r ≤ most_adjustment
