-- A contract's records as the check leaves them: what the figures and books rest on.
-- Assumes nothing.
use Rattle.std.specs.Prelude.{ℕ, ◌≤◌, ◌<◌, ◌≡◌, true, List, [], length, get_or}
use Rattle.record.specs.Layout.{Record, contract, short_option_rate, unit, most_unit, tier, spread_rate_of, outright_rate_of, rate_per_spread, second_contract, percent}
use Rattle.record.specs.Layout.{first_ratio, second_ratio, most_contract, most_rate, most_percent}
use Rattle.record.specs.Within.{Between}
use Rattle.account.specs.Check.{most_prompts, most_spreads, most_entries}
use Rattle.spread.specs.Accepted.{sound_spread, tier_count}
use Rattle.formulas.specs.Deltas.{interprompt}
use Rattle.formulas.specs.code.Position.{RowsFit, OneDay}

pub record PromptFit (p : Record) : Type 0 where
  pub tier_within : tier p < tier_count
  pub spread_rate : spread_rate_of p ≤ most_rate
  pub outright_rate : outright_rate_of p ≤ most_rate

pub record SpreadFit (s : Record) : Type 0 where
  pub rate : rate_per_spread s ≤ most_rate
  pub sound : sound_spread (interprompt s) ≡ true

pub record ContractFit (own : Record) (prompts rows spreads : List Record) : Type 0 where
  pub number : contract own ≤ most_contract
  pub rate : short_option_rate own ≤ most_rate
  pub unit_within : Between 1 (unit own) most_unit
  pub few_prompts : length prompts ≤ most_prompts
  pub few_spreads : length spreads ≤ most_spreads
  pub each_prompt : (k : ℕ) → k < length prompts → PromptFit (get_or prompts k [])
  pub one_day : OneDay prompts rows
  pub rows_within : RowsFit rows
  pub each_spread : (k : ℕ) → k < length spreads → SpreadFit (get_or spreads k [])

-- an entry of the intercontract table
pub record EntryFit (e : Record) : Type 0 where
  pub apart : contract e ≡ second_contract e → ⊥
  pub first_number_lem : contract e ≤ most_contract
  pub second_number_lem : second_contract e ≤ most_contract
  pub first_ratio_lem : 0 < first_ratio e
  pub second_ratio_lem : 0 < second_ratio e
  pub percent_within : percent e ≤ most_percent

pub record EntriesFit (entries : List Record) : Type 0 where
  pub few : length entries ≤ most_entries
  pub each : (k : ℕ) → k < length entries → EntryFit (get_or entries k [])
