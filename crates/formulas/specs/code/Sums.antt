-- What the sums of charges and credits are made of, place by place, and the bounds within which they are made.
-- Assumes nothing.
use Rattle.std.specs.Prelude.{ℕ, ◌*◌, ◌≤◌, ◌<◌, List, [], ◌∷◌, length, get_or, ℤ, pos, nat_abs}
use Rattle.record.specs.Layout.{Record, rate_per_spread, spread_rate_of, outright_rate_of, percent, most_unit}
use Rattle.record.specs.Within.{Between}
use Rattle.account.specs.Check.{most_prompts, most_spreads, most_entries}
pub use Rattle.spread.specs.code.Lent.{deltas_in}
use Rattle.spread.specs.declared.Delta.{Delta}
use Rattle.spread.specs.declared.Spreads.{Spreads}
use Rattle.formulas.specs.Bounds.{most_delta, most_formed, most_rate, most_risk}
use Rattle.formulas.specs.Credit.{entry_use}

-- the numbers of both steps, spread by spread
abbrev pub interleaved : List Spreads → List Spreads → List ℕ
interleaved [] seconds = []
interleaved (a ∷ firsts) [] = []
interleaved (a ∷ firsts) (b ∷ seconds) = a.0 ∷ b.0 ∷ interleaved firsts seconds

abbrev pub spreads_at : List Spreads → ℕ → ℕ
spreads_at xs k = (get_or xs k (record { 0 = 0 })).0

abbrev pub delta_in : List Delta → ℕ → ℤ
delta_in ds k = (get_or ds k (record { 0 = pos 0 })).0

pub record SpreadRoom (unit : ℕ) (s : Record) (first second : ℕ) : Type 0 where
  pub unit_within : unit ≤ most_unit
  pub rate : rate_per_spread s ≤ most_rate
  pub first_within : first ≤ most_delta
  pub second_within : second ≤ most_delta

pub record SpreadsWithin (unit : ℕ) (spreads : List Record) (firsts seconds : List Spreads) : Type 0 where
  pub most : length spreads ≤ most_spreads
  pub firsts_there : length spreads ≤ length firsts
  pub seconds_there : length spreads ≤ length seconds
  pub each : (k : ℕ) → k < length spreads → SpreadRoom unit (get_or spreads k []) (spreads_at firsts k) (spreads_at seconds k)

pub record PromptRoom (unit : ℕ) (prompt : Record) (used unused : ℤ) : Type 0 where
  pub unit_within : unit ≤ most_unit
  pub spread_rate : spread_rate_of prompt ≤ most_rate
  pub outright_rate : outright_rate_of prompt ≤ most_rate
  pub used_within : nat_abs used ≤ most_delta
  pub unused_within : nat_abs unused ≤ most_delta

pub record PromptsWithin (unit : ℕ) (prompts : List Record) (used unused : List ℤ) : Type 0 where
  pub most : length prompts ≤ most_prompts
  pub used_there : length prompts ≤ length used
  pub unused_there : length prompts ≤ length unused
  pub each : (k : ℕ) → k < length prompts → PromptRoom unit (get_or prompts k []) (get_or used k (pos 0)) (get_or unused k (pos 0))

-- an entry that uses no more of a contract than its net delta
pub record CreditRoom (unit c twice net : ℕ) (e : Record) (first second : ℕ) : Type 0 where
  pub unit_within : Between 1 unit most_unit
  pub price_within : twice ≤ 4 * most_risk
  pub net_within : net ≤ most_delta
  pub percent_within : percent e ≤ 100
  pub first_within : first ≤ most_formed
  pub second_within : second ≤ most_formed
  pub use_within : entry_use c e first second ≤ net

pub record EntriesRoom (unit c twice net : ℕ) (entries : List Record) (firsts seconds : List Spreads) : Type 0 where
  pub most : length entries ≤ most_entries
  pub each : (k : ℕ) → k < length entries → CreditRoom unit c twice net (get_or entries k []) (spreads_at firsts k) (spreads_at seconds k)
