-- What a contract's rows come to, and the ranges under which it is counted without loss.
-- Assumes nothing.
use Rattle.std.specs.Prelude.{◌≡◌, cond, List, [], map, ℕ, ◌+◌, ◌*◌, ◌≤◌, ◌<◌, eqb, ℤ, pos, nat_abs, ◌+ℤ◌, length, get_or, take}
use Rattle.exact.specs.Lists.{keep, sum_ℤ, count}
use Rattle.exact.specs.Rounding.{half_away_to}
pub use Rattle.exact.specs.Signed.{Sized}
use Rattle.record.specs.Layout.{Record, lots, delta, value, loss, day, currency, most_currency, hundred_thousand, one_lot, most_value, scenario_count}
use Rattle.account.specs.Check.{most_rows}
use Rattle.account.specs.Parts.{on_day}
use Rattle.account.specs.Products.{in_own, in_hundredths, converted_at, rate_for, raised, lowered, most_factor, most_conversion}
use Rattle.account.specs.code.Rates.{RatesOf}
use Rattle.account.specs.declared.rates.Rates.{Rates}
use Rattle.spread.specs.declared.Delta.{Delta}
use Rattle.spread.specs.Accepted.{prompt_places}
use Rattle.spread.specs.code.Lent.{deltas_from}
use Rattle.formulas.specs.declared.rows.Days.{Days}
use Rattle.formulas.specs.declared.rows.Position.{Position}
pub use Rattle.formulas.specs.code.Sums.{deltas_in}
use Rattle.formulas.specs.Bounds.{most_product, most_row_delta}
use Rattle.formulas.specs.Scanning.{product, total, totals}
use Rattle.formulas.specs.Deltas.{row_delta, of_day, net_deltas}
use Rattle.formulas.specs.Margin.{short_lots}

-- "lots -100,000..100,000 ..; value 1..10,000; losses -100,000..100,000; delta 0..10,000 .., -10,000..0 for puts"
pub record RowFit (row : Record) : Type 0 where
  pub lots_within : nat_abs (lots row) ≤ hundred_thousand
  pub delta_within : nat_abs (delta row) ≤ one_lot
  pub value_within : value row ≤ most_value
  pub loss_within : (s : ℕ) → 1 ≤ s → s ≤ scenario_count → nat_abs (loss row s) ≤ hundred_thousand

-- 2026-05: neither a 14 nor a 15, at a rate within its range
pub record RowRated (rates : List Record) (row : Record) : Type 0 where
  pub currency_within : currency row ≤ most_currency
  pub raised_within : raised (rate_for rates (currency row)) ≤ most_factor
  pub lowered_within : lowered (rate_for rates (currency row)) ≤ most_factor
  pub conversion_within : (s : ℕ) → 1 ≤ s → s ≤ scenario_count → nat_abs (in_hundredths rates s row) ≤ most_conversion

-- so each row at the rates that a table holds
pub record RatedBy (t : Rates) (rows : List Record) : Type 0 where
  pub rates : List Record
  pub held : RatesOf rates t
  pub each : (k : ℕ) → k < length rows → RowRated rates (get_or rows k [])

-- "per contract .. 128 rows", each within its ranges
pub record RowsFit (rows : List Record) : Type 0 where
  pub few : length rows ≤ most_rows
  pub each : (k : ℕ) → k < length rows → RowFit (get_or rows k [])

-- n numbers, each of a size up to the most
pub record AtMost (n most : ℕ) (zs : List ℤ) : Type 0 where
  pub as_many : length zs ≡ n
  pub size : (k : ℕ) → k < n → nat_abs (get_or zs k (pos 0)) ≤ most

-- the first n numbers, each with more added to it, and the others as they were
pub record Added (n : ℕ) (more : ℕ → ℤ) (xs ys : List ℤ) : Type 0 where
  pub as_many : length ys ≡ length xs
  pub added : (k : ℕ) → k < n → get_or ys k (pos 0) ≡ get_or xs k (pos 0) +ℤ more k
  pub others : (k : ℕ) → n ≤ k → get_or ys k (pos 0) ≡ get_or xs k (pos 0)

-- lots × delta over the rows of a day
abbrev pub net_on : List Record → ℕ → ℤ
net_on rows d = sum_ℤ (map row_delta (keep (of_day d) rows))

-- the same over rows of whatever days
abbrev pub rows_net : List Record → ℤ
rows_net rows = sum_ℤ (map row_delta rows)

-- what a row adds to each total, scenario 1 first
abbrev pub products : List Record → ℕ → Record → ℕ → ℤ
products rates unit row k = product rates unit (k + 1) row

-- the same of a row in the margin currency, and of one in another at its raised and its lowered rate
abbrev pub own_products : ℕ → Record → ℕ → ℤ
own_products unit row k = half_away_to (in_own (k + 1) row) unit

abbrev pub converted_products : ℕ → ℕ → ℕ → Record → ℕ → ℤ
converted_products up down unit row k = half_away_to (converted_at up down (in_own (k + 1) row)) unit

pub record FactorsFit (up down : ℕ) (row : Record) : Type 0 where
  pub up_within : up ≤ most_factor
  pub down_within : down ≤ most_factor
  pub conversion_within : (s : ℕ) → 1 ≤ s → s ≤ scenario_count → nat_abs (converted_at up down (in_own s row)) ≤ most_conversion

-- what a row of a day adds to the net delta of each prompt, by the prompts' days
abbrev pub adds_on : List ℕ → ℕ → ℤ → ℕ → ℤ
adds_on days d more j = cond (eqb d (get_or days j 0)) more (pos 0)

-- the days of prompts
pub record DaysOf (prompts : List Record) (d : Days) : Type 0 where
  pub count_is : d.count ≡ length prompts
  pub few : d.count ≤ prompt_places
  pub day_is : (j : ℕ) → j < length prompts → get_or d.day j 0 ≡ day (get_or prompts j [])

-- the days of a lent array, the first so many
abbrev pub days_in : ℕ → List ℕ → Days
days_in count days = record { count = count; day = days }

-- the first place of a day among the first n days, and n where there is none
pub record FirstPlace (days : List ℕ) (n d r : ℕ) : Type 0 where
  pub high : r ≤ n
  pub here : r < n → get_or days r 0 ≡ d
  pub others : (j : ℕ) → j < r → get_or days j 0 ≡ d → ⊥

-- the one place of a day among the first n days
pub record OnePlace (n : ℕ) (days : List ℕ) (d : ℕ) : Type 0 where
  pub place : ℕ
  pub within : place < n
  pub here : get_or days place 0 ≡ d
  pub only : (j : ℕ) → j < n → get_or days j 0 ≡ d → j ≡ place

-- each row has one, by its day
abbrev pub RowsPlaced : ℕ → List ℕ → List Record → Type 0
RowsPlaced n days rows = (k : ℕ) → k < length rows → OnePlace n days (day (get_or rows k []))

-- each guess is one of the first n places, where there are any
abbrev pub Guessed : ℕ → List ℕ → Type 0
Guessed n guess = 0 < n → (k : ℕ) → get_or guess k 0 < n

-- what rows come to at these rates, for a contract with this unit and these prompts; the nets past its prompts are 0
pub record PositionOf (rates : List Record) (unit : ℕ) (prompts rows : List Record) (p : Position) : Type 0 where
  pub totals_are : p.totals.0 ≡ totals rates unit rows
  pub nets_are : take (length prompts) (deltas_in p.nets) ≡ net_deltas prompts rows
  pub nets_beyond : (j : ℕ) → length prompts ≤ j → get_or (deltas_in p.nets) j (pos 0) ≡ pos 0
  pub places : length (deltas_in p.nets) ≡ prompt_places
  pub shorts_are : p.shorts ≡ short_lots rows

-- the position of rows that has these net deltas
abbrev pub with_nets : List Record → ℕ → List Record → List Delta → Position
with_nets rates unit rows nets = record { totals = record { 0 = totals rates unit rows }; nets = nets; shorts = short_lots rows }

-- the position of lent numbers
abbrev pub position_in : List ℤ → List ℤ → ℕ → Position
position_in totals nets shorts = record { totals = record { 0 = totals }; nets = deltas_from nets; shorts = shorts }

-- no more than what n rows within their ranges can come to
pub record Bounded (n : ℕ) (p : Position) : Type 0 where
  pub totals_most : AtMost scenario_count (n * most_product) p.totals.0
  pub nets_most : AtMost prompt_places (n * most_row_delta) (deltas_in p.nets)
  pub shorts_most : p.shorts ≤ n * hundred_thousand

-- q is the position p with more rows
pub record WithRows (rates : List Record) (unit : ℕ) (days : Days) (p : Position) (rows : List Record) (q : Position) : Type 0 where
  pub totals-added : Added scenario_count (λ k. total rates unit rows (k + 1)) p.totals.0 q.totals.0
  pub nets_added : Added days.count (λ j. net_on rows (get_or days.day j 0)) (deltas_in p.nets) (deltas_in q.nets)
  pub shorts_added : q.shorts ≡ p.shorts + short_lots rows

-- p has these rows among those that it is of
pub record HasRows (t : Rates) (unit : ℕ) (days : Days) (rows : List Record) (p : Position) : Type 0 where
  pub rates : List Record
  pub held : RatesOf rates t
  pub before : Position
  pub added : WithRows rates unit days before rows p

-- each row is of the day of one prompt
abbrev pub OneDay : List Record → List Record → Type 0
OneDay prompts rows = (k : ℕ) → k < length rows → count (on_day (day (get_or rows k []))) prompts ≡ 1
