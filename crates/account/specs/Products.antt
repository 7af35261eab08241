-- Request 2026-05 of document 02: what a row loses or gains in a scenario, in hundredths of the margin currency.
-- Assumes nothing.
use Rattle.std.specs.Prelude.{ℕ, ◌+◌, ◌-◌, ◌*◌, ◌≤◌, ◌≡◌, Bool, true, not, ◌&&◌, ◌||◌, cond, List, [], ◌∷◌, eqb, ltb, ℤ, pos, nat_abs, ◌*ℤ◌}
use Rattle.exact.specs.Lists.{any}
use Rattle.exact.specs.Rounding.{half_away}
use Rattle.exact.specs.Signed.{negative}
use Rattle.record.specs.Bytes.{count_from}
use Rattle.record.specs.Layout.{Record, lots, value, loss, scenario_count, currency, rate_currency, spot_rate, adjustment, hundred_thousand, most_value}
use Rattle.record.specs.Within.{Between}

-- "lots × value × loss": above 0 a loss, below it a gain, in hundredths of the row's own currency
abbrev pub in_own : ℕ → Record → ℤ
in_own scenario row = lots row *ℤ pos (value row) *ℤ loss row scenario

-- lots × value of a row: 100,000 × 10,000
abbrev pub most_per_tick : ℕ
most_per_tick = hundred_thousand * most_value

-- the rate of a currency, and an empty record where none is listed
abbrev pub of_currency : ℕ → Record → Bool
of_currency c rate = eqb (rate_currency rate) c

abbrev pub rate_for : List Record → ℕ → Record
rate_for [] c = []
rate_for (rate ∷ rates) c = cond (of_currency c rate) rate (rate_for rates c)

-- "the rate raised by that percent", and "lowered by it": of a spot rate in millionths, in hundred-millionths
abbrev pub raised : Record → ℕ
raised rate = spot_rate rate * (100 + adjustment rate)

abbrev pub lowered : Record → ℕ
lowered rate = spot_rate rate * (100 - adjustment rate)

abbrev pub hundred_million : ℕ
hundred_million = 100000000

-- "Each row's loss in a scenario is converted at the rate raised by that percent, each gain at the rate lowered by it, rounded to
-- a hundredth, halves away from zero. Whether it is loss or gain goes by the sign of lots × value × loss"
abbrev pub converted_at : ℕ → ℕ → ℤ → ℤ
converted_at up down z = half_away z (cond (negative z) down up) hundred_million

abbrev pub converted : Record → ℤ → ℤ
converted rate z = converted_at (raised rate) (lowered rate) z

-- "currency 0 is not converted"
abbrev pub in_hundredths : List Record → ℕ → Record → ℤ
in_hundredths rates scenario row =
    cond (eqb (currency row) 0) (in_own scenario row) (converted (rate_for rates (currency row)) (in_own scenario row))

-- 14: "a row whose currency has no rate"
abbrev pub has_rate : List Record → Record → Bool
has_rate rates row = eqb (currency row) 0 || any (of_currency (currency row)) rates

-- 15: "a rounded conversion beyond ±100,000,000,000,000"
abbrev pub most_conversion : ℕ
most_conversion = 100000000000000

abbrev pub beyond_in : List Record → Record → ℕ → Bool
beyond_in rates row scenario = ltb most_conversion (nat_abs (in_hundredths rates scenario row))

abbrev pub conversion_beyond : List Record → Record → Bool
conversion_beyond rates row = not (eqb (currency row) 0) && any (beyond_in rates row) (count_from 1 scenario_count)

-- a row that gets neither
pub record Convertible (rates : List Record) (row : Record) : Type 0 where
  pub rated : has_rate rates row ≡ true
  pub within : (scenario : ℕ) → Between 1 scenario scenario_count → nat_abs (in_hundredths rates scenario row) ≤ most_conversion

-- ---- the table of rates

-- a rate of 100 raised by 50 percent
abbrev pub most_factor : ℕ
most_factor = 15000000000
