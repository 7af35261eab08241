-- "Scanning risk (002)" of document 01, and requests 2026-05 and 2026-09 of document 02. Amounts are in hundredths of the margin
-- currency.
-- Assumes nothing.
use Rattle.std.specs.Prelude.{ℕ, List, [], ◌∷◌, map, ℤ}
use Rattle.exact.specs.Lists.{sum_ℤ}
use Rattle.exact.specs.Rounding.{half_away_to}
use Rattle.exact.specs.Signed.{or_zero}
use Rattle.exact.specs.Largest.{largest, first_at}
use Rattle.record.specs.Layout.{Record}
-- "lots × value × loss", converted at the row's rate
pub use Rattle.account.specs.Products.{in_hundredths}

-- 2026-09: "Every row product, after conversion to hundredths, is rounded to" the contract's unit, "halves away from zero"
abbrev pub product : List Record → ℕ → ℕ → Record → ℤ
product rates unit scenario row = half_away_to (in_hundredths rates scenario row) unit

-- "For each scenario add lots × value × loss over the contract's rows."
abbrev pub total : List Record → ℕ → List Record → ℕ → ℤ
total rates unit rows scenario = sum_ℤ (map (product rates unit scenario) rows)

abbrev pub scenarios : List ℕ
scenarios = 1 ∷ 2 ∷ 3 ∷ 4 ∷ 5 ∷ 6 ∷ 7 ∷ 8 ∷ 9 ∷ 10 ∷ 11 ∷ 12 ∷ 13 ∷ 14 ∷ 15 ∷ 16 ∷ []

abbrev pub totals : List Record → ℕ → List Record → List ℤ
totals rates unit rows = map (total rates unit rows) scenarios

-- "Scanning risk is the largest total, or 0 if that is negative."
abbrev pub scanning_risk : List ℤ → ℕ
scanning_risk ts = or_zero (largest ts)

-- "The active scenario is the lowest number holding the largest total, even a negative one (house)."
abbrev pub active_scenario : List ℤ → ℕ
active_scenario ts = first_at (largest ts) ts
