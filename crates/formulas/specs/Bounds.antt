-- The largest numbers that an accepted account can bring about.
-- Assumes nothing.
use Rattle.std.specs.Prelude.{ℕ, ◌+◌, ◌*◌}
use Rattle.record.specs.Layout.{hundred_thousand, one_lot}
use Rattle.account.specs.Check.{most_contracts, most_prompts, most_rows, most_spreads, most_entries}
pub use Rattle.record.specs.Layout.{most_rate}
-- of a net delta, a pool, a number of interprompt spreads
pub use Rattle.spread.specs.Accepted.{most_delta}

-- of a row: 100,000 lots × 10,000
abbrev pub most_row_delta : ℕ
most_row_delta = hundred_thousand * one_lot

-- of a number of intercontract spreads, whose ratios go down to a tenth: 10 × 16 contracts × 128,000,000,000
abbrev pub most_formed : ℕ
most_formed = 10 * (most_contracts * most_delta)

-- what rounding to a unit adds: half of the largest unit
abbrev pub most_rounding : ℕ
most_rounding = 500

-- the product of a row in a scenario, 100,000 lots × 10,000 × 100,000, rounded
abbrev pub most_product : ℕ
most_product = 100000000000000 + most_rounding

-- a spread's or a prompt's charge, 2 × 128,000,000,000 × 10,000,000 / 10,000, rounded
abbrev pub most_charge : ℕ
most_charge = 256000000000000 + most_rounding

-- a scanning risk, 128 rows, and with it the charges of a contract, 32 of each
abbrev pub most_risk : ℕ
most_risk = most_rows * most_product

-- a credit from one entry, at most twice the price risk, rounded; and from 32 entries
abbrev pub most_credit : ℕ
most_credit = 4 * most_risk + most_rounding

abbrev pub most_credits : ℕ
most_credits = most_entries * most_credit

-- short lots: 128 rows × 100,000
abbrev pub most_lots : ℕ
most_lots = most_rows * hundred_thousand

-- "for each contract in file order eight numbers (contract, active scenario, ..)"
abbrev pub figures_each : ℕ
figures_each = 8

-- the numbers of the figures: eight for each of 16 contracts, and the margin
abbrev pub longest_figures : ℕ
longest_figures = figures_each * most_contracts + 1

-- the numbers of a book: three for each of 32 prompts, two for each of 32 spreads, and how often a prompt was touched
abbrev pub longest_book : ℕ
longest_book = 3 * most_prompts + 2 * most_spreads + 1

-- the numbers that say who paid in it: one for each of 32 prompts in each of 32 spreads' two steps
abbrev pub longest_uses : ℕ
longest_uses = 2 * most_spreads * most_prompts
