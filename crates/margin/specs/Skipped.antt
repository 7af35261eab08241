-- Demand 1, ".. no accepted line is skipped": every record of an account counts once, and where a definition goes through lists side by
-- side none of them is longer, so that nothing is left over.
-- Assumes nothing.
use Rattle.std.specs.Prelude.{ℕ, zero, suc, ◌+◌, ◌*◌, ◌≤◌, cond, eqb, ◌≡◌, List, [], ◌∷◌, map, ℤ, pos, length, get_or}
use Rattle.exact.specs.Lists.{keep, sum, sum_ℤ}
use Rattle.record.specs.Layout.{Record, contract, most_contract, unit, rate_per_spread, spread_rate_of, outright_rate_of, scenario_count}
use Rattle.account.specs.Parts.{of_kind, contracts_of, prompts_of, rows_of, entries_of, rates_of}
use Rattle.account.specs.Whole.{Whole}
use Rattle.spread.specs.Steps.{numbers, used_of, unused_of}
use Rattle.formulas.specs.declared.amount.Amount.{Amount}
use Rattle.formulas.specs.declared.line.Line.{Line}
use Rattle.margin.specs.Books.{contract_book, table_book}
use Rattle.formulas.specs.Charges.{spread_charge, prompt_charge}
use Rattle.formulas.specs.Contract.{Contract, contract_from, contracts, contract_net, as_tier, table_steps, opens_of, step_numbers, used_deltas, unused_deltas}
use Rattle.formulas.specs.Contract.{interprompt_of, prompt_of}
use Rattle.formulas.specs.Credit.{total_of}
use Rattle.formulas.specs.Deltas.{row_delta, net_deltas}
use Rattle.margin.specs.Figures.{figures}
use Rattle.formulas.specs.code.Lines.{eights_from}
use Rattle.formulas.specs.Margin.{short_options}
use Rattle.formulas.specs.Scanning.{product}
use Rattle.formulas.specs.Bounds.{figures_each}

-- ---- totals, net deltas and short lots are sums in which each row counts once

abbrev pub all_rows : List Record → List Record
all_rows = keep (of_kind 3)

-- among contracts' own records, that of a row's contract
abbrev pub owner_of : List Record → Record → Record
owner_of [] row = []
owner_of (own ∷ owns) row = cond (eqb (contract own) (contract row)) own (owner_of owns row)

-- what a row loses in a scenario, converted at the account's rates and rounded to the unit of its contract
abbrev pub loss_in : List Record → ℕ → Record → ℤ
loss_in account scenario row = product (rates_of account) (unit (owner_of (contracts_of account) row)) scenario row

pub record RowsOnce (account : List Record) : Type 0 where
  -- the contracts' totals of a scenario together are what all rows lose in it
  pub totals : (scenario : ℕ) → 1 ≤ scenario → scenario ≤ scenario_count
      → sum_ℤ (map (λ k. total_of k.totals scenario) (contracts account)) ≡ sum_ℤ (map (loss_in account scenario) (all_rows account))
  -- their net deltas together are those of all rows, and a contract's those of its rows
  pub nets : sum_ℤ (map contract_net (contracts account)) ≡ sum_ℤ (map row_delta (all_rows account))
  pub prompts : (c : ℕ) → c ≤ most_contract
      → sum_ℤ (net_deltas (prompts_of c account) (rows_of c account)) ≡ sum_ℤ (map row_delta (rows_of c account))
  -- and their short lots those of all rows
  pub shorts : sum (map (λ k. k.shorts) (contracts account)) ≡ sum (map short_options (all_rows account))

-- ---- nothing is left over

-- what n places come to, from 0 on
abbrev pub over_places : ℕ → (ℕ → ℕ) → ℕ
over_places zero f = 0
over_places (suc n) f = f 0 + over_places n (λ i. f (suc i))

-- the charge of a contract's spread, or prompt, at a place
abbrev pub spread_at : Contract → ℕ → ℕ
spread_at k i = spread_charge (unit k.own) (rate_per_spread (get_or k.spreads i [])) (get_or (step_numbers k) (2 * i) 0) (get_or (step_numbers k) (2 * i + 1) 0)

abbrev pub prompt_at : Contract → ℕ → ℕ
prompt_at k i =
    let p = get_or k.prompts i [] in
    prompt_charge (unit k.own) (spread_rate_of p) (outright_rate_of p) (get_or (used_deltas k) i (pos 0)) (get_or (unused_deltas k) i (pos 0))

pub record NothingOver (k : Contract) : Type 0 where
  -- a net delta, an open prompt, a used and an unused delta for each prompt; two numbers for each spread
  pub nets : length k.nets ≡ length k.prompts
  pub opened : length (opens_of k) ≡ length k.prompts
  pub used : length (used_deltas k) ≡ length k.prompts
  pub unused : length (unused_deltas k) ≡ length k.prompts
  pub formed : length (step_numbers k) ≡ 2 * length k.spreads
  pub book : length (contract_book k) ≡ 3 * length k.prompts + 2 * length k.spreads + 1
  -- each spread is charged for its two numbers, each prompt for its two deltas
  pub interprompt : interprompt_of k ≡ over_places (length k.spreads) (spread_at k)
  pub prompt : prompt_of k ≡ over_places (length k.prompts) (prompt_at k)

pub record TableOver (entries : List Record) (ks : List Contract) : Type 0 where
  pub used : length (used_of (table_steps entries) (map as_tier ks)) ≡ length ks
  pub unused : length (unused_of (table_steps entries) (map as_tier ks)) ≡ length ks
  pub formed : length (numbers (table_steps entries) (map as_tier ks)) ≡ 2 * length entries
  pub book : length (table_book entries ks) ≡ 3 * length ks + 2 * length entries + 1

pub record NoneSkipped (account : List Record) : Type 0 where
  -- each record is in exactly one part of exactly one contract, or among the intercontract spreads
  pub whole : Whole account
  pub rows : RowsOnce account
  -- of any contract of the account, and of its table
  pub contract : (rates : List Record) (own : Record) (prompts rows spreads : List Record) → NothingOver (contract_from rates own prompts rows spreads)
  pub table : TableOver (entries_of account) (contracts account)
  -- eight numbers for each contract, and the total
  pub figures : length (figures account) ≡ figures_each * length (contracts_of account) + 1
  pub lines : (ls : List Line) (credits : List Amount) → length credits ≡ length ls → length (eights_from ls credits) ≡ figures_each * length ls
