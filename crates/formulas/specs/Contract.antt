-- A contract of an account: its records, and what its rows come to.
-- Assumes nothing.
use Rattle.std.specs.Prelude.{ℕ, List, [], map, ℤ, nat_abs}
use Rattle.exact.specs.Lists.{sum_ℤ}
use Rattle.record.specs.Layout.{Record, contract, short_option_rate, unit}
use Rattle.account.specs.Parts.{contracts_of, prompts_of, rows_of, spreads_of, rates_of}
use Rattle.spread.specs.Steps.{Open, Taker, steps, numbers, used_of, unused_of}
use Rattle.spread.specs.Touches.{touches}
use Rattle.formulas.specs.Scanning.{totals, scanning_risk, active_scenario}
use Rattle.formulas.specs.Deltas.{net_deltas, opens_with, interprompt, intercontract}
use Rattle.formulas.specs.Charges.{interprompt_charge, prompt_charges}
use Rattle.formulas.specs.Credit.{twice_price_risk, credits}
use Rattle.formulas.specs.Margin.{short_lots, short_option_minimum, risk, margin}

-- The rows are known by their sixteen totals, the prompts' net deltas and the short lots alone.
pub record Contract : Type 0 where
  pub own : Record
  pub prompts : List Record
  pub spreads : List Record
  pub totals : List ℤ
  pub nets : List ℤ
  pub shorts : ℕ

abbrev pub contract_from : List Record → Record → List Record → List Record → List Record → Contract
contract_from rates own prompts rows spreads =
    record {
      own = own;
      prompts = prompts;
      spreads = spreads;
      totals = totals rates (unit own) rows;
      nets = net_deltas prompts rows;
      shorts = short_lots rows;
    }

-- "for each contract in file order"
abbrev pub parts_in : List Record → Record → Contract
parts_in account own =
    contract_from (rates_of account) own (prompts_of (contract own) account) (rows_of (contract own) account) (spreads_of (contract own) account)

-- the parts of a contract number, whatever its own record and the rates: net deltas are not converted
abbrev pub parts_of : List Record → ℕ → Contract
parts_of account c = contract_from [] [] (prompts_of c account) (rows_of c account) (spreads_of c account)

abbrev pub contracts : List Record → List Contract
contracts account = map (parts_in account) (contracts_of account)

-- its interprompt steps, over its prompts
abbrev pub contract_steps : Contract → List (List Taker)
contract_steps k = steps (map interprompt k.spreads)

abbrev pub opens_of : Contract → List Open
opens_of k = opens_with k.prompts k.nets

abbrev pub step_numbers : Contract → List ℕ
step_numbers k = numbers (contract_steps k) (opens_of k)

abbrev pub used_deltas : Contract → List ℤ
used_deltas k = used_of (contract_steps k) (opens_of k)

abbrev pub unused_deltas : Contract → List ℤ
unused_deltas k = unused_of (contract_steps k) (opens_of k)

-- how often its prompts are touched
abbrev pub contract_touches : Contract → ℕ
contract_touches k = touches (contract_steps k) (opens_of k)

-- ".. whose net delta is the sum over its prompts before interprompt use"
abbrev pub contract_net : Contract → ℤ
contract_net k = sum_ℤ k.nets

abbrev pub as_tier : Contract → Open
as_tier k = record { tier = contract k.own; unused = contract_net k }

-- the intercontract steps, over the contracts
abbrev pub table_steps : List Record → List (List Taker)
table_steps entries = steps (map intercontract entries)

abbrev pub table_touches : List Record → List Contract → ℕ
table_touches entries ks = touches (table_steps entries) (map as_tier ks)

-- "active scenario, scanning risk, interprompt charge, prompt charge, credit, short option minimum, margin"
abbrev pub active_of : Contract → ℕ
active_of k = active_scenario k.totals

abbrev pub scanning_of : Contract → ℕ
scanning_of k = scanning_risk k.totals

abbrev pub interprompt_of : Contract → ℕ
interprompt_of k = interprompt_charge (unit k.own) k.spreads (step_numbers k)

abbrev pub prompt_of : Contract → ℕ
prompt_of k = prompt_charges (unit k.own) k.prompts (used_deltas k) (unused_deltas k)

abbrev pub credit_of : List Record → List Open → Contract → ℕ
credit_of entries table k =
    credits (unit k.own) (contract k.own) (twice_price_risk k.totals) (nat_abs (contract_net k)) entries table

abbrev pub minimum_of : Contract → ℕ
minimum_of k = short_option_minimum k.shorts (short_option_rate k.own)

abbrev pub margin_of : List Record → List Open → Contract → ℕ
margin_of entries table k =
    margin (minimum_of k) (risk (scanning_of k) (interprompt_of k) (prompt_of k) (credit_of entries table k))
