-- "The delta book that shows who paid for what": for each step of a question's table, what it takes of each prompt.
-- Assumes nothing.
use Rattle.std.specs.Prelude.{cond, List, map, ℕ, eqb, ℤ}
use Rattle.record.specs.Layout.{Record}
use Rattle.account.specs.Parts.{entries_of}
use Rattle.spread.specs.Steps.{Open, Taker}
use Rattle.spread.specs.Uses.{uses_of}
use Rattle.margin.specs.Books.{table_question, of_question}
use Rattle.formulas.specs.Contract.{Contract, contracts, parts_of, as_tier, contract_steps, opens_of, table_steps}

abbrev pub contract_uses : Contract → List ℤ
contract_uses k = uses_of (contract_steps k) (opens_of k)

-- each contract a tier with one prompt
abbrev pub table_uses : List Record → List Contract → List ℤ
table_uses entries ks = uses_of (table_steps entries) (map as_tier ks)

abbrev pub uses : List Record → ℕ → List ℤ
uses account question = of_question contract_uses table_uses account question

-- the steps of a question's table, and what they go over: the prompts of its contract, or each contract as a tier with one prompt
abbrev pub steps_for : List Record → ℕ → List (List Taker)
steps_for account question =
    cond (eqb question table_question) (table_steps (entries_of account)) (contract_steps (parts_of account question))

abbrev pub opens_for : List Record → ℕ → List Open
opens_for account question =
    cond (eqb question table_question) (map as_tier (contracts account)) (opens_of (parts_of account question))
