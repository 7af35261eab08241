-- "Delta book of question 0..15 (that contract): three numbers per prompt (net, used, unused), then two per spread
-- (number in its first step, in its second). Question 16 is the intercontract table: three numbers per contract, then
-- two per entry." Request 2026-11: "Report with each delta book how many times some step moved some prompt's unused delta towards
-- zero. .. The book gains this number at its end."
-- Assumes nothing.
use Rattle.std.specs.Prelude.{ℕ, Bool, cond, ◌||◌, List, [], ◌∷◌, ◌++◌, map, eqb, ℤ, pos}
use Rattle.exact.specs.Lists.{keep, any}
use Rattle.record.specs.Layout.{Record, contract}
use Rattle.account.specs.Check.{most_contracts}
use Rattle.account.specs.Parts.{contracts_of, entries_of}
use Rattle.spread.specs.Steps.{Open, Taker, numbers, used_of, unused_of}
use Rattle.spread.specs.Touches.{touches}
use Rattle.formulas.specs.Contract.{Contract, contracts, parts_in, contract_net, as_tier, step_numbers, used_deltas, unused_deltas, contract_touches, table_steps}
use Rattle.formulas.specs.Contract.{table_touches}

-- net, used and unused of each
abbrev pub threes : List ℤ → List ℤ → List ℤ → List ℤ
threes [] used unused = []
threes (n ∷ nets) [] unused = []
threes (n ∷ nets) (u ∷ used) [] = []
threes (n ∷ nets) (u ∷ used) (o ∷ unused) = n ∷ u ∷ o ∷ threes nets used unused

abbrev pub contract_parts : Contract → List ℤ
contract_parts k = threes k.nets (used_deltas k) (unused_deltas k) ++ map pos (step_numbers k)

abbrev pub table_parts : List Record → List Contract → List ℤ
table_parts entries ks =
    threes (map contract_net ks) (used_of (table_steps entries) (map as_tier ks)) (unused_of (table_steps entries) (map as_tier ks))
    ++ map pos (numbers (table_steps entries) (map as_tier ks))

-- and at the end how often a prompt was touched, or a contract
abbrev pub contract_book : Contract → List ℤ
contract_book k = contract_parts k ++ (pos (contract_touches k) ∷ [])

abbrev pub table_book : List Record → List Contract → List ℤ
table_book entries ks = table_parts entries ks ++ (pos (table_touches entries ks) ∷ [])

-- the same by the steps and what they go over
abbrev pub book_by : List (List Taker) → List Open → List ℤ
book_by ss ps =
    (threes (map (λ p. p.unused) ps) (used_of ss ps) (unused_of ss ps) ++ map pos (numbers ss ps)) ++ (pos (touches ss ps) ∷ [])

-- the table of intercontract spreads is question 16
abbrev pub table_question : ℕ
table_question = most_contracts

-- "question neither a listed contract nor 16" is refused
abbrev pub asks : ℕ → Record → Bool
asks question own = eqb (contract own) question

abbrev pub answered : List Record → ℕ → Bool
answered account question = eqb question table_question || any (asks question) (contracts_of account)

-- what a question is answered: of the table, or of the contract that has its number
abbrev pub of_each : (Contract → List ℤ) → List Contract → List ℤ
of_each answer [] = []
of_each answer (k ∷ ks) = answer k ++ of_each answer ks

abbrev pub of_question : (Contract → List ℤ) → (List Record → List Contract → List ℤ) → List Record → ℕ → List ℤ
of_question of_contract ofTable account question =
    cond (eqb question table_question)
    (ofTable (entries_of account) (contracts account))
    (of_each of_contract (map (parts_in account) (keep (asks question) (contracts_of account))))

abbrev pub book : List Record → ℕ → List ℤ
book account question = of_question contract_book table_book account question
