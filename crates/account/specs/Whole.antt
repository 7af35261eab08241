-- Demand 1, ".. no accepted line is skipped", of the records of an account: each is in exactly one of the parts that the definitions
-- take the account apart by.
-- Assumes nothing.
use Rattle.std.specs.Prelude.{ℕ, ◌≡◌, Bool, List, [], ◌∷◌, map, length}
use Rattle.exact.specs.Lists.{count, sum}
use Rattle.record.specs.Layout.{Record, contract}
use Rattle.account.specs.Accepted.{Each}
use Rattle.account.specs.Parts.{of_kind, of_contract, contracts_of}

-- of each listed contract its own record, its prompts, its rows and its interprompt spreads; all intercontract spreads; and all
-- currency rates
abbrev pub parts_by : List Record → List (Record → Bool)
parts_by [] = of_kind 5 ∷ of_kind 6 ∷ []
parts_by (own ∷ owns) =
    of_contract 1 (contract own) ∷ of_contract 2 (contract own) ∷ of_contract 3 (contract own) ∷ of_contract 4 (contract own) ∷ parts_by owns

-- in how many of them a record is
abbrev pub in_how_many : List Record → Record → ℕ
in_how_many owns r = count (λ part. part r) (parts_by owns)

pub record Whole (account : List Record) : Type 0 where
  pub one_part : Each (λ r. in_how_many (contracts_of account) r ≡ 1) account
  -- so the parts together have as many records as the account
  pub together : length account ≡ sum (map (λ part. count part account) (parts_by (contracts_of account)))
