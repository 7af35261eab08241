-- Request 2026-01, "Noon against the morning": a noon file, shorter, joined to the morning's; with request 2026-05.
-- Assumes nothing.
use Rattle.std.specs.Prelude.{ℕ, zero, suc, ◌+◌, cond, List, [], ◌++◌}
use Rattle.exact.specs.Lists.{keep}
use Rattle.record.specs.Layout.{Record}
use Rattle.account.specs.Accepted.{listed}
use Rattle.account.specs.Check.{most_contracts}
use Rattle.account.specs.Parts.{of_contract, entries_of, rates_of}
use Rattle.account.specs.Records.{records}

-- "A contract's records of kinds 1 to 4 come from the noon file if that file lists the contract, else from the morning's"
abbrev pub supplier : List Record → List Record → ℕ → List Record
supplier morning noon c = cond (listed c noon) noon morning

-- what n numbers give, from one number on, one after the other
abbrev pub in_turn : (ℕ → List Record) → ℕ → ℕ → List Record
in_turn f from zero = []
in_turn f from (suc n) = f from ++ in_turn f (from + 1) n

-- the records of a kind, contract by contract
abbrev pub joined_of : List Record → List Record → ℕ → List Record
joined_of morning noon kind = in_turn (λ c. keep (of_contract kind c) (supplier morning noon c)) 0 most_contracts

-- "kind 5 always from the morning"; 2026-05: "In a joined account kind 6 comes from the morning"
abbrev pub from_morning : List Record → List Record
from_morning morning = entries_of morning ++ rates_of morning

-- "these records in 01's order"
abbrev pub joined : List Record → List Record → List Record
joined morning noon =
    joined_of morning noon 1
    ++ (joined_of morning noon 2 ++ (joined_of morning noon 3 ++ (joined_of morning noon 4 ++ from_morning morning)))

-- ---- where the records of the account stand

abbrev pub account_of : List ℕ → List ℕ → List Record
account_of morning noon = joined (records morning) (records noon)
