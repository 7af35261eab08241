-- What a report says of an account: nothing still open could have been paired, within any contract or between contracts.
-- Assumes nothing.
use Rattle.std.specs.Prelude.{ℕ, List, map, ◌≡◌, true}
use Rattle.record.specs.Layout.{Record}
use Rattle.account.specs.Parts.{entries_of}
use Rattle.spread.specs.Again.{NothingToPair}
use Rattle.spread.specs.Demand.{whole_steps}
use Rattle.formulas.specs.Contract.{contracts, parts_of, as_tier, contract_steps, opens_of, table_steps}

pub record NothingOpen (account : List Record) : Type 0 where
  pub interprompt : (c : ℕ) → NothingToPair (contract_steps (parts_of account c)) (opens_of (parts_of account c))
  -- for entries whose ratios are whole
  pub intercontract : whole_steps (table_steps (entries_of account)) ≡ true
      → NothingToPair (table_steps (entries_of account)) (map as_tier (contracts account))
