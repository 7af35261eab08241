-- Request 2026-11 of an account: the number at the end of each delta book is the count of the takes, and within its bound.
-- Assumes nothing.
use Rattle.std.specs.Prelude.{ℕ, List, map}
use Rattle.record.specs.Layout.{Record}
use Rattle.account.specs.Parts.{spreads_of, entries_of}
use Rattle.spread.specs.Touches.{Touched}
use Rattle.formulas.specs.Contract.{contracts, parts_of, as_tier, opens_of}
use Rattle.formulas.specs.Deltas.{interprompt, intercontract}

pub record TouchesCounted (account : List Record) : Type 0 where
  -- of a contract's prompts, by its interprompt spreads
  pub interprompt : (c : ℕ) → Touched (map interprompt (spreads_of c account)) (opens_of (parts_of account c))
  -- of the contracts, by the intercontract spreads
  pub intercontract : Touched (map intercontract (entries_of account)) (map as_tier (contracts account))
