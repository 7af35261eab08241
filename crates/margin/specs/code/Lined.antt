-- The lines of an account's contracts, and its contracts as tiers, as the code holds them.
-- Assumes nothing.
use Rattle.std.specs.Prelude.{ℕ, ◌≤◌, ◌<◌, ◌≡◌, true, List, [], map, ℤ, nat_abs, length, get_or, take}
use Rattle.account.specs.Check.{most_contracts, most_rows}
use Rattle.account.specs.Parts.{contracts_of, prompts_of, rows_of}
use Rattle.formulas.specs.declared.line.Line.{Line}
use Rattle.formulas.specs.declared.rows.Position.{Position}
use Rattle.record.specs.Layout.{Record, contract, most_contract}
use Rattle.spread.specs.Accepted.{every, sound_prompt, open_of}
use Rattle.spread.specs.declared.Prompts.{Prompts}
use Rattle.formulas.specs.Bounds.{most_delta}
use Rattle.formulas.specs.Contract.{Contract, contracts, parts_in, as_tier, contract_net}
use Rattle.formulas.specs.code.Lines.{no_line}
use Rattle.formulas.specs.code.Position.{PositionOf, Bounded}
use Rattle.formulas.specs.code.Promised.{LineOf}
use Rattle.formulas.specs.code.Sums.{deltas_in}

-- so many lines, the first of as many as there can be contracts
pub record Lines : Type 0 where
  pub count : ℕ
  pub line : List Line

-- the lines of the account's contracts, in file order
pub record LinesOf (account : List Record) (ls : Lines) : Type 0 where
  pub count_is : ls.count ≡ length (contracts_of account)
  pub few : ls.count ≤ most_contracts
  pub places : length ls.line ≡ most_contracts
  pub each : (i : ℕ) → i < ls.count → LineOf (parts_in account (get_or (contracts_of account) i [])) (get_or ls.line i no_line)

-- a contract's number and its net delta
pub record TierIs (k : Contract) (number : ℕ) (net : ℤ) : Type 0 where
  pub number_is : number ≡ contract k.own
  pub net_is : net ≡ contract_net k
  pub number_within : number ≤ most_contract
  pub net_within : nat_abs net ≤ most_delta

-- the account's contracts as tiers, in file order
pub record TiersIn (account : List Record) (p : Prompts) : Type 0 where
  pub count_is : p.count ≡ length (contracts_of account)
  pub few : p.count ≤ most_contracts
  pub opens_are : open_of p ≡ map as_tier (contracts account)
  pub nets_are : take p.count (deltas_in p.net) ≡ map contract_net (contracts account)
  pub tiers_sound : every sound_prompt (map as_tier (contracts account)) ≡ true

-- what the rows of a contract come to, by its number, at these rates and a unit
pub record PositionAt (rates : List Record) (unit : ℕ) (account : List Record) (c : ℕ) (p : Position) : Type 0 where
  pub is : PositionOf rates unit (prompts_of c account) (rows_of c account) p
  pub most : Bounded most_rows p
