-- Tables of spreads and of prompts made from the records of a part of the file.
-- Assumes nothing.
use Rattle.std.specs.Prelude.{ℕ, ◌≡◌, List, map, take}
use Rattle.record.specs.Layout.{Record, tier}
use Rattle.account.specs.Records.{records, record_count}
use Rattle.spread.specs.declared.Delta.{Delta}
use Rattle.spread.specs.declared.Spread.{Spread}
use Rattle.spread.specs.declared.Table.{Table}
use Rattle.spread.specs.declared.Prompts.{Prompts}

pub record TableOf (made : Record → Spread) (part : List ℕ) (t : Table) : Type 0 where
  pub count_is : t.count ≡ record_count part
  pub spreads_are : take t.count t.spread ≡ map made (records part)

pub record TiersOf (part : List ℕ) (nets : List Delta) (p : Prompts) : Type 0 where
  pub count_is : p.count ≡ record_count part
  pub tiers_are : take p.count p.tier ≡ map tier (records part)
  pub nets_are : p.net ≡ nets
