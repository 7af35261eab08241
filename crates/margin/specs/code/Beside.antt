-- An account that but for its rows stands in the files: tickets may have been put among them.
-- Assumes nothing.
use Rattle.std.specs.Prelude.{ℕ, ◌≡◌, List, [], map, ℤ, get_or, take}
use Rattle.exact.specs.Lists.{keep}
use Rattle.record.specs.Layout.{Record, unit}
use Rattle.account.specs.Lawful.{Lawful}
use Rattle.account.specs.PartNumbers.{entry_part}
use Rattle.account.specs.code.Standing.{PartOf}
use Rattle.account.specs.Parts.{contracts_of, prompts_of, spreads_of, entries_of, rates_of}
use Rattle.spread.specs.declared.Prompts.{Prompts}
use Rattle.formulas.specs.Contract.{contracts, as_tier}
use Rattle.margin.specs.Books.{asks}
use Rattle.margin.specs.code.Lined.{TiersIn}

-- the own record of a contract, by its number
abbrev pub own_of : ℕ → List Record → Record
own_of c account = get_or (keep (asks c) (contracts_of account)) 0 []

-- and its unit
abbrev pub unit_of : ℕ → List Record → ℕ
unit_of c account = unit (own_of c account)

-- a lawful account with the records of another, but for its rows
pub record Besides (standing whole : List Record) : Type 0 where
  pub lawful : Lawful whole
  pub contracts : contracts_of whole ≡ contracts_of standing
  pub prompts : (c : ℕ) → prompts_of c whole ≡ prompts_of c standing
  pub spreads : (c : ℕ) → spreads_of c whole ≡ spreads_of c standing
  pub entries : entries_of whole ≡ entries_of standing
  pub rates : rates_of whole ≡ rates_of standing

-- one with these intercontract spreads and these tiers
pub record TiersOver (entries : List ℕ) (tiers : Prompts) (whole : List Record) : Type 0 where
  pub lawful : Lawful whole
  pub part : PartOf whole entry_part entries
  pub is : TiersIn whole tiers

-- there is one
pub record TiersKnown (entries : List ℕ) (tiers : Prompts) : Type 0 where
  pub whole : List Record
  pub over : TiersOver entries tiers whole

-- one without intercontract spreads, whose contracts have these net deltas
pub record Unspread (whole : List Record) (count : ℕ) (nets : List ℤ) : Type 0 where
  pub lawful : Lawful whole
  pub none : entries_of whole ≡ []
  pub nets_are : take count nets ≡ map (λ p. p.unused) (map as_tier (contracts whole))
