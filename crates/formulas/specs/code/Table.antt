-- The intercontract table over the lines of the figures.
-- Assumes nothing.
use Rattle.std.specs.Prelude.{ℕ, ◌+◌, ◌≤◌, ◌<◌, ◌≡◌, true, List, [], map, nat_abs, length, get_or, take}
use Rattle.record.specs.Layout.{Record, percent, most_contract}
use Rattle.account.specs.Check.{most_contracts, most_entries}
use Rattle.spread.specs.Accepted.{every, sound_prompt, open_of}
use Rattle.spread.specs.Steps.{Open}
use Rattle.spread.specs.declared.Prompts.{Prompts}
use Rattle.spread.specs.declared.Spreads.{Spreads}
use Rattle.formulas.specs.declared.amount.Amount.{Amount}
use Rattle.formulas.specs.declared.charges.Earner.{Earner}
use Rattle.formulas.specs.declared.line.Line.{Line}
use Rattle.formulas.specs.Bounds.{most_credit, most_credits}
use Rattle.formulas.specs.Credit.{credit, entry_use, credits_by}
use Rattle.formulas.specs.code.Lines.{no_line}
use Rattle.formulas.specs.code.Sums.{interleaved, deltas_in, spreads_at, CreditRoom, EntriesRoom}
use Rattle.formulas.specs.code.Within.{EntryFit, EntriesFit}

-- "each contract a tier with one prompt"
abbrev pub tier_of : Line → Open
tier_of l = record { tier = l.contract; unused = l.net.0 }

pub record TiersFrom (count : ℕ) (lines : List Line) (p : Prompts) : Type 0 where
  pub count_is : p.count ≡ count
  pub opens_are : open_of p ≡ map tier_of (take count lines)
  pub nets_are : take count (deltas_in p.net) ≡ map (λ l. l.net.0) (take count lines)

pub record TableRoom (count : ℕ) (lines : List Line) (entries : List Record) : Type 0 where
  pub few : count ≤ most_contracts
  pub tiers_sound : every sound_prompt (map tier_of (take count lines)) ≡ true
  pub entries_within : EntriesFit entries

pub record EarnerOf (l : Line) (e : Earner) : Type 0 where
  pub unit_is : e.unit ≡ l.unit
  pub contract_is : e.contract ≡ l.contract
  pub price_is : e.twice_price ≡ l.twice_price
  pub net_is : e.net ≡ nat_abs l.net.0

-- the contract of a number, where units, twice the price risks and the sizes of the net deltas stand by number
abbrev pub earner_at : List ℕ → List ℕ → List ℕ → ℕ → Earner
earner_at units prices nets c = record { unit = get_or units c 0; contract = c; twice_price = get_or prices c 0; net = get_or nets c 0 }

-- in file order the numbers rise
pub record LinesRise (count : ℕ) (lines : List Line) : Type 0 where
  pub few : count ≤ most_contracts
  pub numbers : (i : ℕ) → i < count → (get_or lines i no_line).contract ≤ most_contract
  pub rise : (i j : ℕ) → i < j → j < count → (get_or lines i no_line).contract < (get_or lines j no_line).contract

-- one of the lines is a contract's
pub record Listed (count : ℕ) (lines : List Line) (e : Earner) : Type 0 where
  pub place : ℕ
  pub below : place < count
  pub is : EarnerOf (get_or lines place no_line) e

-- the lines by their numbers: a number without a line has no net delta
pub record EarnersOf (count : ℕ) (lines : List Line) (at : ℕ → Earner) : Type 0 where
  pub each : (i : ℕ) → i < count → EarnerOf (get_or lines i no_line) (at (get_or lines i no_line).contract)
  pub listed : (c : ℕ) → ((at c).net ≡ 0 → ⊥) → Listed count lines (at c)

-- what a contract earns from an entry
abbrev pub earns_from : Earner → Record → ℕ → ℕ → ℕ
earns_from by e first second = credit by.unit by.twice_price (entry_use by.contract e first second) (percent e) by.net

-- a contract with a net delta has room for an entry
abbrev pub EarnerRoom : Earner → Record → ℕ → ℕ → Type 0
EarnerRoom by e first second = (by.net ≡ 0 → ⊥) → CreditRoom by.unit by.contract by.twice_price by.net e first second

pub record EntryRoom (at : ℕ → Earner) (e : Record) (first second : ℕ) : Type 0 where
  pub fits : EntryFit e
  pub each : (c : ℕ) → EarnerRoom (at c) e first second

-- what the contracts earned, by their numbers
pub record EarnedRoom (earned : List ℕ) : Type 0 where
  pub places : length earned ≡ most_contracts
  pub most : (c : ℕ) → c < most_contracts → get_or earned c 0 ≤ most_credits

-- the same with one entry more
pub record WithEntry (at : ℕ → Earner) (e : Record) (first second : ℕ) (before after : List ℕ) : Type 0 where
  pub places : length after ≡ most_contracts
  pub each : (c : ℕ) → c < most_contracts → get_or after c 0 ≡ get_or before c 0 + earns_from (at c) e first second
  pub most : (c : ℕ) → c < most_contracts → earns_from (at c) e first second ≤ most_credit

pub record WalkRoom (at : ℕ → Earner) (entries : List Record) (firsts seconds : List Spreads) : Type 0 where
  pub most : length entries ≤ most_entries
  pub each : (k : ℕ) → k < length entries → EntryRoom at (get_or entries k []) (spreads_at firsts k) (spreads_at seconds k)

-- what they earned from all entries
pub record EarnedBy (at : ℕ → Earner) (entries : List Record) (firsts seconds : List Spreads) (earned : List ℕ) : Type 0 where
  pub each : (c : ℕ) → c < most_contracts → get_or earned c 0
      ≡ credits_by (at c).unit (at c).contract (at c).twice_price (at c).net entries (interleaved firsts seconds)
  pub most : (c : ℕ) → c < most_contracts → get_or earned c 0 ≤ most_credits

-- the same line by line
pub record ByLine (count : ℕ) (lines : List Line) (earned : List ℕ) (credits : List Amount) : Type 0 where
  pub places : length credits ≡ most_contracts
  pub each : (i : ℕ) → i < count → (get_or credits i (record { 0 = 0 })).0 ≡ get_or earned (get_or lines i no_line).contract 0

-- what a line earns from the table, over the arrays of its book
abbrev pub earns : Line → List Record → List Spreads → List Spreads → ℕ
earns l entries firsts seconds = credits_by l.unit l.contract l.twice_price (nat_abs l.net.0) entries (interleaved firsts seconds)

pub record CreditsRoom (count : ℕ) (lines : List Line) (entries : List Record) (firsts seconds : List Spreads) : Type 0 where
  pub rising : LinesRise count lines
  pub each : (i : ℕ) → i < count → EntriesRoom (get_or lines i no_line).unit (get_or lines i no_line).contract (get_or lines i no_line).twice_price
      (nat_abs (get_or lines i no_line).net.0) entries firsts seconds

pub record CreditsOf (count : ℕ) (lines : List Line) (entries : List Record) (firsts seconds : List Spreads) (earned : List Amount) : Type 0 where
  pub places : length earned ≡ most_contracts
  pub each : (i : ℕ) → i < count → (get_or earned i (record { 0 = 0 })).0 ≡ earns (get_or lines i no_line) entries firsts seconds
  pub most : (i : ℕ) → i < count → (get_or earned i (record { 0 = 0 })).0 ≤ most_credits
