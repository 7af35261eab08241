-- The check of the written file where the entries stand: the prompts that the check of a record looks at are held in memory of their own.
-- Assumes nothing.
use Rattle.std.specs.Prelude.{ℕ, ◌+◌, ◌*◌, ◌≤◌, ◌≡◌, Bool, ◌&&◌, ◌||◌, cond, List, ltb, length, get_or, take, Ok}
use Rattle.record.specs.Layout.{Record, record_bytes, contract}
use Rattle.account.specs.Check.{records_checked, most_contracts, most_prompts}
use Rattle.account.specs.PartNumbers.{part, parts}
use Rattle.account.specs.code.Notes.{part_at, fault_by}
use Rattle.account.specs.Parts.{of_kind, rates_of}
use Rattle.account.specs.code.Rates.{RatesOf}
use Rattle.account.specs.Records.{records, record_count}
use Rattle.account.specs.declared.rates.Rates.{Rates}

-- a row or an interprompt spread of a contract that there may be
abbrev pub names_prompts : Record → Bool
names_prompts r = (of_kind 3 r || of_kind 4 r) && ltb (contract r) most_contracts

-- whose prompts a record names; a number that no contract has where it names none
abbrev pub asked_of : Record → ℕ
asked_of r = cond (names_prompts r) (contract r) parts

-- as many of those held as the notes have of contract c
abbrev pub held_prompts : List ℕ → List ℕ → ℕ → List ℕ
held_prompts counts prompts c = take (get_or counts (part 2 c) 0 * record_bytes) prompts

-- they are the prompts of contract c, as the notes have them
pub record HeldNotes (file first counts prompts : List ℕ) (c : ℕ) : Type 0 where
  pub long : length prompts ≡ most_prompts * record_bytes
  pub front : held_prompts counts prompts c ≡ part_at file first counts (part 2 c)

-- those of contract c can be held
pub record Holdable (file first counts : List ℕ) (c : ℕ) : Type 0 where
  pub number : c ≤ parts
  pub few : get_or counts (part 2 c) 0 ≤ most_prompts
  pub within : get_or first (part 2 c) 0 + get_or counts (part 2 c) 0 ≤ record_count file

-- those of contract held are there, and those of contract c can take their place
pub record CanChange (file first counts prompts : List ℕ) (held c : ℕ) : Type 0 where
  pub holds : HeldNotes file first counts prompts held
  pub holdable : Holdable file first counts c

-- the fault of a record by what is held
abbrev pub fault_held : List ℕ → List ℕ → ℕ → Record → Record → ℕ
fault_held counts prompts c before r = fault_by counts (records (held_prompts counts prompts c)) before r

-- a file whose records are accepted, and a table of its rates
pub record RatesHeld (file : List ℕ) (t : Rates) : Type 0 where
  pub accepted : records_checked file ≡ Ok tt
  pub rates : RatesOf (rates_of (records file)) t
