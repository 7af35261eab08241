-- Where the records of an account stand, in one file or in two, by what the check handed out of them.
-- Assumes nothing.
use Rattle.std.specs.Prelude.{ℕ, ◌-◌, ◌*◌, ◌%◌, ◌<◌, ◌≤◌, ◌≡◌, Bool, false, not, ◌&&◌, cond, List, [], ltb, length, get_or, take, drop, replicate, Result, IfOk}
use Rattle.exact.specs.Lists.{keep, count, sum}
use Rattle.record.specs.Layout.{Record, record_bytes, contract, most_contract}
use Rattle.record.specs.Bytes.{count_from}
use Rattle.account.specs.Answers.{answer_of}
use Rattle.account.specs.declared.answers.Refusal.{Refusal}
use Rattle.account.specs.Check.{most_contracts}
use Rattle.account.specs.Checked.{checked}
use Rattle.account.specs.Joined.{account_of}
use Rattle.account.specs.Lawful.{Lawful}
use Rattle.account.specs.PartNumbers.{part, parts, entry_part, rate_part, in_part, part_records}
use Rattle.account.specs.code.Notes.{no_contract}
use Rattle.account.specs.Parts.{of_contract, contracts_of, entries_of, rates_of}
use Rattle.account.specs.Records.{records, record_count, stretch}
use Rattle.account.specs.code.Surveyed.{Surveyed}
use Rattle.account.specs.declared.check.Survey.{Survey}
use Rattle.account.specs.declared.accounts.Account.{Account}
use Rattle.account.specs.declared.accounts.Whereabouts.{Whereabouts}

-- whether a file lists a contract, by how many records its parts have
abbrev pub lists : List ℕ → ℕ → Bool
lists counts c = not (no_contract counts c)

-- "from the noon file if that file lists the contract, else from the morning's; kind 5 always from the morning", and so kind 6
abbrev pub from_noon : List ℕ → ℕ → Bool
from_noon counts v = ltb v entry_part && lists counts (v % most_contracts)

abbrev pub either_note : List ℕ → List ℕ → List ℕ → ℕ → ℕ
either_note morning noon counts v = cond (from_noon counts v) (get_or noon v 0) (get_or morning v 0)

pub record Filled (n : ℕ) (f : ℕ → ℕ) (xs : List ℕ) : Type 0 where
  pub long : length xs ≡ n
  pub each : (v : ℕ) → v < n → get_or xs v 0 ≡ f v

-- notes of a morning file of which those below n are of whichever file supplies them, by a flag for each contract
pub record EitherTo (morning noon : List ℕ) (late : List Bool) (n : ℕ) (notes : List ℕ) : Type 0 where
  pub long : length notes ≡ parts
  pub done : (v : ℕ) → v < n → get_or notes v 0 ≡ cond (get_or late (v % most_contracts) false) (get_or noon v 0) (get_or morning v 0)
  pub rest : (v : ℕ) → n ≤ v → get_or notes v 0 ≡ get_or morning v 0

pub record Flagged (counts : List ℕ) (xs : List Bool) : Type 0 where
  pub long : length xs ≡ most_contracts
  pub each : (c : ℕ) → c < most_contracts → get_or xs c false ≡ lists counts c

-- the listed contracts' numbers
abbrev pub listed_in : List ℕ → List ℕ
listed_in counts = keep (lists counts) (count_from 0 most_contracts)

pub record Numbered (counts : List ℕ) (n : ℕ) (xs : List ℕ) : Type 0 where
  pub long : length xs ≡ most_contracts
  pub few : n ≤ most_contracts
  pub those : take n xs ≡ listed_in counts
  pub rest : drop n xs ≡ replicate (most_contracts - n) 0

pub record JoinedBy (m n : Survey) (j : Account) : Type 0 where
  pub first : Filled parts (either_note m.first n.first n.counts) j.first
  pub counts : Filled parts (either_note m.counts n.counts n.counts) j.counts
  pub noon : Flagged n.counts j.noon
  pub numbers : Numbered j.counts j.contracts j.numbers
  pub records : j.records ≡ sum j.counts

-- one file alone, by what is noted of its parts
pub record AloneBy (first-noted counted : List ℕ) (records : ℕ) (j : Account) : Type 0 where
  pub first : j.first ≡ first-noted
  pub counts : j.counts ≡ counted
  pub noon : j.noon ≡ replicate most_contracts false
  pub numbers : Numbered j.counts j.contracts j.numbers
  pub records_are : j.records ≡ records

-- the bytes of whichever file supplies a contract
abbrev pub supplies : List ℕ → List ℕ → Account → ℕ → List ℕ
supplies morning noon j c = cond (get_or j.noon c false) noon morning

pub record Places (morning noon : List ℕ) (j : Account) : Type 0 where
  pub all : j.records ≡ length (account_of morning noon)
  pub contracts : j.contracts ≡ length (contracts_of (account_of morning noon))
  pub numbers : length j.numbers ≡ most_contracts
  pub number : (i : ℕ) → i < j.contracts → get_or j.numbers i 0 ≡ contract (get_or (contracts_of (account_of morning noon)) i [])
  pub flags : length j.noon ≡ most_contracts
  pub firsts : length j.first ≡ parts
  pub sizes : length j.counts ≡ parts
  pub counts : (v : ℕ) → v < parts → get_or j.counts v 0 ≡ count (in_part v) (account_of morning noon)
  pub each : (k c : ℕ) → 1 ≤ k → k ≤ 4 → c ≤ most_contract
      → records (stretch (supplies morning noon j c) (get_or j.first (part k c) 0) (get_or j.counts (part k c) 0)) ≡ keep (of_contract k c)
      (account_of morning noon)
  pub entries : records (stretch morning (get_or j.first entry_part 0) (get_or j.counts entry_part 0)) ≡ entries_of (account_of morning noon)
  pub rates : records (stretch morning (get_or j.first rate_part 0) (get_or j.counts rate_part 0)) ≡ rates_of (account_of morning noon)

-- What everything above rests on: an account with what is known of its records and where they stand.
pub record Stands (morning noon : List ℕ) (j : Account) : Type 0 where
  pub lawful : Lawful (account_of morning noon)
  pub places : Places morning noon j

-- a part as it stands in its file: whole records, those of the account
pub record PartOf (account : List Record) (v : ℕ) (bytes : List ℕ) : Type 0 where
  pub are : records bytes ≡ part_records v account
  pub whole : length bytes ≡ length (part_records v account) * record_bytes

-- where an account has the parts of a contract
pub record WhereOf (j : Account) (c : ℕ) (w : Whereabouts) : Type 0 where
  pub late : w.late ≡ get_or j.noon c false
  pub own : w.own ≡ get_or j.first (part 1 c) 0
  pub own_count : w.own_count ≡ get_or j.counts (part 1 c) 0
  pub prompts : w.prompts ≡ get_or j.first (part 2 c) 0
  pub prompt_count : w.prompt_count ≡ get_or j.counts (part 2 c) 0
  pub rows : w.rows ≡ get_or j.first (part 3 c) 0
  pub row_count : w.row_count ≡ get_or j.counts (part 3 c) 0
  pub spreads : w.spreads ≡ get_or j.first (part 4 c) 0
  pub spread_count : w.spread_count ≡ get_or j.counts (part 4 c) 0

-- the part of a kind of whichever contract has these whereabouts
abbrev pub ContractPart : List ℕ → List ℕ → ℕ → Whereabouts → List ℕ → Type 0
ContractPart morning noon k w bytes =
    (j : Account) (c : ℕ) → Stands morning noon j → c ≤ most_contract → WhereOf j c w → PartOf (account_of morning noon) (part k c) bytes

-- the account of an accepted file, which stands in it alone
pub record StoodIn (file : List ℕ) (a : Account) : Type 0 where
  pub alone_by : (s : Survey) → Surveyed file s → AloneBy s.first s.counts (record_count file) a
  pub stands : (none : List ℕ) → none ≡ [] → Stands file none a

-- what one file is refused for, or its account
pub record CheckedBy (file : List ℕ) (r : Result Account Refusal) : Type 0 where
  pub answer_is : answer_of r ≡ checked file
  pub accepted : IfOk r (StoodIn file)
