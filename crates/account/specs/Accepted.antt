-- What is known of an accepted file: its parts stand in one stretch each, every field is within its range, the limits hold,
-- and every row belongs to exactly one prompt of its contract.
-- Assumes nothing.
use Rattle.std.specs.Prelude.{ℕ, ◌≤◌, ◌≡◌, Bool, true, List, [], ◌∷◌, length}
use Rattle.exact.specs.Lists.{any, count}
use Rattle.record.specs.Layout.{Record, contract, day, second_contract, most_contract, most_currency}
use Rattle.record.specs.Within.{ContractWithin, PromptWithin, RowWithin, SpreadWithin, EntryWithin, RateWithin}
use Rattle.account.specs.Check.{most_records, most_contracts, most_prompts, most_rows, most_spreads, most_entries}
use Rattle.account.specs.PartNumbers.{part, entry_part, rate_part, contract_count, part_start, part_count}
use Rattle.account.specs.Parts.{of_contract, on_day, contracts_of, prompts_of, rows_of, spreads_of, entries_of, rates_of}
use Rattle.account.specs.Records.{records, stretch}

abbrev pub Each : (Record → Type 0) → List Record → Type 0
Each P [] = Unit
Each P (r ∷ rs) = P r × Each P rs

-- the bytes of a part, from what the check hands out
abbrev pub part_bytes : List ℕ → ℕ → List ℕ
part_bytes file v = stretch file (part_start file v) (part_count file v)

pub record Standing (file : List ℕ) : Type 0 where
  pub contracts : records (stretch file 0 (contract_count file)) ≡ contracts_of (records file)
  pub prompts : (c : ℕ) → c ≤ most_contract → records (part_bytes file (part 2 c)) ≡ prompts_of c (records file)
  pub rows : (c : ℕ) → c ≤ most_contract → records (part_bytes file (part 3 c)) ≡ rows_of c (records file)
  pub spreads : (c : ℕ) → c ≤ most_contract → records (part_bytes file (part 4 c)) ≡ spreads_of c (records file)
  pub entries : records (part_bytes file entry_part) ≡ entries_of (records file)
  pub rates : records (part_bytes file rate_part) ≡ rates_of (records file)

pub record Ranges (rs : List Record) : Type 0 where
  pub contracts : Each ContractWithin (contracts_of rs)
  pub prompts : (c : ℕ) → Each PromptWithin (prompts_of c rs)
  pub rows : (c : ℕ) → Each RowWithin (rows_of c rs)
  pub spreads : (c : ℕ) → Each SpreadWithin (spreads_of c rs)
  pub entries : Each EntryWithin (entries_of rs)
  pub rates : Each RateWithin (rates_of rs)

pub record Limits (rs : List Record) : Type 0 where
  pub all : length rs ≤ most_records
  pub contracts : length (contracts_of rs) ≤ most_contracts
  pub prompts : (c : ℕ) → length (prompts_of c rs) ≤ most_prompts
  pub rows : (c : ℕ) → length (rows_of c rs) ≤ most_rows
  pub spreads : (c : ℕ) → length (spreads_of c rs) ≤ most_spreads
  pub entries : length (entries_of rs) ≤ most_entries
  pub rates : length (rates_of rs) ≤ most_currency

-- no row is left out and none is taken twice
abbrev pub OnePrompt : List Record → Type 0
OnePrompt rs = (c : ℕ) → Each (λ r. count (on_day (day r)) (prompts_of c rs) ≡ 1) (rows_of c rs)

-- what a record names is listed, each contract once
abbrev pub listed : ℕ → List Record → Bool
listed c rs = any (of_contract 1 c) rs

pub record EntryNamed (rs : List Record) (e : Record) : Type 0 where
  pub first : listed (contract e) rs ≡ true
  pub second : listed (second_contract e) rs ≡ true
  pub apart : contract e ≡ second_contract e → ⊥

pub record Named (rs : List Record) : Type 0 where
  pub once : (c : ℕ) → count (of_contract 1 c) rs ≤ 1
  pub prompts : (c : ℕ) → Each (λ r. listed c rs ≡ true) (prompts_of c rs)
  pub rows : (c : ℕ) → Each (λ r. listed c rs ≡ true) (rows_of c rs)
  pub spreads : (c : ℕ) → Each (λ r. listed c rs ≡ true) (spreads_of c rs)
  pub entries : Each (EntryNamed rs) (entries_of rs)

pub record Accepts (file : List ℕ) : Type 0 where
  pub standing : Standing file
  pub ranges : Ranges (records file)
  pub limits : Limits (records file)
  pub one_prompt : OnePrompt (records file)
  pub named : Named (records file)
