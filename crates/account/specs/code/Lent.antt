-- An account as it is lent: what it notes in one array.
-- Assumes nothing.
use Rattle.std.specs.Prelude.{ℕ, ◌+◌, ◌<◌, ◌≡◌, Bool, not, List, map, eqb, length, get_or, take, drop, OnOk}
use Rattle.account.specs.Answers.{Answer}
use Rattle.account.specs.Check.{most_contracts}
use Rattle.account.specs.Checked.{checked}
use Rattle.account.specs.PartNumbers.{parts}
use Rattle.account.specs.code.Standing.{StoodIn}
use Rattle.account.specs.declared.accounts.Account.{Account}

-- where the counts, the numbers, the flags, and how many records and contracts there are begin
abbrev pub counts_note : ℕ
counts_note = parts

abbrev pub numbers_note : ℕ
numbers_note = counts_note + parts

abbrev pub late_note : ℕ
late_note = numbers_note + most_contracts

abbrev pub records_note : ℕ
records_note = late_note + most_contracts

abbrev pub listed_note : ℕ
listed_note = records_note + 1

abbrev pub note_count : ℕ
note_count = listed_note + 1

abbrev pub flagged : ℕ → Bool
flagged n = not (eqb n 0)

-- the account that such notes say
abbrev pub account_in : List ℕ → Account
account_in notes =
    record {
      records = get_or notes records_note 0;
      contracts = get_or notes listed_note 0;
      numbers = take most_contracts (drop numbers_note notes);
      noon = map flagged (take most_contracts (drop late_note notes));
      first = take parts notes;
      counts = take parts (drop counts_note notes);
    }

-- an account that the notes have room for
pub record Lendable (a : Account) : Type 0 where
  pub first : length a.first ≡ parts
  pub counts : length a.counts ≡ parts
  pub numbers : length a.numbers ≡ most_contracts
  pub noon : length a.noon ≡ most_contracts
  pub records : a.records < 65536
  pub contracts : a.contracts < 65536

-- what one file is refused for, or its account, which is lent
pub record LentBy (file : List ℕ) (r : Answer) (notes : List ℕ) : Type 0 where
  pub answer_is : r ≡ checked file
  pub accepted : OnOk r (StoodIn file (account_in notes))
