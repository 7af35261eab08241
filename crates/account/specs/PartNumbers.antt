-- The parts of an account by number: by kind and contract, one for all intercontract spreads, and one for all currency rates;
-- and where each stands in an accepted file.
-- Assumes nothing.
use Rattle.std.specs.Prelude.{ℕ, ◌+◌, ◌*◌, ◌/◌, ◌%◌, Bool, cond, List, [], eqb, ltb}
use Rattle.exact.specs.Lists.{keep, count}
use Rattle.record.specs.Layout.{Record}
use Rattle.account.specs.Check.{most_contracts, records_checked}
use Rattle.account.specs.Parts.{of_kind, of_contract, start_of}
use Rattle.account.specs.Records.{records}
use Rattle.account.specs.Answers.{number_of}
use Rattle.account.specs.Answers.{Answer}

-- the number of a part: by kind and contract, one for all intercontract spreads, and one for all currency rates
abbrev pub part : ℕ → ℕ → ℕ
part n c = most_contracts * n + c

abbrev pub row_part : ℕ
row_part = part 3 0

abbrev pub entry_part : ℕ
entry_part = part 5 0

abbrev pub rate_part : ℕ
rate_part = entry_part + 1

abbrev pub parts : ℕ
parts = rate_part + 1

abbrev pub in_part : ℕ → Record → Bool
in_part v r =
    cond (eqb v entry_part) (of_kind 5 r)
    (cond (eqb v rate_part) (of_kind 6 r) (of_contract (v / most_contracts) (v % most_contracts) r))

-- the records of part v of an account, in order
abbrev pub part_records : ℕ → List Record → List Record
part_records v account = cond (ltb rate_part v) [] (keep (in_part v) account)

abbrev pub of_accepted : Answer → ℕ → ℕ
of_accepted a n = cond (eqb (number_of a) 0) n 0

abbrev pub contract_count : List ℕ → ℕ
contract_count file = of_accepted (records_checked file) (count (of_kind 1) (records file))

abbrev pub part_start : List ℕ → ℕ → ℕ
part_start file v = of_accepted (records_checked file) (start_of (in_part v) (records file))

abbrev pub part_count : List ℕ → ℕ → ℕ
part_count file v = of_accepted (records_checked file) (count (in_part v) (records file))
