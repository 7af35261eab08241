-- What the check notes of the records passed, so that it never searches back over the file: of each part how many records
-- it has and where it begins. A part is the contract's own record, its prompts, its rows or its interprompt spreads, or all the
-- intercontract spreads, or all the currency rates.
-- Assumes nothing.
use Rattle.std.specs.Prelude.{ℕ, ◌+◌, Bool, false, not, ◌||◌, cond, List, [], ◌∷◌, get_or, set, eqb, leb}
use Rattle.exact.specs.Lists.{any}
use Rattle.record.specs.Layout.{Record, ◌has◌, by_kind, kind, contract, day, legs_of, leg_tier, second_contract}
use Rattle.record.specs.Ranges.{unknown_kind, unused_byte, field_outside}
use Rattle.account.specs.Check.{the_one_before, kind_falls, out_of_order, most_prompts, most_rows, most_spreads, most_entries, ◌when◌, first_of}
use Rattle.account.specs.Parts.{on_day, on_tier}
use Rattle.account.specs.Records.{record_at, stretch, records, earlier}
use Rattle.account.specs.PartNumbers.{part, entry_part, rate_part}

abbrev pub part_of : Record → ℕ
part_of r = by_kind (kind r) (5 has entry_part ∷ 6 has rate_part ∷ []) (part (kind r) (contract r))

-- the notes with one more record, the k-th
abbrev pub one_more : List ℕ → ℕ → List ℕ
one_more counts v = set counts v (get_or counts v 0 + 1)

abbrev pub start_noted : List ℕ → List ℕ → ℕ → ℕ → List ℕ
start_noted first counts v k = cond (eqb (get_or counts v 0) 0) (set first v k) first

-- refusals 7 and 9 from the notes, and from the prompts of the record's contract
abbrev pub no_contract : List ℕ → ℕ → Bool
no_contract counts c = eqb (get_or counts (part 1 c) 0) 0

abbrev pub no_day : List Record → ℕ → Bool
no_day prompts d = not (any (on_day d) prompts)

abbrev pub no_tier : List Record → ℕ → Bool
no_tier prompts t = not (any (on_tier t) prompts)

abbrev pub unlisted_by : List ℕ → List Record → Record → Bool
unlisted_by counts prompts r =
    by_kind (kind r)
    (2 has no_contract counts (contract r)
    ∷ 3 has (no_contract counts (contract r) || no_day prompts (day r))
    ∷ 4 has (no_contract counts (contract r) || any (λ leg. no_tier prompts (leg_tier r leg)) (legs_of r))
    ∷ 5 has (no_contract counts (contract r) || no_contract counts (second_contract r)) ∷ [])
    false

abbrev pub over_limit_by : List ℕ → Record → Bool
over_limit_by counts r =
    by_kind (kind r)
    (2 has leb most_prompts (get_or counts (part_of r) 0)
    ∷ 3 has leb most_rows (get_or counts (part_of r) 0)
    ∷ 4 has leb most_spreads (get_or counts (part_of r) 0)
    ∷ 5 has leb most_entries (get_or counts (part_of r) 0) ∷ [])
    false

abbrev pub fault_by : List ℕ → List Record → Record → Record → ℕ
fault_by counts prompts before r =
    first_of
    (3 when unknown_kind r ∷ 4 when kind_falls before r ∷ 5 when unused_byte r ∷ 6 when field_outside r
    ∷ 7 when unlisted_by counts prompts r ∷ 8 when out_of_order before r ∷ 9 when over_limit_by counts r ∷ [])

-- the record before record k, of no bytes where there is none
abbrev pub before_at : List ℕ → ℕ → Record
before_at file k = the_one_before (earlier file k)

-- a part as it stands in the file, by what is noted of it
abbrev pub part_at : List ℕ → List ℕ → List ℕ → ℕ → List ℕ
part_at file first counts v = stretch file (get_or first v 0) (get_or counts v 0)

abbrev pub prompts_noted : List ℕ → List ℕ → List ℕ → ℕ → List Record
prompts_noted file first counts c = records (part_at file first counts (part 2 c))

abbrev pub fault_at : List ℕ → List ℕ → List ℕ → ℕ → ℕ
fault_at file first counts k =
    fault_by counts (prompts_noted file first counts (contract (record_at file k))) (before_at file k) (record_at file k)
