-- The file's order of entries. Request 2026-06: "Entries, fields of the file's widths, come in one list of the six kinds, unsorted: kinds and
-- required orders are the writer's work, while rows and interprompt spreads of one contract, intercontract spreads and clashing entries keep
-- the order of entry."
-- Assumes nothing.
use Rattle.std.specs.Prelude.{ℕ, ◌+◌, ◌*◌, ◌<◌, ◌≡◌, List, [], ◌∷◌, length, get_or, take}
use Rattle.record.specs.Bytes.{count_from}
use Rattle.record.specs.Layout.{Record, ◌has◌, by_kind, kind, contract, day, rate_currency}
use Rattle.account.specs.Check.{most_records}
use Rattle.account.specs.Records.{record_at, record_count}
use Rattle.writing.specs.Sorting.{sorted}

-- how many numbers four bytes hold, and a byte before them
abbrev pub four_bytes : ℕ
four_bytes = 4294967296

abbrev pub five_bytes : ℕ
five_bytes = 256 * four_bytes

-- contracts by number, prompts by contract and day, rows and interprompt spreads by contract, intercontract spreads as entered, currency
-- rates by currency
abbrev pub of_its_kind : Record → ℕ
of_its_kind r =
    by_kind (kind r)
    (1 has contract r ∷ 2 has (contract r * four_bytes + day r) ∷ 3 has contract r ∷ 4 has contract r ∷ 5 has 0 ∷ 6 has rate_currency r ∷ [])
    (contract r)

-- by kind, and then so
abbrev pub rank : Record → ℕ
rank r = kind r * five_bytes + of_its_kind r

abbrev pub rank_at : List ℕ → ℕ → ℕ
rank_at entries k = rank (record_at entries k)

-- the places of the entries, from 0, in the file's order
abbrev pub places : List ℕ → List ℕ
places entries = sorted (rank_at entries) (count_from 0 (record_count entries))

-- what is worked out of a list of at most so many: each entry's number, and the order
pub record Keyed (entries keys : List ℕ) : Type 0 where
  pub long : length keys ≡ most_records
  pub each : (k : ℕ) → k < record_count entries → get_or keys k 0 ≡ rank_at entries k

pub record Ordered (entries order : List ℕ) : Type 0 where
  pub long : length order ≡ most_records
  pub first : take (record_count entries) order ≡ places entries
