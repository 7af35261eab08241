-- "Records of 96 bytes, no header": the records of a file.
-- Assumes nothing.
use Rattle.std.specs.Prelude.{ℕ, zero, suc, ◌*◌, ◌/◌, List, [], ◌∷◌, length, take, drop}
use Rattle.record.specs.Layout.{Record, record_bytes}

-- the first n records
abbrev pub cut : ℕ → List ℕ → List Record
cut zero file = []
cut (suc n) file = take record_bytes file ∷ cut n (drop record_bytes file)

-- n records from record k on, as they stand in the file
abbrev pub stretch : List ℕ → ℕ → ℕ → List ℕ
stretch file k n = take (n * record_bytes) (drop (k * record_bytes) file)

abbrev pub record_at : List ℕ → ℕ → Record
record_at file k = stretch file k 1

abbrev pub record_count : List ℕ → ℕ
record_count file = length file / record_bytes

abbrev pub records : List ℕ → List Record
records file = cut (record_count file) file

-- the records before record k, the latest first
abbrev pub earlier : List ℕ → ℕ → List Record
earlier file zero = []
earlier file (suc k) = record_at file k ∷ earlier file k
