-- What request 2026-06 asks of the writer, as claims about the definitions.
-- Assumes nothing.
use Rattle.std.specs.Prelude.{ℕ, ◌≤◌, ◌<◌, ◌≡◌, true, false, List, map, eqb, ltb, length, get_or, Ok}
use Rattle.exact.specs.Lists.{one_if, count}
use Rattle.record.specs.Ranges.{unknown_kind}
use Rattle.account.specs.Answers.{number_of, record_of}
use Rattle.account.specs.Check.{too_long, cut_record}
use Rattle.account.specs.Checked.{checked}
use Rattle.exact.specs.Iff.{Iff}
use Rattle.account.specs.Claims.{First, Clean, FirstRate}
use Rattle.account.specs.Records.{records, record_at, record_count}
use Rattle.writing.specs.Order.{rank_at, places}
use Rattle.writing.specs.Written.{written, writing_answer}

-- a stable sort of the places: each once and no other, ordered by rank, and of one rank as entered
pub record StableSort (entries ks : List ℕ) : Type 0 where
  pub permuted : (k : ℕ) → count (eqb k) ks ≡ one_if (ltb k (record_count entries))
  pub ordered : (i j : ℕ) → i < j → j < length ks → rank_at entries (get_or ks i 0) ≤ rank_at entries (get_or ks j 0)
  pub ties :
      (i j : ℕ) → i < j → j < length ks → rank_at entries (get_or ks i 0) ≡ rank_at entries (get_or ks j 0)
      → get_or ks i 0 < get_or ks j 0

pub record Sorts (entries : List ℕ) : Type 0 where
  pub sort : StableSort entries (places entries)
  pub only : (ks : List ℕ) → StableSort entries ks → ks ≡ places entries

-- ".. so that reading gives back what was entered, in the file's order, and writing what was read gives the same bytes"
pub record RoundTrips (entries : List ℕ) : Type 0 where
  pub read_back_lem : records (written entries) ≡ map (record_at entries) (places entries)
  pub size : length (written entries) ≡ length entries
  pub same_bytes_lem : checked entries ≡ Ok tt → written entries ≡ entries

-- numbers of one byte each
abbrev pub Bytes : List ℕ → Type 0
Bytes entries = (k : ℕ) → get_or entries k 0 < 256

-- refusal n, naming place p
pub record Answers (entries : List ℕ) (lent n p : ℕ) : Type 0 where
  pub number : number_of (writing_answer entries lent) ≡ n
  pub place : record_of (writing_answer entries lent) ≡ p

-- refusal n is the first of the written file, at the record that was entered at place p
pub record FirstEntered (entries : List ℕ) (n p : ℕ) : Type 0 where
  pub at : ℕ
  pub first : First (written entries) n at
  pub entered : get_or (places entries) at 0 ≡ p

-- the same of 14 and 15, which come after all records
pub record RateEntered (entries : List ℕ) (n p : ℕ) : Type 0 where
  pub at : ℕ
  pub clean : Clean (written entries)
  pub first : FirstRate (records (written entries)) n at
  pub entered : get_or (places entries) at 0 ≡ p

pub record Refuses (entries : List ℕ) (lent : ℕ) : Type 0 where
  pub one : Iff (Answers entries lent 1 0) (too_long entries ≡ true)
  pub two : Iff (Answers entries lent 2 0) ((too_long entries ≡ false) × (cut_record entries ≡ true))
  pub others : (n p : ℕ) → 3 ≤ n → n ≤ 9 → Iff (Answers entries lent n p) (FirstEntered entries n p)
  pub rates : (n p : ℕ) → 14 ≤ n → n ≤ 15 → Iff (Answers entries lent n p) (RateEntered entries n p)
  pub sixteen : Iff (Answers entries lent 16 0) ((checked (written entries) ≡ Ok tt) × (lent < length entries))
  pub accepted : Iff (Answers entries lent 0 0) ((checked (written entries) ≡ Ok tt) × (length entries ≤ lent))

-- ".. 2 to 4 never occur": 2 for whole entries, 3 for entries of known kinds, 4 for none
pub record Never (entries : List ℕ) (lent : ℕ) : Type 0 where
  pub two : cut_record entries ≡ false → Answers entries lent 2 0 → ⊥
  pub three :
      ((k : ℕ) → k < record_count entries → unknown_kind (record_at entries k) ≡ false) → number_of (writing_answer entries lent) ≡ 3
      → ⊥
  pub four : Bytes entries → number_of (writing_answer entries lent) ≡ 4 → ⊥

pub record Claims : Type 0 where
  pub sorts : (entries : List ℕ) → Sorts entries
  pub round_trips : (entries : List ℕ) → RoundTrips entries
  pub refuses : (entries : List ℕ) (lent : ℕ) → Refuses entries lent
  pub never : (entries : List ℕ) (lent : ℕ) → Never entries lent
