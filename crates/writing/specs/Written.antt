-- "Write the file too" (request 2026-06): the file of a list of entries, what comes back, and the lent bytes afterwards.
-- Assumes nothing.
use Rattle.std.specs.Prelude.{ℕ, ◌*◌, ◌≡◌, Bool, ◌&&◌, cond, List, [], ◌∷◌, ◌++◌, eqb, ltb, length, get_or, drop, Result, Err}
use Rattle.std.specs.Result.{result_unwrap_or}
use Rattle.record.specs.Layout.{Record, record_bytes}
use Rattle.account.specs.Checked.{checked}
use Rattle.account.specs.Records.{records, stretch, record_count}
use Rattle.account.specs.Answers.{Answer, answer_of, number_of, record_of, refusal}
use Rattle.account.specs.declared.answers.Refusal.{Refusal}
use Rattle.account.specs.declared.answers.Refusal.TheVariants.{TooFewBytes}
use Rattle.writing.specs.Order.{rank, places}
use Rattle.writing.specs.Sorting.{sorted}

abbrev pub together : List Record → List ℕ
together [] = []
together (r ∷ rs) = r ++ together rs

-- bytes after the last whole entry
abbrev pub left_over : List ℕ → List ℕ
left_over entries = drop (record_count entries * record_bytes) entries

-- the entries in the file's order; what is no whole entry stays at the end, so that it is a 2
abbrev pub written : List ℕ → List ℕ
written entries = together (sorted rank (records entries)) ++ left_over entries

-- n records of it, from record k on, at the front of what was there
abbrev pub filled_in : List ℕ → ℕ → ℕ → List ℕ → List ℕ
filled_in entries k n out = stretch (written entries) k n ++ drop (n * record_bytes) out

-- "naming the entry's place as entered (0 for a 1)": 3 and higher name a record
abbrev pub as_entered : List ℕ → Answer → Answer
as_entered order a = cond (ltb (number_of a) 3) a (refusal (number_of a) (get_or order (record_of a) 0))

-- "what the written file would get by 01 and its amendments, .."
abbrev pub verdict_on : List ℕ → Answer
verdict_on entries = as_entered (places entries) (checked (written entries))

abbrev pub fine : Answer → Bool
fine a = eqb (number_of a) 0

-- ".. 16, too few bytes lent, last"
abbrev pub writing_answer : List ℕ → ℕ → Answer
writing_answer entries lent = cond (fine (verdict_on entries) && ltb lent (length (written entries))) (Err TooFewBytes) (verdict_on entries)

-- how many bytes are written
abbrev pub bytes_for : Answer → List ℕ → ℕ
bytes_for a entries = cond (fine a) (length (written entries)) 0

-- "A refusal writes no number. .. Success writes the answer at the front and nothing after it."
abbrev pub after_writing : Answer → List ℕ → List ℕ → List ℕ
after_writing a entries lent = cond (fine a) (written entries ++ drop (length (written entries)) lent) lent

-- what is refused, or how many bytes are written; and the lent bytes afterwards
pub record WrittenBy (entries lent : List ℕ) (r : Result ℕ Refusal) (after : List ℕ) : Type 0 where
  pub answer : answer_of r ≡ writing_answer entries (length lent)
  pub bytes : result_unwrap_or r 0 ≡ bytes_for (writing_answer entries (length lent)) entries
  pub out : after ≡ after_writing (writing_answer entries (length lent)) entries lent
