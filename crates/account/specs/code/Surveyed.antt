-- What the check hands out with its verdict: how many contracts an accepted file lists, of each part where it begins and how many
-- records it has, and whether any row is in another currency; all 0 and false for a refused file.
-- Assumes nothing.
use Rattle.std.specs.Prelude.{ℕ, ◌<◌, ◌≡◌, Bool, false, cond, ◌&&◌, List, eqb, length, get_or, replicate, Result, Ok, Err, MatchResult}
use Rattle.exact.specs.Lists.{any}
use Rattle.account.specs.Answers.{number_of}
use Rattle.account.specs.Check.{records_checked, too_long, cut_record}
use Rattle.account.specs.Conversions.{other_row}
use Rattle.account.specs.PartNumbers.{parts, contract_count, part_start, part_count}
use Rattle.account.specs.Records.{records}
use Rattle.account.specs.Answers.{Answer}
use Rattle.account.specs.declared.answers.Refusal.TheVariants.{TooLong, CutRecord}
use Rattle.account.specs.declared.answers.Refusal.{Refusal}
use Rattle.account.specs.declared.check.Noted.{Noted}
use Rattle.account.specs.declared.check.Survey.{Survey}

-- what is asked of a file before its records: 1 and 2
abbrev pub length_checked : List ℕ → Answer
length_checked file = cond (too_long file) (Err TooLong) (cond (cut_record file) (Err CutRecord) (Ok tt))

-- whether an accepted file has a row in another currency than the margin's
abbrev pub converts_in : List ℕ → Bool
converts_in file = eqb (number_of (records_checked file)) 0 && any other_row (records file)

pub record Surveyed (file : List ℕ) (s : Survey) : Type 0 where
  pub answer : s.answer ≡ records_checked file
  pub contracts : s.contracts ≡ contract_count file
  pub firsts : length s.first ≡ parts
  pub first : (v : ℕ) → v < parts → get_or s.first v 0 ≡ part_start file v
  pub sizes : length s.counts ≡ parts
  pub counts : (v : ℕ) → v < parts → get_or s.counts v 0 ≡ part_count file v
  pub converts : s.converts ≡ converts_in file

-- a verdict with no parts
pub record Empty (a : Answer) (s : Survey) : Type 0 where
  pub answer : s.answer ≡ a
  pub contracts : s.contracts ≡ 0
  pub first : s.first ≡ replicate parts 0
  pub counts : s.counts ≡ replicate parts 0
  pub converts : s.converts ≡ false

-- a verdict on a file beside notes that are the survey's where nothing is refused
pub record Tallied (file : List ℕ) (answer : Answer) (contracts : ℕ) (converts : Bool) (first counts : List ℕ) : Type 0 where
  pub answer_is : answer ≡ records_checked file
  pub accepted : number_of answer ≡ 0
      → Surveyed file (record { answer = answer; contracts = contracts; first = first; counts = counts; converts = converts })

-- what is noted of a file, or what it is refused for
abbrev pub NotedBy : List ℕ → Result Noted Refusal → List ℕ → List ℕ → Type 0
NotedBy file r first counts =
    MatchResult r (λ (n : Noted). Tallied file (Ok tt) n.contracts n.converts first counts) (λ (e : Refusal). Err e ≡ records_checked file)
