-- Request 2026-13, 'Two things clients ask us to state', as claims about the definitions. `statements` of proofs/Stated.antt proves
-- them of the records of any account, in one file or joined from two; docs/STATEMENTS.md says them in plain words.
-- Assumes nothing.
use Rattle.std.specs.Prelude.{ℕ, ◌+◌, ◌≤◌, ◌≡◌, Bool, true, not, ℤ, Ok}
use mathlib.Core.List.{List, ◌++◌, Permᴰ}
use Rattle.exact.specs.Lists.{keep}
use Rattle.record.specs.Layout.{Record}
use Rattle.account.specs.Checked.{checked}
use Rattle.account.specs.Noon.{clear, joined_verdict}
use Rattle.account.specs.Parts.{of_kind, rows_of}
use Rattle.account.specs.Records.{records}
use Rattle.account.specs.Joined.{account_of}
use Rattle.margin.specs.Books.{answered, book}
use Rattle.formulas.specs.Contract.{parts_in, scanning_of}
use Rattle.margin.specs.Figures.{figures}
use Rattle.margin.specs.Questions.{answer_over, after_over}
use Rattle.margin.specs.Uses.{uses}
use Rattle.margin.specs.declared.asking.Question.{Question}

-- the same records in any order: the permutations of the library
abbrev pub Rearranged : List Record → List Record → Type 0
Rearranged = Permᴰ

-- the contract, prompt, spread and rate records: all but the rows, in file order
abbrev pub no_row : Record → Bool
no_row r = not (of_kind 3 r)

abbrev pub other_records : List Record → List Record
other_records = keep no_row

-- ---- "First, the order of rows within a contract changes no figure and no delta book, for accepted accounts."

-- two accounts whose records are the same but for the order of rows within contracts
pub record SameButOrder (a b : List Record) : Type 0 where
  pub others : other_records a ≡ other_records b
  pub rows : (c : ℕ) → Rearranged (rows_of c a) (rows_of c b)

-- they answer the same questions alike: the figures, every delta book with the number of touches at its end, and who paid in it
pub record AnswerAlike (a b : List Record) : Type 0 where
  pub figures : figures a ≡ figures b
  pub questions : (question : ℕ) → answered a question ≡ answered b question
  pub books : (question : ℕ) → book a question ≡ book b question
  pub uses : (question : ℕ) → uses a question ≡ uses b question

-- and so whatever is asked of them gets the same answer and leaves the same numbers, as many being lent
pub record AskedAlike (a b : List Record) : Type 0 where
  pub answer : (question : Question) (lent : ℕ) → answer_over a question lent ≡ answer_over b question lent
  pub after : (question : Question) (lent : List ℤ) → after_over a question lent ≡ after_over b question lent

-- ---- "Second, for two accepted accounts with the same contract, prompt, spread and rate records whose rows also fit one file, a
-- contract's scanning risk over the rows of both is at most the sum of the two."

-- one account with the rows of two: each contract's are those of the one and of the other, in any order
pub record RowsOfBoth (a b both : List Record) : Type 0 where
  pub first : other_records a ≡ other_records both
  pub second : other_records b ≡ other_records both
  pub rows : (c : ℕ) → Rearranged (rows_of c both) (rows_of c a ++ rows_of c b)

-- a contract is known by its own record
pub record AtMostTheSum (a b both : List Record) : Type 0 where
  pub scanning : (own : Record) → scanning_of (parts_in both own) ≤ scanning_of (parts_in a own) + scanning_of (parts_in b own)

pub record Statements : Type 0 where
  pub order : (a b : List Record) → SameButOrder a b → AnswerAlike a b
  -- of accepted files, and of pairs of a morning and a noon file that are not refused
  pub files : (file other : List ℕ) → checked file ≡ Ok tt → checked other ≡ Ok tt → SameButOrder (records file) (records other)
      → AskedAlike (records file) (records other)
  pub pairs : (morning noon morning' noon' : List ℕ) → clear (joined_verdict morning noon) ≡ true → clear (joined_verdict morning' noon') ≡ true
      → SameButOrder (account_of morning noon) (account_of morning' noon') → AskedAlike (account_of morning noon) (account_of morning' noon')
  pub together : (a b both : List Record) → RowsOfBoth a b both → AtMostTheSum a b both
