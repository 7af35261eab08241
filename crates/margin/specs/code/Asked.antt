-- What the answers to a question are made of, as the code holds it.
-- Assumes nothing.
use Rattle.std.specs.Prelude.{ℕ, ◌+◌, ◌*◌, ◌≤◌, ◌≡◌, Bool, true, not, ◌&&◌, ◌||◌, List, length, get_or, eqb, ltb}
use Rattle.record.specs.Layout.{Record}
use Rattle.account.specs.Check.{most_prompts, most_spreads}
use Rattle.account.specs.Lawful.{Lawful}
use Rattle.spread.specs.Steps.{Open, Taker}
use Rattle.margin.specs.declared.uses.Asking.{Asking}
use Rattle.margin.specs.Books.{answered, book, book_by, table_question}
use Rattle.margin.specs.Uses.{uses, steps_for, opens_for}
use Rattle.margin.specs.code.Asking.{Asks}
use Rattle.account.specs.PartNumbers.{part}

-- how many prompts and spreads a book is about
pub record SizesOf (account : List Record) (question prompts spreads : ℕ) : Type 0 where
  pub book_has : length (book account question) ≡ 3 * prompts + 2 * spreads + 1
  pub uses_have : length (uses account question) ≡ spreads * (2 * prompts)
  pub prompts_few : prompts ≤ most_prompts
  pub spreads_few : spreads ≤ most_spreads

-- what a question is about that it answers
pub record AskedBy (whole : List Record) (question records : ℕ) (a : Asking) : Type 0 where
  pub lawful : Lawful whole
  pub asked_is : answered whole question ≡ true
  pub records_are : records ≡ length whole
  pub asks : Asks (steps_for whole question) (opens_for whole question) a

-- a question that is answered, whose book is that of these steps over these prompts
pub record BookIs (whole : List Record) (question : ℕ) (ss : List (List Taker)) (ps : List Open) : Type 0 where
  pub asked_is : answered whole question ≡ true
  pub is : book whole question ≡ book_by ss ps

-- whether it is answered, by how many records each contract's own part has
abbrev pub asked_by : List ℕ → ℕ → Bool
asked_by counts question =
    eqb question table_question || (ltb question table_question && not (eqb (get_or counts (part 1 question) 0) 0))
