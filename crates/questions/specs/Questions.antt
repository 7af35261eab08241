-- "Two questions: the figures, and the delta book": what each answers over any bytes, and what stands in the lent numbers afterwards.
-- Assumes nothing.
use Rattle.std.specs.Prelude.{ℕ, ◌≤◌, ◌<◌, ◌≡◌, Bool, true, false, cond, List, length, ℤ, Err}
use Rattle.account.specs.Checked.{checked}
use Rattle.account.specs.Records.{records}
use Rattle.account.specs.Answers.{Answer}
use Rattle.account.specs.declared.answers.Refusal.TheVariants.{TooFewNumbers}
use Rattle.margin.specs.declared.asking.Question.{Question}
use Rattle.margin.specs.declared.asking.Question.TheVariants.{Figures, Book, Uses}
use Rattle.margin.specs.Places.{all_over, after_all_over}
use Rattle.margin.specs.Questions.{not_refused, if_accepted, numbers_for, answer_over, afterwards, need_over}

-- "Order: 1, 2; then records from 0 up ..; then 11, then 10."
abbrev pub answer_to : List ℕ → Question → ℕ → Answer
answer_to file question lent = if_accepted (checked file) (answer_over (records file) question lent)

-- "A refusal writes no number. .. Success writes the answer at the front and nothing after it."
abbrev pub after_to : List ℕ → Question → List ℤ → List ℤ
after_to file question lent = afterwards (answer_to file question (length lent)) (numbers_for (records file) question) lent

-- how many numbers the answer has, 0 for a refused file and where the question is not answered
abbrev pub need_to : List ℕ → Question → ℕ
need_to file question = cond (not_refused (checked file)) (need_over (records file) question) 0

-- the questions by their names
abbrev pub figures_answer : List ℕ → ℕ → Answer
figures_answer file = answer_to file Figures

abbrev pub after_figures : List ℕ → List ℤ → List ℤ
after_figures file = after_to file Figures

abbrev pub figures_need : List ℕ → ℕ
figures_need file = need_to file Figures

abbrev pub book_answer : List ℕ → ℕ → ℕ → Answer
book_answer file question = answer_to file (Book question)

abbrev pub after_book : List ℕ → ℕ → List ℤ → List ℤ
after_book file question = after_to file (Book question)

abbrev pub book_need : List ℕ → ℕ → ℕ
book_need file question = need_to file (Book question)

abbrev pub uses_answer : List ℕ → ℕ → ℕ → Answer
uses_answer file question = answer_to file (Uses question)

abbrev pub after_uses : List ℕ → ℕ → List ℤ → List ℤ
after_uses file question = after_to file (Uses question)

abbrev pub uses_need : List ℕ → ℕ → ℕ
uses_need file question = need_to file (Uses question)

-- ---- all questions at once, each in its place

abbrev pub all_to : Bool → List ℕ → ℕ → Answer
all_to paid file lent = if_accepted (checked file) (all_over paid (records file) lent)

abbrev pub after_all_to : Bool → List ℕ → List ℤ → List ℤ
after_all_to paid file lent = cond (not_refused (checked file)) (after_all_over paid (records file) lent) lent

-- the seventeen books
abbrev pub books_answer : List ℕ → ℕ → Answer
books_answer = all_to false

abbrev pub books_after : List ℕ → List ℤ → List ℤ
books_after = after_all_to false

-- who paid for what in each of them
abbrev pub all_uses_answer : List ℕ → ℕ → Answer
all_uses_answer = all_to true

abbrev pub all_uses_after : List ℕ → List ℤ → List ℤ
all_uses_after = after_all_to true

-- ---- 10 is given exactly where fewer numbers are lent than the answer needs

pub record Needed (otherwise : Answer) (records : ℕ) (answer : ℕ → Answer) (need : ℕ) : Type 0 where
  pub enough : (lent : ℕ) → need ≤ lent → answer lent ≡ otherwise
  pub fewer : (lent : ℕ) → lent < need → answer lent ≡ Err (TooFewNumbers records)
