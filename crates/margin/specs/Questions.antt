-- "Two questions: the figures, and the delta book": what an account answers, after its records, and what stands in the lent numbers
-- afterwards. Of a delta book it can be asked too what each step takes of each prompt.
-- Assumes nothing.
use Rattle.std.specs.Prelude.{ℕ, Bool, true, cond, List, ◌++◌, length, drop, eqb, ltb, ℤ, Ok, Err}
use Rattle.record.specs.Layout.{Record}
use Rattle.account.specs.Answers.{number_of}
use Rattle.account.specs.Answers.{Answer}
use Rattle.account.specs.declared.answers.Refusal.TheVariants.{TooFewNumbers, NoSuchQuestion}
use Rattle.margin.specs.declared.asking.Question.{Question}
use Rattle.margin.specs.declared.asking.Question.TheVariants.{Figures, Book, Uses}
use Rattle.margin.specs.Figures.{figures}
use Rattle.margin.specs.Books.{answered, book}
use Rattle.formulas.specs.Bounds.{longest_figures, longest_book, longest_uses}
use Rattle.margin.specs.Uses.{uses}

abbrev pub not_refused : Answer → Bool
not_refused a = eqb (number_of a) 0

-- what is asked next, where nothing was refused so far
abbrev pub if_accepted : Answer → Answer → Answer
if_accepted a next = cond (not_refused a) next a

-- the answer of each question
abbrev pub numbers_for : List Record → Question → List ℤ
numbers_for account Figures = figures account
numbers_for account (Book question) = book account question
numbers_for account (Uses question) = uses account question

abbrev pub answers : List Record → Question → Bool
answers account Figures = true
answers account (Book question) = answered account question
answers account (Uses question) = answered account question

-- 11: "question neither a listed contract nor 16", naming the record count
abbrev pub asked : List Record → Question → Answer
asked account question = cond (answers account question) (Ok tt) (Err (NoSuchQuestion (length account)))

-- 10: "fewer numbers lent than the answer needs", naming the record count
abbrev pub enough : List Record → List ℤ → ℕ → Answer
enough account numbers lent = cond (ltb lent (length numbers)) (Err (TooFewNumbers (length account))) (Ok tt)

-- "Order: .. then 11, then 10."
abbrev pub answer_over : List Record → Question → ℕ → Answer
answer_over account question lent = if_accepted (asked account question) (enough account (numbers_for account question) lent)

-- "A refusal writes no number. .. Success writes the answer at the front and nothing after it."
abbrev pub afterwards : Answer → List ℤ → List ℤ → List ℤ
afterwards a numbers lent = cond (not_refused a) (numbers ++ drop (length numbers) lent) lent

abbrev pub after_over : List Record → Question → List ℤ → List ℤ
after_over account question lent =
    afterwards (answer_over account question (length lent)) (numbers_for account question) lent

-- how many numbers an answer has, 0 where the question is not answered
abbrev pub need_over : List Record → Question → ℕ
need_over account question = cond (answers account question) (length (numbers_for account question)) 0

-- never more than this many
abbrev pub most_for : Question → ℕ
most_for Figures = longest_figures
most_for (Book question) = longest_book
most_for (Uses question) = longest_uses
