-- All questions at once: each has a place of its own in the lent numbers, as wide as the longest answer.
-- Assumes nothing.
use Rattle.std.specs.Prelude.{ℕ, zero, suc, ◌+◌, ◌*◌, ◌<◌, ◌≡◌, Bool, cond, List, ◌++◌, ltb, ℤ, length, take, drop, Ok, Err}
use Rattle.record.specs.Layout.{Record}
use Rattle.account.specs.Answers.{Answer}
use Rattle.account.specs.declared.answers.Refusal.TheVariants.{TooFewNumbers}
use Rattle.margin.specs.declared.asking.Question.{Question}
use Rattle.margin.specs.declared.asking.Question.TheVariants.{Book, Uses}
use Rattle.margin.specs.Books.{table_question}
use Rattle.formulas.specs.Bounds.{longest_book, longest_uses}
use Rattle.margin.specs.Questions.{not_refused, after_over}

-- places in lent numbers, all of one width, one after the other
module _ {ℓ} {A : Type ℓ} where
  -- what stands in a place
  abbrev pub place : ℕ → ℕ → List A → List A
  place width i lent = take width (drop (width * i) lent)

  -- the lent numbers with the `width` from one on changed
  abbrev pub at_place : ℕ → ℕ → (List A → List A) → List A → List A
  at_place width at change lent = take at lent ++ (change (take width (drop at lent)) ++ drop (at + width) lent)

-- one for each contract number, and one for the intercontract table
abbrev pub questions : ℕ
questions = table_question + 1

-- once questions 0 to n - 1 are asked, each into its place; `after` says what a question leaves where it is asked
abbrev pub after_each : ℕ → (ℕ → List ℤ → List ℤ) → ℕ → List ℤ → List ℤ
after_each width after zero lent = lent
after_each width after (suc n) lent = at_place width (width * n) (after n) (after_each width after n lent)

-- 10: fewer numbers lent than the places have
abbrev pub each_over : ℕ → List Record → ℕ → Answer
each_over width account lent = cond (ltb lent (width * questions)) (Err (TooFewNumbers (length account))) (Ok tt)

abbrev pub after_each_over : ℕ → (ℕ → List ℤ → List ℤ) → List Record → List ℤ → List ℤ
after_each_over width after account lent =
    cond (not_refused (each_over width account (length lent))) (after_each width after questions lent) lent

-- where all places are lent: the place of one question changed, and of those below n
abbrev pub lent_place : ℕ → ℕ → (List ℤ → List ℤ) → List ℤ → List ℤ
lent_place width q change lent = cond (ltb (length lent) (width * questions)) lent (at_place width (width * q) change lent)

abbrev pub lent_each : ℕ → (ℕ → List ℤ → List ℤ) → ℕ → List ℤ → List ℤ
lent_each width after n lent = cond (ltb (length lent) (width * questions)) lent (after_each width after n lent)

-- the books of all questions, or who paid for what in each of them
abbrev pub question_of : Bool → ℕ → Question
question_of paid question = cond paid (Uses question) (Book question)

abbrev pub width_of : Bool → ℕ
width_of paid = cond paid longest_uses longest_book

abbrev pub all_over : Bool → List Record → ℕ → Answer
all_over paid = each_over (width_of paid)

abbrev pub after_all_over : Bool → List Record → List ℤ → List ℤ
after_all_over paid account = after_each_over (width_of paid) (λ q. after_over account (question_of paid q)) account

-- ---- what this says of each question by itself

-- in the place of a question stands what the question by itself writes there, and nothing after the places is changed
pub record EachPlace (width : ℕ) (after : ℕ → List ℤ → List ℤ) (lent left : List ℤ) : Type 0 where
  pub each : (q : ℕ) → q < questions → place width q left ≡ after q (place width q lent)
  pub rest : drop (width * questions) left ≡ drop (width * questions) lent
