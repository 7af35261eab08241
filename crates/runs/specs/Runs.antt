-- Request 2026-08, 'The whole book overnight': a run of accounts, answered in one call.
-- Assumes nothing.
use Rattle.std.specs.Prelude.{ℕ, ◌*◌, Bool, cond, not, ◌||◌, List, [], ◌∷◌, ◌++◌, eqb, ltb, ℤ, length, take, drop, Ok, Err}
use Rattle.exact.specs.Lists.{sum}
use Rattle.account.specs.Answers.{number_of, record_of}
use Rattle.account.specs.Answers.{Answer}
use Rattle.account.specs.declared.answers.Refusal.TheVariants.{TooFewNumbers, LengthsDiffer}
use Rattle.formulas.specs.Bounds.{longest_figures}
use Rattle.margin.specs.Questions.{not_refused}
use Rattle.questions.specs.Questions.{figures_answer, after_figures}

-- "Take a run of accounts, each with its length": the accounts stand one after the other in what is lent
abbrev pub accounts_of : List ℕ → List ℕ → List (List ℕ)
accounts_of [] bytes = []
accounts_of (n ∷ lengths) bytes = take n bytes ∷ accounts_of lengths (drop n bytes)

-- "Each account has a place of 129 numbers for figures and one of two for refusal and record (both 0 if accepted)."
abbrev pub outcome_numbers : ℕ
outcome_numbers = 2

-- "too few numbers lent for all places"
abbrev pub too_few : ℕ → ℕ → ℕ → Bool
too_few accounts figures outcomes = ltb figures (longest_figures * accounts) || ltb outcomes (outcome_numbers * accounts)

-- "Refusals of the whole run, with record 0, before any account is read: 17, the lengths do not add up to what was lent; then 10,
-- too few numbers lent for all places." A sum is a sum of whole numbers: it does not wrap around.
abbrev pub run_answer : List ℕ → List ℕ → ℕ → ℕ → Answer
run_answer bytes lengths figures outcomes =
    cond (not (eqb (sum lengths) (length bytes))) (Err LengthsDiffer)
    (cond (too_few (length lengths) figures outcomes) (Err (TooFewNumbers 0)) (Ok tt))

-- each account's place in lent numbers, one after the other: what `after` leaves in it; nothing after the places is changed
module _ {ℓ} {A : Type ℓ} where
  abbrev pub each_place : ℕ → (List ℕ → List A → List A) → List (List ℕ) → List A → List A
  each_place width after [] lent = lent
  each_place width after (a ∷ accounts) lent = after a (take width lent) ++ each_place width after accounts (drop width lent)

-- an answer as the two numbers of its place
abbrev pub outcome_of : Answer → List ℕ
outcome_of a = number_of a ∷ record_of a ∷ []

-- "answer each as a call of its own would, refusals included": what a call with the numbers of a place lent would answer
abbrev pub after_outcome : List ℕ → List ℕ → List ℕ
after_outcome account lent = outcome_of (figures_answer account longest_figures)

abbrev pub each_figures : List (List ℕ) → List ℤ → List ℤ
each_figures = each_place longest_figures after_figures

abbrev pub each_outcome : List (List ℕ) → List ℕ → List ℕ
each_outcome = each_place outcome_numbers after_outcome

-- a run that is refused writes nothing; "A refused account's figures are not written."
abbrev pub run_figures : List ℕ → List ℕ → ℕ → List ℤ → List ℤ
run_figures bytes lengths outcomes lent =
    cond (not_refused (run_answer bytes lengths (length lent) outcomes)) (each_figures (accounts_of lengths bytes) lent) lent

abbrev pub run_outcomes : List ℕ → List ℕ → ℕ → List ℕ → List ℕ
run_outcomes bytes lengths figures lent =
    cond (not_refused (run_answer bytes lengths figures (length lent))) (each_outcome (accounts_of lengths bytes) lent) lent
