-- What request 2026-08 asks of a run of accounts, as claims about the definitions.
-- Assumes nothing.
use Rattle.std.specs.Prelude.{ℕ, ◌*◌, ◌<◌, ◌≡◌, ◌⊎◌, List, ℤ, length, get_or, take, drop}
use Rattle.exact.specs.Lists.{sum}
use Rattle.account.specs.Answers.{number_of, record_of}
use Rattle.account.specs.Checked.{checked}
use Rattle.exact.specs.Iff.{Iff}
use Rattle.formulas.specs.Bounds.{longest_figures}
use Rattle.questions.specs.Questions.{figures_answer, after_figures}
use Rattle.margin.specs.Places.{place}
use Rattle.runs.specs.Runs.{outcome_numbers, outcome_of, run_answer, run_figures, run_outcomes}

-- the bytes of an account: as many as its length, after those of the accounts before it
abbrev pub account_at : ℕ → List ℕ → List ℕ → List ℕ
account_at i lengths bytes = take (get_or lengths i 0) (drop (sum (take i lengths)) bytes)

-- "answer each as a call of its own would, refusals included": what stands in an account's places follows from its own bytes and from
-- what stood there; what stands after all places is as before
pub record EachAccount (bytes lengths : List ℕ) (figures : List ℤ) (outcomes : List ℕ) : Type 0 where
  pub figures_are : (i : ℕ) → i < length lengths →
      place longest_figures i (run_figures bytes lengths (length outcomes) figures)
      ≡ after_figures (account_at i lengths bytes) (place longest_figures i figures)
  pub outcome_is : (i : ℕ) → i < length lengths →
      place outcome_numbers i (run_outcomes bytes lengths (length figures) outcomes)
      ≡ outcome_of (figures_answer (account_at i lengths bytes) longest_figures)
  pub figures-after : drop (longest_figures * length lengths) (run_figures bytes lengths (length outcomes) figures)
      ≡ drop (longest_figures * length lengths) figures
  pub outcomes_after : drop (outcome_numbers * length lengths) (run_outcomes bytes lengths (length figures) outcomes)
      ≡ drop (outcome_numbers * length lengths) outcomes

-- whether numbers are lacking for the places of so many accounts
abbrev pub Lacking : ℕ → ℕ → ℕ → Type 0
Lacking accounts figures outcomes = (figures < longest_figures * accounts) ⊎ (outcomes < outcome_numbers * accounts)

-- "Refusals of the whole run, with record 0, before any account is read: 17, the lengths do not add up to what was lent; then 10,
-- too few numbers lent for all places."
pub record Exactly (bytes lengths : List ℕ) (figures outcomes : ℕ) : Type 0 where
  pub seventeen : Iff (number_of (run_answer bytes lengths figures outcomes) ≡ 17) (sum lengths ≡ length bytes → ⊥)
  pub ten : Iff (number_of (run_answer bytes lengths figures outcomes) ≡ 10) ((sum lengths ≡ length bytes) × Lacking (length lengths) figures outcomes)
  pub no_record : record_of (run_answer bytes lengths figures outcomes) ≡ 0

-- a run that is refused writes nothing
pub record Untouched (bytes lengths : List ℕ) (figures : List ℤ) (outcomes : List ℕ) : Type 0 where
  pub figures_are : run_figures bytes lengths (length outcomes) figures ≡ figures
  pub outcome_is : run_outcomes bytes lengths (length figures) outcomes ≡ outcomes

-- the numbers of a place are enough: what an account is told is the verdict of the check, and never 10
pub record Claims (bytes lengths : List ℕ) (figures : List ℤ) (outcomes : List ℕ) : Type 0 where
  pub verdict : (account : List ℕ) → figures_answer account longest_figures ≡ checked account
  pub exactly : Exactly bytes lengths (length figures) (length outcomes)
  pub refused : (number_of (run_answer bytes lengths (length figures) (length outcomes)) ≡ 0 → ⊥) → Untouched bytes lengths figures outcomes
  pub accepted : number_of (run_answer bytes lengths (length figures) (length outcomes)) ≡ 0 → EachAccount bytes lengths figures outcomes
