-- An account of a run as the question of its figures answers it. This is all that the committee's figures know of that question.
-- Assumes nothing.
use Rattle.std.specs.Prelude.{ℕ, List, ℤ}
use Rattle.account.specs.Answers.{number_of}
use Rattle.account.specs.Records.{records}
use Rattle.formulas.specs.Bounds.{longest_figures}
use Rattle.margin.specs.Figures.{figures}
use Rattle.questions.specs.Questions.{figures_answer}

-- the number of its refusal, 0 where it is accepted, and its figures: "for each contract in file order eight numbers (contract, active
-- scenario, scanning risk, interprompt charge, prompt charge, credit, short option minimum, margin), then the total"
pub record Answered : Type 0 where
  pub refusal : ℕ
  pub numbers : List ℤ

abbrev pub answered_account : List ℕ → Answered
answered_account account = record { refusal = number_of (figures_answer account longest_figures); numbers = figures (records account) }
