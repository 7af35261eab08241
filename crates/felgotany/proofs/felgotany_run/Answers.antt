-- The answer to a run of accounts, told to C, and the lent numbers as the run leaves them.
-- Assumes nothing.
use mathlib.Core.Path.{subst}
use Rattle.account.specs.Answers.{Answer}
use Rattle.felgotany.specs.code.Outcomes.{Tells}
use Rattle.felgotany.proofs.felgotany_run.Goals as goal

pub returns : goal.returns
returns c =
    let f = c.answer_run.ensures in
    record {
      tells = subst (λ (a : Answer). Tells a c.tell.result) f.value c.tell.ensures;
      figures_after = f.out_after;
      outcomes_after = f.outcomes_after;
    }
