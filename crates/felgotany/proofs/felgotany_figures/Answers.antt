-- The answer to the figures, told to C, and the lent numbers as the question leaves them.
-- Assumes nothing.
use mathlib.Core.Path.{subst}
use Rattle.account.specs.Answers.{Answer}
use Rattle.felgotany.specs.code.Outcomes.{Tells}
use Rattle.felgotany.proofs.felgotany_figures.Goals as goal

pub returns : goal.returns
returns c =
    let f = c.answer.ensures in
    (subst (λ (a : Answer). Tells a c.tell.result) f.0 c.tell.ensures, f.1)
