-- The answer of the committee's figures, told to C, and the lent numbers as they are left.
-- Assumes nothing.
use mathlib.Core.Path.{subst}
use Rattle.account.specs.Answers.{Answer}
use Rattle.felgotany.specs.code.Outcomes.{Tells}
use Rattle.felgotany.proofs.felgotany_committee.Goals as goal

pub returns : goal.returns
returns c =
    let f = c.answer_committee.ensures in
    (subst (λ (a : Answer). Tells a c.tell.result) f.0 c.tell.ensures, f.1)
