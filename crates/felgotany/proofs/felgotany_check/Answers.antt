-- The check's answer, told to C.
-- Assumes nothing.
use mathlib.Core.Path.{subst}
use Rattle.account.specs.Answers.{Answer}
use Rattle.felgotany.specs.code.Outcomes.{Tells}
use Rattle.felgotany.proofs.felgotany_check.Goals as goal

pub returns : goal.returns
returns c = subst (λ (a : Answer). Tells a c.tell.result) c.check.ensures c.tell.ensures
