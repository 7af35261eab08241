-- Whether the named bytes are accepted, told to C.
-- Assumes nothing.
use mathlib.Core.Path.{subst}
use Rattle.account.specs.Answers.{Answer}
use Rattle.felgotany.specs.code.Outcomes.{Tells}
use Rattle.felgotany.proofs.felgotany_screen_load.Goals as goal

pub returns : goal.returns
returns c = subst (λ (a : Answer). Tells a c.tell.result) c.load.ensures c.tell.ensures
