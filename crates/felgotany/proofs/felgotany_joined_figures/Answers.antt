-- The verdict on the figures of a joined account, told to C, and the lent numbers as the question leaves them.
-- Assumes nothing.
use mathlib.Core.Path.{subst}
use Rattle.account.specs.declared.noon.Verdict.{Verdict}
use Rattle.felgotany.specs.code.Outcomes.{TellsOf}
use Rattle.felgotany.proofs.felgotany_joined_figures.Goals as goal

pub returns : goal.returns
returns c =
    let f = c.answer.ensures in
    (subst (λ (v : Verdict). TellsOf v c.tell_of.result) f.0 c.tell_of.ensures, f.1)
