-- What is said of a ticket that is asked about, told to C.
-- Assumes nothing.
use Rattle.std.specs.Prelude.{Result}
use mathlib.Core.Path.{ap, subst, ◌∙◌}
use Rattle.exact.proofs.Integers.{back}
use Rattle.screen.specs.Screen.{limited}
use Rattle.account.specs.declared.answers.Refusal.{Refusal}
use Rattle.screen.specs.declared.Limited.{Limited}
use Rattle.felgotany.specs.code.Outcomes.{TellsLimit}
use Rattle.felgotany.proofs.felgotany_screen_limit.Goals as goal

pub returns : goal.returns
returns c =
    let a = c.args in
    subst (λ (l : Result Limited Refusal). TellsLimit l c.tell_limit.result)
    (c.limit.ensures ∙ ap (limited a.lent.now a.named a.ticket.now) (back a.limit c.ranges.limit))
    c.tell_limit.ensures
