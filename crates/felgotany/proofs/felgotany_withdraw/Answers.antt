-- A withdrawal, told to C.
-- Assumes nothing.
use mathlib.Core.Path.{subst}
use Rattle.tickets.specs.declared.ask.Asked.{Asked}
use Rattle.felgotany.specs.code.Outcomes.{TellsAsked}
use Rattle.felgotany.proofs.felgotany_withdraw.Goals as goal

pub returns : goal.returns
returns c = subst (λ (a : Asked). TellsAsked a c.tell_asked.result) c.ask_withdrawn.ensures c.tell_asked.ensures
