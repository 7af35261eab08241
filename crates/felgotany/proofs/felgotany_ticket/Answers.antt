-- A ticket, told to C.
-- Assumes nothing.
use mathlib.Core.Path.{subst}
use Rattle.tickets.specs.declared.ask.Asked.{Asked}
use Rattle.felgotany.specs.code.Outcomes.{TellsAsked}
use Rattle.felgotany.proofs.felgotany_ticket.Goals as goal

pub returns : goal.returns
returns c = subst (λ (a : Asked). TellsAsked a c.tell_asked.result) c.ask.ensures c.tell_asked.ensures
