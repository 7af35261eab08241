-- The tickets are gone through one after the other; what is told of all is what is told of those still to come.
-- Assumes nothing.
use mathlib.Core.Path.{◌≡◌}
use Rattle.account.specs.Records.{cut}
use Rattle.tickets.specs.Asked.{one_by_one}
use Rattle.tickets.specs.code.Kept.{KeptBy}
use Rattle.tickets.proofs.AskLaws.{FromOn}
use Rattle.tickets.proofs.ask.put_in.Given as goal

abbrev pub invariant-loop-i : goal.invariant-loop-i
invariant-loop-i l =
    KeptBy l.file (cut l.i l.tickets) l.held × (one_by_one 0 l.file (cut l.count l.tickets) ≡ FromOn l.file l.tickets l.count l.i)
