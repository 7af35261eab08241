-- A contract after the other, over all places.
-- Assumes nothing.
use Rattle.committee.proofs.OverContracts.{SoFar}
use Rattle.committee.proofs.contracts.found_in.Given as goal

abbrev pub invariant-loop-i : goal.invariant-loop-i
invariant-loop-i l = SoFar l.numbers l.i l.margin l.credits l.above
