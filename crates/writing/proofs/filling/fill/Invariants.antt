-- One record after the other.
-- Assumes nothing.
use Rattle.writing.proofs.Placed.{Filling}
use Rattle.writing.proofs.filling.fill.Given as goal

abbrev pub invariant-loop-i : goal.invariant-loop-i
invariant-loop-i l = Filling l.entries l.k l.n l.initial.out l.out l.i
