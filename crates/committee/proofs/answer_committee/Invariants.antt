-- The committee's figures: refused as a whole, or one account after the other summed, and the numbers written.
-- Assumes nothing.
use Rattle.committee.proofs.Going.{Going}
use Rattle.committee.proofs.answer_committee.Given as goal

abbrev pub invariant-loop-i : goal.invariant-loop-i
invariant-loop-i l = Going l.accounts l.lengths l.sums l.at l.i
