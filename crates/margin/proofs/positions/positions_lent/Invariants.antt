-- Each listed contract's position is put in its place, one after the other.
-- Assumes nothing.
use Rattle.account.specs.Joined.{account_of}
use Rattle.margin.proofs.PositionsLaws.{Placed}
use Rattle.margin.proofs.positions.positions_lent.Given as goal

abbrev pub invariant-loop-i : goal.invariant-loop-i
invariant-loop-i l = Placed (account_of l.morning l.noon) l.i l.at
