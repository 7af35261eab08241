-- The bytes are moved up one after the other, the last first.
-- Assumes nothing.
use Prim.Native.Nat.{◌≤◌}
use Rattle.screen.proofs.InsertingLaws.{Lifted}
use Rattle.screen.proofs.inserting.move_up.Given as goal

abbrev pub invariant-loop-i : goal.invariant-loop-i
invariant-loop-i l = (l.at ≤ l.i) × Lifted l.end l.initial.lent l.lent l.i
