-- The net deltas are copied one after the other.
-- Assumes nothing.
use Rattle.std.proofs.Common.{pos}
use Rattle.formulas.proofs.LentLaws.{Copied}
use Rattle.formulas.proofs.books.put_unused.Given as goal

abbrev pub invariant-loop-i : goal.invariant-loop-i
invariant-loop-i l = Copied (pos 0) l.nets l.i l.unused
