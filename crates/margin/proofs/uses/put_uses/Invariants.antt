-- One spread after the other, its two steps by turns: what is written and what is still to come are the whole.
-- Assumes nothing.
use mathlib.Core.Path.{◌≡◌}
use lib.ListN.{length}
use lib.Seq.{sets}
use Rattle.spread.specs.Accepted.{open_of, steps_of}
use Rattle.spread.specs.Uses.{uses_of}
use Rattle.margin.proofs.UsesLaws.{Putting}
use Rattle.margin.proofs.uses.put_uses.Given as goal

abbrev pub invariant-loop-i : goal.invariant-loop-i
invariant-loop-i l = Putting l.n l.table (sets l.initial.out 0 (uses_of (steps_of l.table) (open_of l.initial.left))) l.i l.at l.left l.out
    × (length l.out ≡ length l.initial.out)
