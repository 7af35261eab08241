-- Step after step: no fault so far, and the notes are those of the records passed.
-- Assumes nothing.
use Prim.Native.Nat.{◌-◌}
use Rattle.account.proofs.Going.{Going, Met}
use Rattle.account.proofs.check.note_records.Given as goal

abbrev pub invariant-loop-k : goal.invariant-loop-k
invariant-loop-k l =
    Going l.file l.first l.counts l.contracts l.k × Met l.file l.converts l.k

abbrev pub decreases-loop-k : goal.decreases-loop-k
decreases-loop-k l = l.count - l.k
