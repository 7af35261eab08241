-- `pass`: what is still due is taken of the sizes as they are now, from the place on.
-- Assumes nothing.
use Prim.Native.Nat.{◌+◌, ◌-◌}
use Rattle.spread.specs.Accepted.{prompt_places}
use Rattle.spread.proofs.Passing.{ToPass}
use Rattle.spread.proofs.touches.pass.Given as goal

abbrev pub invariant-loop-due : goal.invariant-loop-due
invariant-loop-due l = ToPass l.cell l.wanted l.pool l.initial.size l.due l.k l.size l.touches

abbrev pub decreases-loop-due : goal.decreases-loop-due
decreases-loop-due l = l.due + (prompt_places - l.k)
