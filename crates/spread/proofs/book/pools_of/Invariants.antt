-- `pools_of`: the cells hold the pools of the prompts passed; none is more than the most of each.
-- Assumes nothing.
use Prim.Native.Nat.{◌≤◌}
use lib.ListN.{take}
use Rattle.spread.specs.Accepted.{open_of, prompt_places}
use Rattle.spread.specs.code.Cells.{Pooled}
use Rattle.spread.specs.code.Lent.{prompts_in}
use Rattle.spread.proofs.book.pools_of.Given as goal

abbrev pub invariant-loop-i : goal.invariant-loop-i
invariant-loop-i l = (l.count ≤ prompt_places) × Pooled l.cells (take l.i (open_of (prompts_in l.count l.tiers l.nets)))
