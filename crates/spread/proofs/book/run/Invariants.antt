-- `run`: the spreads passed have their numbers, and the steps to come run on the cells left.
-- Assumes nothing.
use Prim.Native.Nat.{◌≤◌}
use Rattle.spread.specs.Accepted.{table_spreads, spread_places}
use Rattle.spread.specs.code.Cells.{Small}
use Rattle.spread.specs.code.Lent.{spreads_from}
use Rattle.spread.proofs.Running.{Running}
use Rattle.spread.proofs.book.run.Given as goal

abbrev pub invariant-loop-i : goal.invariant-loop-i
invariant-loop-i l =
    (l.table.count ≤ spread_places) × Small l.cells × Running l.initial.cells (table_spreads l.table) l.i l.cells (spreads_from l.first) (spreads_from l.second)
