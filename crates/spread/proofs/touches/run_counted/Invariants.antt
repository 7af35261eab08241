-- `run_counted`: the spreads passed have their numbers, and the cells and sizes are those of the prompts as they leave them.
-- Assumes nothing.
use Prim.Native.Nat.{◌*◌, ◌≤◌}
use mathlib.Core.List.{List}
use mathlib.Core.Path.{◌≡◌}
use Rattle.spread.specs.Accepted.{table_spreads, steps_of, prompt_places, spread_places}
use Rattle.spread.specs.code.Cells.{Small, numbers_over}
use Rattle.spread.specs.code.Lent.{spreads_from}
use Rattle.spread.specs.code.Passing.{Ready, Laid}
use Rattle.spread.specs.Steps.{Open, numbers}
use Rattle.spread.proofs.Counting.{Counting}
use Rattle.spread.proofs.Running.{Running}
use Rattle.spread.proofs.touches.run_counted.Given as goal

abbrev pub invariant-loop-i : goal.invariant-loop-i
invariant-loop-i l =
    (l.table.count ≤ spread_places) × Small l.cells × Running l.initial.cells (table_spreads l.table) l.i l.cells (spreads_from l.first) (spreads_from l.second)
    × (l.touches ≤ 2 * (3 * prompt_places) * l.i) × Ready l.at l.pool l.size
    × ((ps : List Open) → Laid ps l.pool l.initial.size → numbers_over (steps_of l.table) l.initial.cells ≡ numbers (steps_of l.table) ps
    → Counting (table_spreads l.table) ps l.i l.pool l.size l.touches)
