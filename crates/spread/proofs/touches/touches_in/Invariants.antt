-- `touches_in`: the cells and sizes are those of the prompts as the spreads passed leave them.
-- Assumes nothing.
use Prim.Native.Nat.{◌*◌, ◌≤◌}
use mathlib.Core.List.{List}
use Rattle.spread.specs.Accepted.{table_spreads, prompt_places, spread_places}
use Rattle.spread.specs.code.Passing.{Ready, Laid}
use Rattle.spread.specs.Steps.{Open}
use Rattle.spread.proofs.Counting.{Formed, Counting}
use Rattle.spread.proofs.touches.touches_in.Given as goal

abbrev pub invariant-loop-i : goal.invariant-loop-i
invariant-loop-i l =
    (l.table.count ≤ spread_places) × (l.touches ≤ 2 * (3 * prompt_places) * l.i) × Ready l.at l.pool l.size
    × ((ps : List Open) → Laid ps l.pool l.initial.size → Formed (table_spreads l.table) ps l.first l.second → Counting (table_spreads l.table) ps l.i l.pool l.size l.touches)
