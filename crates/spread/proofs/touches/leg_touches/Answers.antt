-- `leg_touches`: the walk from the place kept for the leg's cell.
-- Assumes nothing.
use Prim.Native.Nat.{◌≤◌}
use native.Mathlib.Omega.{arith}
use Rattle.spread.specs.Steps.{market_in}
use Rattle.spread.specs.code.Cells.{pool_count}
use Rattle.spread.proofs.Passing.{leg_taken}
use Rattle.spread.proofs.Pooling.{cell_most}
use Rattle.spread.proofs.touches.leg_touches.Goals as goal
use Rattle.spread.proofs.touches.leg_touches.Goals.{After-cell_for-cell}

most : (c : After-cell_for-cell) → c.cell_for-cell.result ≤ pool_count
most c =
    omega (arith, c.cell_for-cell.ensures, cell_most (market_in c.args.second c.args.leg.side) c.args.leg.tier)

pub offset_bounds-at-cell : goal.offset_bounds-at-cell
offset_bounds-at-cell c = let h = most (goal.at.offset_bounds-at-cell c).After-cell_for-cell in omega arith

pub bounds-at-cell : goal.bounds-at-cell
bounds-at-cell c =
    omega (arith, most (goal.at.bounds-at-cell c).After-cell_for-cell, c.requires.places)

pub pass-passed-requires : goal.pass-passed-requires
pass-passed-requires c =
    (c.requires.pools, c.requires.sizes, c.requires.begun c.cell_for-cell.result)

pub offset_bounds-at-cell-2 : goal.offset_bounds-at-cell-2
offset_bounds-at-cell-2 c =
    let h = most (goal.at.offset_bounds-at-cell-2 c).After-cell_for-cell in omega arith

pub bounds-at-cell-2 : goal.bounds-at-cell-2
bounds-at-cell-2 c =
    omega (arith, most (goal.at.bounds-at-cell-2 c).After-cell_for-cell, c.requires.places)

pub returns : goal.returns
returns c =
    leg_taken c.args.at.now c.args.pool.now c.args.size.now _ _ _ c.args.wanted _ _
    c.cell_for-cell.ensures c.requires c.pass-passed.ensures
