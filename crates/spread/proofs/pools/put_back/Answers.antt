-- `put_back`: leg after leg.
-- Assumes nothing.
use mathlib.Core.Path.{◌≡◌}
use lib.ListN.{length}
use borrow.Author.Rules.{rules}
use Rattle.spread.proofs.Soundness.{second_leg_lem, third_leg_lem}
use Rattle.spread.proofs.pools.put_back.Goals as goal
use Rattle.spread.proofs.pools.put_back.Goals.{Start}

legs : (s : Start) → length s.args.spread.leg ≡ 3
legs s = search rules

pub leg_cell-requires-2 : goal.leg_cell-requires-2
leg_cell-requires-2 c =
    second_leg_lem c.args.spread _ (legs (goal.at.leg_cell-requires-2 c).Start) c.requires.1

pub leg_cell-requires-then-spread-eq3 : goal.leg_cell-requires-then-spread-eq3
leg_cell-requires-then-spread-eq3 c =
    third_leg_lem c.args.spread _ (legs (goal.at.leg_cell-requires-then-spread-eq3 c).Start) c.requires.1 c.if-spread-eq3.true
