-- `pools_for`: leg after leg; of two legs the first again.
-- Assumes nothing.
use mathlib.Core.Path.{◌≡◌}
use lib.ListN.{length}
use borrow.Author.Rules.{rules}
use Rattle.spread.proofs.Soundness.{second_leg_lem, third_leg_lem, has_three}
use Rattle.spread.proofs.pools.pools_for.Goals as goal
use Rattle.spread.proofs.pools.pools_for.Goals.{Start}

legs : (s : Start) → length s.args.spread.leg ≡ 3
legs s = search rules

pub pool_for-two-requires : goal.pool_for-two-requires
pool_for-two-requires c =
    (c.requires.0, second_leg_lem c.args.spread _ (legs (goal.at.pool_for-two-requires c).Start) c.requires.1)

pub pool_for-three-requires : goal.pool_for-three-requires
pool_for-three-requires c = (
  c.requires.0,
  third_leg_lem c.args.spread _ (legs (goal.at.pool_for-three-requires c).Start) c.requires.1 (has_three c.args.spread c.requires.1 c.if-spread-eq2.false),
)
