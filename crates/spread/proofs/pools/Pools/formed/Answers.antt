-- `formed`: the smallest of the rooms.
-- Assumes nothing.
use mathlib.Core.Path.{◌≡◌}
use lib.ListN.{length}
use borrow.Author.Rules.{rules}
use borrow.Author.Tests.{ltb-true}
use Rattle.spread.specs.code.Pools.{leg_at}
use Rattle.spread.proofs.Soundness.{ratio_of, second_leg_lem, third_leg_lem, has_three}
use Rattle.spread.proofs.pools.Pools.formed.Goals as goal
use Rattle.spread.proofs.pools.Pools.formed.Goals.{Start}

legs : (s : Start) → length s.args.spread.leg ≡ 3
legs s = search rules

pub room-two-requires : goal.room-two-requires
room-two-requires c =
    (c.requires.1.1, ltb-true 0 _ (ratio_of (leg_at c.args.spread 1) (second_leg_lem c.args.spread _ (legs (goal.at.room-two-requires c).Start) c.requires.0)))

pub room-requires : goal.room-requires
room-requires c = (
  c.requires.1.2,
  ltb-true 0 _
      (ratio_of (leg_at c.args.spread 2)
      (third_leg_lem c.args.spread _ (legs (goal.at.room-requires c).Start) c.requires.0 (has_three c.args.spread c.requires.0 c.if-spread-eq2.false))),
)
