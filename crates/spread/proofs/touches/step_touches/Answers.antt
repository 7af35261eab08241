-- `step_touches`: leg after leg.
-- Assumes nothing.
use mathlib.Core.Path.{◌≡◌}
use lib.ListN.{length}
use borrow.Author.Rules.{rules}
use Rattle.spread.proofs.Legs.{three}
use Rattle.spread.proofs.Passing.{step_taken, step_idle}
use Rattle.spread.proofs.touches.step_touches.Goals as goal

pub returns-then-number-eq0 : goal.returns-then-number-eq0
returns-then-number-eq0 c =
    step_idle _ _ _ _ _ c.if-number-eq0.true c.requires.0

pub returns : goal.returns
returns c =
    let l : length c.args.spread.leg ≡ 3 = search rules in
    step_taken c.args.second c.args.spread _ _ _ (three _ c.args.spread.leg l) c.args.number c.args.pool.now
    c.args.size.now _ _ _ _ _ _ _ _ _ _ _ _
    c.wanted_by-one_wants.ensures c.wanted_by-two_wants.ensures c.wanted_by-three_wants.ensures
    c.leg_touches-a.ensures c.leg_touches-b.ensures c.leg_touches-c.ensures
