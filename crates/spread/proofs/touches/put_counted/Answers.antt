-- `put_counted`: the numbers of the pools, the run and the spend, and the takes of the steps.
-- Assumes nothing.
use mathlib.Core.Bool.{true}
use mathlib.Core.Path.{◌≡◌, refl, sym, ◌∙◌, ap}
use lib.ListN.{length, length-map}
use borrow.Author.Rules.{rules}
use Rattle.spread.specs.Accepted.{open_of, steps_of, sound_prompts, sound_table}
use Rattle.spread.specs.code.Cells.{pool_count}
use Rattle.spread.specs.code.Lent.{prompts_in}
use Rattle.spread.specs.declared.Prompts.{Prompts}
use Rattle.spread.proofs.Booking.{booked_accepted}
use Rattle.spread.proofs.Both.{and_left, and_right}
use Rattle.spread.proofs.Bounds.{pooled_small}
use Rattle.spread.proofs.Pooling.{pooled_left, pooled_numbers}
use Rattle.spread.proofs.touches.put_counted.Goals as goal
use Rattle.spread.proofs.touches.put_counted.Goals.{After-run_counted-touches, Start}

-- the prompts that are lent, and that they are accepted
abbrev lent : Start → Prompts
lent s = prompts_in s.args.count s.args.tiers.now s.args.nets.now

sound-lent : (s : Start) → sound_prompts (lent s) ≡ true
sound-lent s = and_left (sound_prompts (lent s)) (sound_table s.args.table) s.requires.0

-- the cells that the run leaves are as many
as_many : (c : After-run_counted-touches) → length c.run_counted-touches.new.cells ≡ pool_count
as_many c =
    ap length c.run_counted-touches.ensures.run.leaves
    ∙ (pooled_left (steps_of c.args.table) _ _ c.pools_of-pools.ensures).size

pub lay-requires : goal.lay-requires
lay-requires c =
    (sound-lent (goal.at.lay-requires c).Start, (((search rules), (search rules)), (search rules, (refl, search rules))))

pub pools_of-pools-requires : goal.pools_of-pools-requires
pools_of-pools-requires c =
    (sound-lent (goal.at.pools_of-pools-requires c).Start, ((search rules), (search rules)))

pub run_counted-touches-requires : goal.run_counted-touches-requires
run_counted-touches-requires c =
    let at = (goal.at.run_counted-touches-requires c).Start in (
      and_right (sound_prompts (lent at)) (sound_table c.args.table) c.requires.0,
      (
        pooled_small (lent at) _ (search rules) (length-map c.args.nets.now _ ∙ search rules) (sound-lent at) c.pools_of-pools.ensures,
        (c.requires.1.0, record { places = search rules; pools = search rules; sizes = search rules; begun = c.lay.ensures.1 }),
      ),
    )

pub slice_bounds-pay-end-3 : goal.slice_bounds-pay-end-3
slice_bounds-pay-end-3 c = sym (as_many (goal.at.slice_bounds-pay-end-3 c).After-run_counted-touches)

pub pay-requires : goal.pay-requires
pay-requires c =
    let at = goal.at.pay-requires c in (
      sound-lent at.Start,
      (
        ((search rules), (search rules)),
        (as_many at.After-run_counted-touches, c.requires.1.1),
      ),
    )

pub returns : goal.returns
returns c =
    let at = (goal.at.returns c).Start in
    let pooled = c.pools_of-pools.ensures in record { book = booked_accepted (lent at) c.args.table _ _ _ _ _ _ c.requires.0 pooled c.run_counted-touches.ensures.run c.pay.ensures; touched = c.run_counted-touches.ensures.counted (open_of (lent at)) c.lay.ensures.0 (pooled_numbers (steps_of c.args.table) _ (open_of (lent at)) pooled) }
