-- `put_book`: the numbers of the pools, the run and the spend.
-- Assumes nothing.
use mathlib.Core.Path.{◌≡◌, sym, ◌∙◌, ap}
use mathlib.Core.Bool.{true}
use lib.ListN.{length, length-map}
use borrow.Author.Rules.{rules}
use Rattle.spread.specs.Accepted.{steps_of, sound_prompts, sound_table}
use Rattle.spread.specs.code.Cells.{pool_count}
use Rattle.spread.specs.code.Lent.{prompts_in}
use Rattle.spread.specs.declared.Prompts.{Prompts}
use Rattle.spread.proofs.Booking.{booked_accepted}
use Rattle.spread.proofs.Both.{and_left, and_right}
use Rattle.spread.proofs.Bounds.{pooled_small}
use Rattle.spread.proofs.Pooling.{pooled_left}
use Rattle.spread.proofs.book.put_book.Goals as goal
use Rattle.spread.proofs.book.put_book.Goals.{After-run, Start}

-- the prompts that are lent, and that they are accepted
abbrev lent : Start → Prompts
lent s = prompts_in s.args.count s.args.tiers.now s.args.nets.now

sound-lent : (s : Start) → sound_prompts (lent s) ≡ true
sound-lent s = and_left (sound_prompts (lent s)) (sound_table s.args.table) s.requires.0

-- the cells that the run leaves are as many
as_many : (c : After-run) → length c.run.new.cells ≡ pool_count
as_many c =
    ap length c.run.ensures.leaves ∙ (pooled_left (steps_of c.args.table) _ _ c.pools_of-pools.ensures).size

pub pools_of-pools-requires : goal.pools_of-pools-requires
pools_of-pools-requires c = (sound-lent (goal.at.pools_of-pools-requires c).Start, ((search rules), (search rules)))

pub run-requires : goal.run-requires
run-requires c =
    let at = (goal.at.run-requires c).Start in (
      and_right (sound_prompts (lent at)) (sound_table c.args.table) c.requires.0,
      (pooled_small (lent at) _ (search rules) (length-map c.args.nets.now _ ∙ search rules) (sound-lent at) c.pools_of-pools.ensures, c.requires.1.0),
    )

pub slice_bounds-pay-end-3 : goal.slice_bounds-pay-end-3
slice_bounds-pay-end-3 c = sym (as_many (goal.at.slice_bounds-pay-end-3 c).After-run)

pub pay-requires : goal.pay-requires
pay-requires c =
    let at = goal.at.pay-requires c in (
      sound-lent at.Start,
      (
        ((search rules), (search rules)),
        (as_many at.After-run, c.requires.1.1),
      ),
    )

pub returns : goal.returns
returns c =
    booked_accepted (lent (goal.at.returns c).Start) c.args.table _ _ _ _ _ _ c.requires.0 c.pools_of-pools.ensures c.run.ensures c.pay.ensures
