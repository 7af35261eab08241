use mathlib.Core.Path.{◌≡◌, refl, ◌∙◌}
use mathlib.Core.Bool.{true, false}
use mathlib.Core.List.{[]}
use native.Mathlib.Omega.{arith}
use borrow.Author.Rules.{rules}
use lib.ListN.{length}
use Rattle.spread.specs.Accepted.{sound_prompts, sound_table, prompt_places, spread_places}
use Rattle.spread.specs.declared.Spread.{Spread}
use Rattle.spread.proofs.Both.{and_right}
use Rattle.spread.proofs.Gathering.{few_in_table}
use Rattle.margin.proofs.UsesLaws.{put-none, room_here, first_room, first_sound, second_room, second_sound, put_next, put-length, put_all}
use Rattle.margin.proofs.uses.put_uses.Goals as goal
use Rattle.margin.proofs.uses.put_uses.Goals.{Start}

abbrev no_spread : Spread
no_spread = record { legs = 0; leg = []; tenths = false }

-- the table has its places, and is sound
spread-places : (s : Start) → length s.args.table.spread ≡ spread_places
spread-places s = search rules

sound-table : (s : Start) → sound_table s.args.table ≡ true
sound-table s = and_right (sound_prompts s.args.prompts) (sound_table s.args.table) s.requires.0

pub loop-i-init : goal.loop-i-init
loop-i-init c =
    let p = c.args.prompts in
    let lt : length p.tier ≡ prompt_places = search rules in
    let ln : length p.net ≡ prompt_places = search rules in
    (put-none p c.args.table c.args.out.now lt ln c.requires.0 c.requires.1, refl)

pub offset_bounds-table-i : goal.offset_bounds-table-i
offset_bounds-table-i c =
    let f = few_in_table c.args.table (sound-table (goal.at.offset_bounds-table-i c).Start) in
    omega arith

pub bounds-table-i : goal.bounds-table-i
bounds-table-i c =
    let f = few_in_table c.args.table (sound-table (goal.at.bounds-table-i c).Start) in
    omega arith

pub put_step-between-requires : goal.put_step-between-requires
put_step-between-requires c =
    let l = c.loop-i in (
      first_sound c.args.table (spread-places (goal.at.put_step-between-requires c).Start) (sound-table (goal.at.put_step-between-requires c).Start) c.args.prompts.count _ l.i l.at l.left l.left l.left l.out
          l.out l.out no_spread l.invariant.0 c.loop-i-test.true,
      omega (
        arith,
        l.invariant.0.count,
        first_room c.args.table (spread-places (goal.at.put_step-between-requires c).Start) (sound-table (goal.at.put_step-between-requires c).Start) c.args.prompts.count _ l.i l.at l.left
            l.left l.left l.out l.out l.out no_spread l.invariant.0 c.loop-i-test.true,
      ),
    )

pub overflow_add-at : goal.overflow_add-at
overflow_add-at c =
    let l = c.loop-i in
    omega (
      arith,
      l.invariant.1,
      c.well_formed.0,
      first_room c.args.table (spread-places (goal.at.overflow_add-at c).Start) (sound-table (goal.at.overflow_add-at c).Start) c.args.prompts.count _ l.i l.at l.left
          l.left l.left l.out l.out l.out no_spread l.invariant.0 c.loop-i-test.true,
    )

pub put_step-left-requires : goal.put_step-left-requires
put_step-left-requires c =
    let l = c.loop-i in (
      second_sound c.args.table (spread-places (goal.at.put_step-left-requires c).Start) (sound-table (goal.at.put_step-left-requires c).Start) c.args.prompts.count _ l.i l.at l.left
          c.put_step-between.result l.left l.out c.put_step-between.new.out l.out no_spread l.invariant.0
          c.loop-i-test.true c.put_step-between.ensures.0 c.put_step-between.ensures.1,
      second_room
          c.args.table (spread-places (goal.at.put_step-left-requires c).Start) (sound-table (goal.at.put_step-left-requires c).Start) c.args.prompts.count _ l.i l.at l.left c.put_step-between.result
          l.left l.out c.put_step-between.new.out l.out no_spread l.invariant.0 c.loop-i-test.true
          c.put_step-between.ensures.0 c.put_step-between.ensures.1,
    )

pub overflow_mul-at : goal.overflow_mul-at
overflow_mul-at c =
    let l = c.loop-i in
    let r = room_here c.args.table (spread-places (goal.at.overflow_mul-at c).Start) (sound-table (goal.at.overflow_mul-at c).Start) c.args.prompts.count _ l.i l.at l.left l.left l.left l.out
    l.out l.out no_spread l.invariant.0 c.loop-i-test.true in
    omega (arith, l.invariant.1, c.well_formed.0)

pub overflow_add-at-in-loop-i : goal.overflow_add-at-in-loop-i
overflow_add-at-in-loop-i c =
    let l = c.loop-i in
    let r = room_here c.args.table (spread-places (goal.at.overflow_add-at-in-loop-i c).Start) (sound-table (goal.at.overflow_add-at-in-loop-i c).Start) c.args.prompts.count _ l.i l.at l.left l.left l.left l.out
    l.out l.out no_spread l.invariant.0 c.loop-i-test.true in
    omega (arith, l.invariant.1, c.well_formed.0)

pub loop-i-preserved : goal.loop-i-preserved
loop-i-preserved c =
    let l = c.loop-i in (
      put_next c.args.table (spread-places (goal.at.loop-i-preserved c).Start) (sound-table (goal.at.loop-i-preserved c).Start) c.args.prompts.count _ l.i l.at l.left
          c.put_step-between.result c.put_step-left.result l.out
          c.put_step-between.new.out c.put_step-left.new.out no_spread l.invariant.0
          c.loop-i-test.true c.put_step-between.ensures.0
          c.put_step-between.ensures.1 c.put_step-left.ensures.0 c.put_step-left.ensures.1,
      put-length
          c.args.table (spread-places (goal.at.loop-i-preserved c).Start) (sound-table (goal.at.loop-i-preserved c).Start) c.args.prompts.count _ l.i l.at l.left
          c.put_step-between.result c.put_step-left.result l.out
          c.put_step-between.new.out c.put_step-left.new.out no_spread l.invariant.0
          c.loop-i-test.true c.put_step-between.ensures.0
          c.put_step-between.ensures.1 c.put_step-left.ensures.0 c.put_step-left.ensures.1 ∙ l.invariant.1,
    )

pub shape_of-out : goal.shape_of-out
shape_of-out c = c.loop-i.invariant.1

pub returns : goal.returns
returns c =
    let l = c.loop-i in
    put_all c.args.table (spread-places (goal.at.returns c).Start) (sound-table (goal.at.returns c).Start) c.args.prompts.count _ l.i l.at l.left l.out l.invariant.0 (omega arith)
