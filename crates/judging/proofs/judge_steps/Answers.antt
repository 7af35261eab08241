use mathlib.Core.Path.{◌≡◌, sym, ap, ◌∙◌, subst}
use Prim.Native.Nat.{ℕ, ◌+◌, ◌-◌, ◌*◌, ◌/◌, ◌%◌}
use native.Mathlib.Omega.{arith}
use borrow.Author.Rules.{rules}
use lib.Dec.{eqb}
use lib.ListN.{length, get_or, take, drop}
use mir.Syntax.{w64}
use mir.Val.{SFits}
use Rattle.exact.proofs.Integers.{back}
use Rattle.judging.specs.code.Compared.{ComparedTo}
use mathlib.Core.Bool.{true, false}
use mathlib.Core.List.{[]}
use lib.IntN.{ℤ, pos}
use Rattle.spread.specs.Accepted.{sound_prompts, sound_table, spread_places}
use Rattle.spread.specs.declared.Spread.{Spread}
use Rattle.spread.proofs.Both.{and_right}
use Rattle.spread.proofs.Gathering.{few_in_table}
use Rattle.judging.proofs.Walking.{begins, part_long, room_here, sound_here, stops, goes, ends}
use Rattle.judging.proofs.judge_steps.Goals as goal
use Rattle.judging.proofs.judge_steps.Goals.{After-compare-compared, Start}

abbrev no_spread : Spread
no_spread = record { legs = 0; leg = []; tenths = false }

-- the table has its places, and is sound
spread-places : (s : Start) → length s.args.table.spread ≡ spread_places
spread-places s = search rules

sound-table : (s : Start) → sound_table s.args.table ≡ true
sound-table s = and_right (sound_prompts s.args.prompts) (sound_table s.args.table) s.requires.0

-- what is said of the step, of the number itself
said : (c : After-compare-compared) →
    let l = c.loop-step in
    let s = c.args in
    ComparedTo l.left (get_or s.table.spread (l.step / 2) no_spread) (eqb (l.step % 2) 1) l.step (get_or s.numbers.now l.step (pos 0))
    (take (l.at + s.prompts.count - l.at) (drop l.at s.uses.now)) c.compare-compared.result
said c =
    let l = c.loop-step in
    let s = c.args in
    let z = get_or s.numbers.now l.step (pos 0) in
    let fits : SFits w64 z = record { sfits = c.compare-arg-1.given } in
    subst
    (λ (x : ℤ). ComparedTo l.left (get_or s.table.spread (l.step / 2) no_spread) (eqb (l.step % 2) 1) l.step x
    (take (l.at + s.prompts.count - l.at) (drop l.at s.uses.now)) c.compare-compared.result)
    (back z fits) c.compare-compared.ensures

pub loop-step-init : goal.loop-step-init
loop-step-init c =
    begins c.args.prompts c.args.table c.args.numbers.now c.args.uses.now c.requires.0
    (c.requires.1.1 ∙ ap (λ (k : ℕ). k * c.args.prompts.count) (sym c.requires.1.0))

pub bounds-table-step : goal.bounds-table-step
bounds-table-step c =
    let f = few_in_table c.args.table (sound-table (goal.at.bounds-table-step c).Start) in
    omega arith

pub overflow_add-at : goal.overflow_add-at
overflow_add-at c =
    let at = (goal.at.overflow_add-at c).Start in
    let l = c.loop-step in
    let r = room_here c.args.table (spread-places at) (sound-table at) c.args.prompts.count c.args.numbers.now c.args.uses.now
    c.requires.1.0 _ l.step l.at l.left l.invariant c.loop-step-test.true in
    omega (arith, r)

pub compare-compared-requires : goal.compare-compared-requires
compare-compared-requires c =
    let at = (goal.at.compare-compared-requires c).Start in
    let l = c.loop-step in
    let h = c.loop-step-test.true in (
      sound_here c.args.table (spread-places at) (sound-table at) c.args.prompts.count c.args.numbers.now c.args.uses.now c.requires.1.0 _
          l.step l.at l.left l.invariant h no_spread,
      part_long c.args.table (spread-places at) (sound-table at) c.args.prompts.count c.args.numbers.now c.args.uses.now c.requires.1.0 _
          l.step l.at l.left l.invariant h no_spread,
    )

pub returns-then-not-is_right : goal.returns-then-not-is_right
returns-then-not-is_right c =
    let at = goal.at.returns-then-not-is_right c in
    let s = at.Start in
    let l = c.loop-step in
    stops c.args.table (spread-places s) (sound-table s) c.args.prompts.count c.args.numbers.now c.args.uses.now c.requires.1.0 _
    l.step l.at l.left l.invariant c.loop-step-test.true no_spread
    c.compare-compared.result (said at.After-compare-compared)
    (sym c.is_right.ensures ∙ c.if-not-is_right.true)

pub overflow_add-at-in-loop-step : goal.overflow_add-at-in-loop-step
overflow_add-at-in-loop-step c =
    let s = (goal.at.overflow_add-at-in-loop-step c).Start in
    let l = c.loop-step in
    let r = room_here c.args.table (spread-places s) (sound-table s) c.args.prompts.count c.args.numbers.now c.args.uses.now
    c.requires.1.0 _ l.step l.at l.left l.invariant c.loop-step-test.true in
    omega (arith, r)

pub loop-step-preserved : goal.loop-step-preserved
loop-step-preserved c =
    let at = goal.at.loop-step-preserved c in
    let s = at.Start in
    let l = c.loop-step in
    goes c.args.table (spread-places s) (sound-table s) c.args.prompts.count c.args.numbers.now c.args.uses.now c.requires.1.0 _
    l.step l.at l.left l.invariant c.loop-step-test.true no_spread
    c.compare-compared.result (said at.After-compare-compared)
    (sym c.is_right.ensures ∙ c.if-not-is_right.false)

pub returns : goal.returns
returns c =
    let at = (goal.at.returns c).Start in
    let l = c.loop-step in
    ends c.args.table (spread-places at) (sound-table at) c.args.prompts.count c.args.numbers.now c.args.uses.now c.requires.1.0 _
    l.step l.at l.left l.invariant (omega arith)
