use Prim.Native.Nat.{ℕ}
use native.Mathlib.Omega.{arith}
use mathlib.Core.Bool.{true, false}
use mathlib.Core.List.{List, []}
use mathlib.Core.Path.{◌≡◌, sym, ◌∙◌, ap, subst⁻¹}
use lib.Dec.{ltb}
use lib.ListN.{length, get_or, replicate}
use borrow.Author.Rules.{rules}
use Rattle.spread.specs.Accepted.{table_spreads, sound_spread, spread_places}
use Rattle.spread.specs.code.Cells.{Small}
use Rattle.spread.specs.code.Lent.{spreads_from}
use Rattle.spread.specs.Steps.{step_of}
use Rattle.spread.specs.declared.Spread.{Spread}
use Rattle.spread.specs.declared.Table.{Table}
use Rattle.spread.proofs.Bounds.{small_taken, pools_small}
use Rattle.spread.proofs.Nothing.{Written, written_none}
use Rattle.spread.proofs.Gathering.{few_in_table, sound_in_table}
use Rattle.spread.proofs.Running.{table_length, table_next, none_yet, Running, running_none, running_all}
use Rattle.spread.proofs.Taking.{lowest_of, taken_of}
use Rattle.spread.proofs.book.run.Goals as goal
use Rattle.spread.proofs.book.run.Goals.{In-loop-i, Joined-has_room, Joined-has_room-2, Start, else-has_room, else-has_room-2, then-has_room, then-has_room-2}

abbrev spread_at : Table → ℕ → Spread
spread_at t i = get_or t.spread i (record { legs = 0; leg = []; tenths = false })

spreads : (s : Start) → length s.args.table.spread ≡ spread_places
spreads s = search rules

-- the spread of a turn is accepted
here : (c : In-loop-i) → sound_spread (spread_at c.args.table c.loop-i.i) ≡ true
here c = sound_in_table c.args.table (search rules) c.requires.0 c.loop-i.i _ c.loop-i-test.true

-- the steps of a turn, each taken or left out
first_step : (c : Joined-has_room) →
    let l = c.loop-i in
    Written (step_of false (spread_at c.args.table l.i)) l.cells c.if-has_room.cells l.i l.first c.if-has_room.first
first_step c =
    let l = c.loop-i in
    let pools = c.pools_for-pools.ensures in
    let ok = sound_in_table c.args.table (search rules) c.requires.0 l.i _ c.loop-i-test.true in
    elim c.if-has_room.branch [
      | then-has_room w ↦ record { number = _; taken = taken_of false _ ok _ _ pools _ _ _ w.take-took.ensures (w.cells-is ∙ w.put_back.ensures); written = w.first-is }
      | else-has_room w ↦ written_none _ _ _ _ _ _
          (ap (ltb 0) (sym (lowest_of false _ ok _ _ pools)) ∙ sym c.has_room.ensures ∙ w.if-has_room.false)
          w.cells-is w.first-is (none_yet _ l.i l.first l.invariant.2.firsts)
    ]

second-step : (c : Joined-has_room-2) →
    let l = c.loop-i in
    Written (step_of true (spread_at c.args.table l.i)) c.if-has_room.cells c.if-has_room-2.cells
    l.i l.second c.if-has_room-2.second
second-step c =
    let l = c.loop-i in
    let pools = c.pools_for-others.ensures in
    let ok = sound_in_table c.args.table (search rules) c.requires.0 l.i _ c.loop-i-test.true in
    elim c.if-has_room-2.branch [
      | then-has_room-2 w ↦ record { number = _; taken = taken_of true _ ok _ _ pools _ _ _ w.take-took-then-has_room-2.ensures (w.cells-is ∙ w.put_back-then-has_room-2.ensures); written = w.second-is }
      | else-has_room-2 w ↦ written_none _ _ _ _ _ _
          (ap (ltb 0) (sym (lowest_of true _ ok _ _ pools)) ∙ sym c.has_room-in-loop-i.ensures ∙ w.if-has_room-2.false)
          w.cells-is w.second-is (none_yet _ l.i l.second l.invariant.2.seconds)
    ]

-- what the first step leaves is small
between : (c : Joined-has_room) → Small c.if-has_room.cells
between c =
    let l = c.loop-i in
    small_taken _ l.cells _ _ (first_step c).taken l.invariant.1

pub loop-i-init : goal.loop-i-init
loop-i-init c =
    let cells = c.args.cells.now in
    let ss = table_spreads c.args.table in (
      few_in_table c.args.table c.requires.0,
      c.requires.1.0,
      subst⁻¹ (λ (ns : List ℕ). Running cells ss 0 cells (spreads_from ns) (spreads_from c.args.second.now)) c.requires.1.1.0
          (subst⁻¹ (λ (ns : List ℕ). Running cells ss 0 cells (spreads_from (replicate spread_places 0)) (spreads_from ns)) c.requires.1.1.1
          (running_none cells ss)),
    )

pub pools_for-pools-requires : goal.pools_for-pools-requires
pools_for-pools-requires c = ((search rules), here (goal.at.pools_for-pools-requires c).In-loop-i)

pub take-took-requires : goal.take-took-requires
take-took-requires c =
    (here (goal.at.take-took-requires c).In-loop-i, pools_small _ _ _ _ c.pools_for-pools.ensures c.loop-i.invariant.1)

pub put_back-requires : goal.put_back-requires
put_back-requires c =
    ((search rules), here (goal.at.put_back-requires c).In-loop-i)

pub pools_for-others-requires : goal.pools_for-others-requires
pools_for-others-requires c =
    ((search rules), here (goal.at.pools_for-others-requires c).In-loop-i)

pub take-took-requires-then-has_room-2 : goal.take-took-requires-then-has_room-2
take-took-requires-then-has_room-2 c =
    let at = goal.at.take-took-requires-then-has_room-2 c in
    (here at.In-loop-i, pools_small _ _ _ _ c.pools_for-others.ensures (between at.Joined-has_room))

pub put_back-requires-then-has_room-2 : goal.put_back-requires-then-has_room-2
put_back-requires-then-has_room-2 c =
    ((search rules), here (goal.at.put_back-requires-then-has_room-2 c).In-loop-i)

pub loop-i-preserved : goal.loop-i-preserved
loop-i-preserved c =
    let at = goal.at.loop-i-preserved c in
    let l = c.loop-i in (
      l.invariant.0,
      small_taken _ _ _ _ (second-step c).taken (between at.Joined-has_room),
      table_next c.args.table c.args.cells.now l.i l.cells _ _ l.first l.second _ _ _ (spreads at.Start) l.invariant.0
          c.loop-i-test.true (first_step at.Joined-has_room) (second-step c) l.invariant.2,
    )

pub returns : goal.returns
returns c =
    let l = c.loop-i in
    let t = c.args.table in
    let n = table_length t (spreads (goal.at.returns c).Start) l.invariant.0 in
    running_all c.args.cells.now (table_spreads t) l.i l.cells (spreads_from l.first) (spreads_from l.second) (omega arith) l.invariant.2
