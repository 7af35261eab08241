use mathlib.Core.Path.{subst}
use mathlib.Core.List.{List}
use Prim.Native.Nat.{ℕ}
use native.Mathlib.Omega.{arith}
use lib.IntN.{ℤ}
use lib.ListN.{length, get_or}
use lib.Seq.{take_all}
use Rattle.std.proofs.Common.{length-append}
use Rattle.spread.specs.Accepted.{prompt_places}
use Rattle.record.specs.Layout.{Record}
use Rattle.account.specs.Records.{records}
use Rattle.account.specs.Check.{most_rows}
use Rattle.formulas.specs.Bounds.{most_delta}
use Rattle.formulas.specs.Deltas.{row_delta}
use Rattle.formulas.specs.code.Position.{RowFit, AtMost, Added, adds_on, net_on}
use Rattle.formulas.proofs.RecordLaws.{count_is}
use Rattle.formulas.proofs.WalkLaws.{nets_next, nets_room}
use Rattle.formulas.proofs.ChunkLaws.{Turn, turn, all_passed}
use Rattle.formulas.proofs.rows.add_nets.Goals as goal
use Rattle.formulas.proofs.rows.add_nets.Goals.{In-Some}

-- the row of a turn is within its ranges, and there is room for it
row : (c : In-Some) → Turn c.args.rows.now (length c.loop-row.yielded) c.in-Some.row.now c.next.new.self
row c = turn _ _ _ c.loop-row.invariant.0 _ c.in-Some.row c.in-Some.ensures.steps

has_room : (c : In-Some) → AtMost prompt_places most_delta c.loop-row.nets
has_room c =
    let rows = records c.args.rows.now in
    let at = row c in
    nets_room rows c.args.prompts c.args.days.now c.args.nets.now c.requires.1.1.0 c.requires.1.1.1 (length c.loop-row.yielded) most_rows
    c.loop-row.nets c.loop-row.invariant.1 (omega (arith, count_is c.args.rows.now, at.there, c.requires.1.1.0.few))

pub row_delta-requires : goal.row_delta-requires
row_delta-requires c =
    let at = row (goal.at.row_delta-requires c).In-Some in
    subst (λ (r : Record). RowFit r) at.is
    (c.requires.1.1.0.each (length c.loop-row.yielded) (omega (arith, count_is c.args.rows.now, at.there)))

pub add_delta-requires : goal.add_delta-requires
add_delta-requires c =
    let at = row (goal.at.add_delta-requires c).In-Some in (
      c.requires.0,
      (
        (
          c.guesses-guess.ensures,
          rw (c.day_of.ensures, ← at.is) (c.requires.1.0 (length c.loop-row.yielded) (omega (arith, count_is c.args.rows.now, at.there))),
        ),
        (omega (arith, c.row_delta.ensures.size), has_room (goal.at.add_delta-requires c).In-Some),
      ),
    )

pub loop-row-preserved : goal.loop-row-preserved
loop-row-preserved c =
    let l = c.loop-row in
    let f = c.args.rows.now in
    let n = c.args.prompts in
    let days = c.args.days.now in
    let at = row (goal.at.loop-row-preserved c).In-Some in
    let it = c.in-Some.row.now in
    let after = c.add_delta.new.nets in
    simp length-append (
      at.passed,
      nets_next (records f) n days (length l.yielded) c.args.nets.now l.nets after it (omega (arith, count_is f, at.there)) at.is l.invariant.1
          (subst (λ (d : ℕ). Added n (adds_on days d (row_delta it)) l.nets after) c.day_of.ensures
          (subst (λ (z : ℤ). Added n (adds_on days c.day_of.result z) l.nets after) c.row_delta.ensures.is c.add_delta.ensures)),
    )

pub returns : goal.returns
returns c =
    let l = c.loop-row in
    let f = c.args.rows.now in
    let k = length l.yielded in
    subst (λ (rs : List Record). Added c.args.prompts (λ j. net_on rs (get_or c.args.days.now j 0)) c.args.nets.now l.nets)
    (take_all k (records f) (omega (arith, count_is f, all_passed f k l.row-iterator l.invariant.0 c.next.new.self c.in-None.ensures.steps))) l.invariant.1
