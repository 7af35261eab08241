use Rattle.std.proofs.Common.{◌∙◌, ap, subst, arith, length, length-append, ◌≡◌, ◌≤◌, ℤ, nat_abs, ◌+ℤ◌, SFits, w64}
use Rattle.std.proofs.lemmas.List.{take_all}
use Rattle.record.specs.Layout.{Record}
use Rattle.account.specs.Records.{records}
use Rattle.formulas.specs.code.Position.{RowFit, rows_net, Sized}
use Rattle.formulas.proofs.ChunkLaws.{Turn, turn, all_passed}
use Rattle.formulas.proofs.RecordLaws.{count_is}
use Rattle.formulas.proofs.WalkLaws.{rows_net_next, rows_net-room}
use Rattle.exact.proofs.Integers.{back, sfits_abs, abs_add}
use Rattle.formulas.specs.Bounds.{most_delta, most_row_delta}
use Rattle.formulas.proofs.Calls.{handed}
use Rattle.formulas.proofs.rows.rows_net.Goals as goal
use Rattle.formulas.proofs.rows.rows_net.Goals.{In-Some}

-- the row of a turn
row : (c : In-Some) → Turn c.args.rows.now (length c.loop-row.yielded) c.in-Some.row.now c.next.new.self
row c = turn _ _ _ c.loop-row.invariant.0 _ c.in-Some.row c.in-Some.ensures.steps

pub row_delta-net-requires : goal.row_delta-net-requires
row_delta-net-requires c =
    let at = row (goal.at.row_delta-net-requires c).In-Some in
    subst (λ (r : Record). RowFit r) at.is (c.requires.each (length c.loop-row.yielded) (omega (arith, at.there, count_is c.args.rows.now)))

-- a net delta with one row more
module _ (z d x : ℤ) (hz : nat_abs z ≤ most_delta) (is : Sized most_row_delta x d) where
  read : handed d ≡ d
  read = back d (sfits_abs d (omega (arith, is.size)))

  fits : SFits w64 (z +ℤ handed d)
  fits = rw read (sfits_abs (z +ℤ d) (omega (arith, abs_add z d, is.size)))

  with-row : handed (z +ℤ handed d) ≡ z +ℤ x
  with-row = back (z +ℤ handed d) fits ∙ ap (λ (y : ℤ). z +ℤ y) (read ∙ is.is)

pub overflow_add-net : goal.overflow_add-net
overflow_add-net c =
    let l = c.loop-row in
    fits _ c.row_delta-net.result.0 _ (rows_net-room (records c.args.rows.now) c.requires (length l.yielded) _ l.invariant.1) c.row_delta-net.ensures

pub loop-row-preserved : goal.loop-row-preserved
loop-row-preserved c =
    let l = c.loop-row in
    let rows = records c.args.rows.now in
    let at = row (goal.at.loop-row-preserved c).In-Some in
    simp length-append (
      at.passed,
      rows_net_next rows (length l.yielded) _ _ c.in-Some.row.now (omega (arith, at.there, count_is c.args.rows.now)) at.is l.invariant.1
          (with-row _ c.row_delta-net.result.0 _ (rows_net-room rows c.requires (length l.yielded) _ l.invariant.1) c.row_delta-net.ensures),
    )

pub returns : goal.returns
returns c =
    let l = c.loop-row in
    let rows = records c.args.rows.now in
    let k = length l.yielded in
    let all = all_passed c.args.rows.now k l.row-iterator l.invariant.0 c.next.new.self c.in-None.ensures.steps in
    record {
      is = l.invariant.1 ∙ ap rows_net (take_all k rows (omega (arith, count_is c.args.rows.now, all)));
      size = rows_net-room rows c.requires k _ l.invariant.1;
    }
