use mathlib.Core.Path.{◌≡◌, sym, ap, subst}
use mathlib.Core.List.{List, [], ◌∷◌}
use Prim.Native.Nat.{ℕ, zero, suc, ◌+◌, ◌-◌, ◌*◌, ◌<◌, ◌≤◌}
use native.Mathlib.Omega.{arith}
use lib.IntN.{ℤ}
use lib.ListN.{length, get_or}
use Rattle.std.proofs.Common.{rules, length-append}
use Rattle.record.specs.Layout.{Record, scenario_count, hundred_thousand}
use Rattle.account.specs.code.Rates.{RatesOf}
use Rattle.account.specs.Records.{records}
use Rattle.account.specs.declared.rates.Rates.{Rates}
use Rattle.account.specs.Check.{most_rows}
use Rattle.formulas.specs.Scanning.{total}
use Rattle.formulas.specs.code.Position.{RowFit, RowRated, RatedBy, Added}
use Rattle.formulas.specs.code.Raised.{SumsRoom, settled}
use Rattle.formulas.proofs.RaisedLaws.{none-settled, none-room, wider_room}
use Rattle.formulas.proofs.RecordLaws.{count_is}
use Rattle.formulas.proofs.PositionBounds.{shorts_most}
use Rattle.formulas.proofs.WalkLaws.{SoFar, start, next, shorts_room, finish}
use Rattle.formulas.proofs.ChunkLaws.{Turn, none_passed, turn, all_passed}
use Rattle.formulas.proofs.rows.add_totals.Goals as goal
use Rattle.formulas.proofs.rows.add_totals.Goals.{In-Some, In-None}

-- the one row of a list
one-rated : (t : Rates) (rates : List Record) (row : Record) → RatesOf rates t → RowRated rates row → RatedBy t (row ∷ [])
one-rated t rates row held is = record { rates = rates; held = held; each = λ k h. only k h }
  where
    only : (k : ℕ) → k < 1 → RowRated rates (get_or (row ∷ []) k [])
    only zero h = is
    only (suc k) h = absurd (omega arith)

-- the row of a turn is within its ranges, and there is room for it
module _ (c : In-Some) where
  abbrev k : ℕ
  k = length c.loop-row.yielded

  abbrev file : List ℕ
  file = c.args.rows.now

  at : Turn file k c.in-Some.row.now c.next.new.self
  at = turn _ _ _ c.loop-row.invariant.0 _ c.in-Some.row c.in-Some.ensures.steps

  below : k < length (records file)
  below = omega (arith, count_is file, at.there)

  row_within : RowFit c.in-Some.row.now
  row_within = subst (λ (r : Record). RowFit r) at.is (c.requires.1.0.each k below)

  row_rated : RatedBy c.args.rates (c.in-Some.row.now ∷ [])
  row_rated =
      let by = c.requires.1.1.0 in
      one-rated c.args.rates by.rates c.in-Some.row.now by.held (subst (λ (r : Record). RowRated by.rates r) at.is (by.each k below))

  abbrev so_far : List ℤ
  so_far = settled c.loop-row.totals c.loop-row.sums c.loop-row.sizes

  sums-fit : SumsRoom (most_rows - 1) c.loop-row.totals c.loop-row.sums c.loop-row.sizes
  sums-fit =
      wider_room (most_rows - length (records file) + k) (most_rows - 1) _ _ _ (omega (arith, below, c.requires.1.0.few)) c.loop-row.invariant.2

  shorts-fit : c.loop-row.shorts ≤ most_rows * hundred_thousand
  shorts-fit =
      let by = c.requires.1.1.0 in
      shorts_room by.rates c.args.unit (records file) c.args.totals.now c.requires.1.0 k so_far c.loop-row.shorts
      (c.loop-row.invariant.1 by.rates by.held)

pub loop-row-init : goal.loop-row-init
loop-row-init c =
    let ts = c.args.totals.now in
    let rows = records c.args.rows.now in
    let most = c.requires.1.1.1 in (
      none_passed _ _ (search rules) (search rules),
      λ held is.
          subst (λ (us : List ℤ). SoFar held c.args.unit rows ts 0 us 0) (none-settled ts most.as_many) (start held c.args.unit rows ts),
      wider_room (most_rows - length rows) (most_rows - length rows + 0) ts _ 0 (omega arith) (none-room (most_rows - length rows) ts most),
    )

pub add_row-sizes-requires : goal.add_row-sizes-requires
add_row-sizes-requires c =
    let here = (goal.at.add_row-sizes-requires c).In-Some in
    (c.requires.0, (row_within here, (row_rated here, sums-fit here)))

pub overflow_add-shorts : goal.overflow_add-shorts
overflow_add-shorts c =
    let here = (goal.at.overflow_add-shorts c).In-Some in
    omega (arith, c.short_options-shorts.ensures, shorts_most _ (row_within here), shorts-fit here)

pub loop-row-preserved : goal.loop-row-preserved
loop-row-preserved c =
    let here = (goal.at.loop-row-preserved c).In-Some in
    let l = c.loop-row in
    let by = c.add_row-sizes in
    let n = most_rows - length (records (file here)) in
    simp length-append (
      (at here).passed,
      λ held is.
          next held c.args.unit (records (file here)) c.args.totals.now (k here) (so_far here)
          (settled by.new.totals by.new.sums by.result) l.shorts _ c.in-Some.row.now
          (l.invariant.1 held is) (below here) (at here).is (by.ensures.added held is)
          (ap (λ (m : ℕ). l.shorts + m) c.short_options-shorts.ensures),
      wider_room (n + k here + 1) (n + (k here + 1)) _ _ _ (omega arith) (by.ensures.room (n + k here) l.invariant.2),
    )

-- every row is passed
all : (c : In-None) → length c.loop-row.yielded ≡ length (records c.args.rows.now)
all c =
    omega (
      arith,
      count_is c.args.rows.now,
      all_passed c.args.rows.now (length c.loop-row.yielded) c.loop-row.row-iterator c.loop-row.invariant.0 c.next.new.self c.in-None.ensures.steps,
    )

pub settle-requires : goal.settle-requires
settle-requires c =
    let l = c.loop-row in
    let by = c.requires.1.1.0 in
    wider_room (most_rows - length (records c.args.rows.now) + length l.yielded) most_rows _ _ _ (omega (arith, all (goal.at.settle-requires c).In-None, c.requires.1.0.few)) l.invariant.2

pub returns : goal.returns
returns c =
    let l = c.loop-row in
    let rows = records c.args.rows.now in
    let ts = c.args.totals.now in
    let us = settled l.totals l.sums l.sizes in
    let by = c.requires.1.1.0 in
    let k = length l.yielded in
    let end : length rows ≤ k = omega (arith, all (goal.at.returns c).In-None) in record {
      added = λ held is.
          subst (λ (zs : List ℤ). Added scenario_count (λ k. total held c.args.unit rows (k + 1)) ts zs) (sym c.settle.ensures)
          (finish held c.args.unit rows ts k us l.shorts end (l.invariant.1 held is)).0;
      shorts = (finish by.rates c.args.unit rows ts k us l.shorts end (l.invariant.1 by.rates by.held)).1;
    }
