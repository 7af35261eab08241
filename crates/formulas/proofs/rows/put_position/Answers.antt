-- `put_position`: no rows, and then these.
-- Assumes nothing.
use mathlib.Core.List.{[]}
use Prim.Native.Nat.{◌-◌, ◌≤◌}
use native.Mathlib.Nat.{not-suc-le-zero}
use native.Mathlib.Omega.{arith}
use lib.ListN.{length}
use Rattle.spread.specs.Accepted.{prompt_places}
use Rattle.account.specs.Records.{records}
use Rattle.account.specs.Check.{most_rows}
use Rattle.formulas.specs.code.Position.{position_in}
use Rattle.formulas.proofs.PositionLaws.{nothing_lent, joined}
use Rattle.formulas.proofs.PlacedLaws.{rows_placed}
use Rattle.formulas.proofs.PositionBounds.{no_rows, bounded, wider}
use Rattle.formulas.proofs.rows.put_position.Goals as goal

pub add_rows-requires : goal.add_rows-requires
add_rows-requires c =
    let prompts = records c.args.prompts.now in
    let ts = c.args.totals.now in
    let ns = c.args.nets.now in
    let known = c.days_of-days.ensures in
    let few : length prompts ≤ prompt_places = omega (arith, known.few, known.count_is) in (
      c.requires.0,
      (
        (known.few, rows_placed prompts (records c.args.rows.now) c.days_of-days.result known c.requires.1.0.1),
        (
          c.requires.1.1.0,
          (
            c.requires.1.1.1.0,
            wider 0 (most_rows - length (records c.args.rows.now)) (position_in ts ns 0) (omega arith)
                (bounded [] c.args.unit c.requires.0 prompts [] (position_in ts ns 0) no_rows (λ k h. absurd (not-suc-le-zero h))
                (nothing_lent [] c.args.unit prompts ts ns few c.requires.1.1.1.1.0 c.requires.1.1.1.1.1)),
          ),
        ),
      ),
    )

pub returns : goal.returns
returns c =
    let prompts = records c.args.prompts.now in
    let ts = c.args.totals.now in
    let ns = c.args.nets.now in
    let known = c.days_of-days.ensures in
    let few : length prompts ≤ prompt_places = omega (arith, known.few, known.count_is) in record {
      is = λ held is. joined held c.args.unit prompts [] (records c.args.rows.now) c.days_of-days.result (position_in ts ns 0)
          (position_in c.add_rows.new.totals c.add_rows.new.nets c.add_rows.result) known
          (nothing_lent held c.args.unit prompts ts ns few c.requires.1.1.1.1.0 c.requires.1.1.1.1.1)
          (c.add_rows.ensures.added held is);
      most = c.add_rows.ensures.most;
    }
