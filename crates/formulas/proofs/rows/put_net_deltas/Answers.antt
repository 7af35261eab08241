-- No rows, and then the net deltas of these.
-- Assumes nothing.
use mathlib.Core.Path.{refl, subst, subst⁻¹}
use mathlib.Core.List.{List, []}
use Prim.Native.Nat.{ℕ, ◌-◌, ◌*◌, ◌≤◌}
use native.Mathlib.Nat.{not-suc-le-zero}
use native.Mathlib.Omega.{arith}
use lib.Dec.{lit≤}
use lib.IntN.{ℤ, pos}
use lib.ListN.{length, get_or, replicate}
use Rattle.spread.specs.Accepted.{prompt_places}
use Rattle.spread.specs.code.Lent.{deltas_from}
use Rattle.record.specs.Layout.{Record, scenario_count}
use Rattle.account.specs.Records.{records}
use Rattle.account.specs.Check.{most_rows}
use Rattle.formulas.specs.declared.rows.Position.{Position}
use Rattle.formulas.specs.code.Position.{Added, AtMost, PositionOf, net_on, position_in, deltas_in}
use Rattle.spread.proofs.Lent.{deltas_again}
use Rattle.formulas.proofs.PositionLaws.{nothing_lent, nets_alone}
use Rattle.formulas.proofs.PlacedLaws.{rows_placed}
use Rattle.formulas.proofs.PositionBounds.{no_rows, bounded, wider}
use Rattle.formulas.specs.Bounds.{most_row_delta}
use Rattle.formulas.proofs.rows.put_net_deltas.Goals as goal
use Rattle.formulas.proofs.rows.put_net_deltas.Goals.{Start}

-- what no rows come to, in arrays of zeros
abbrev none : List ℤ → Position
none nets = position_in (replicate scenario_count (pos 0)) nets 0

is_none : (s : Start) (rates : List Record) (unit : ℕ) → length (records s.args.prompts.now) ≤ prompt_places
    → PositionOf rates unit (records s.args.prompts.now) [] (none s.args.nets.now)
is_none s rates unit few =
    nothing_lent rates unit (records s.args.prompts.now) (replicate scenario_count (pos 0)) s.args.nets.now few refl s.requires.1.1

pub add_nets-requires : goal.add_nets-requires
add_nets-requires c =
    let prompts = records c.args.prompts.now in
    let nets = c.args.nets.now in
    let room = most_rows - length (records c.args.rows.now) in
    let known = c.days_of-days.ensures in
    let few : length prompts ≤ prompt_places = omega (arith, known.few, known.count_is) in (
      known.few,
      (
        rows_placed prompts (records c.args.rows.now) c.days_of-days.result known c.requires.0.1,
        (
          c.requires.1.0,
          subst (AtMost prompt_places (room * most_row_delta)) (deltas_again nets)
              (wider 0 room (none nets) (omega arith)
              (bounded [] 1 (lit≤ tt) prompts [] (none nets) no_rows (λ k h. absurd (not-suc-le-zero h)) (is_none (goal.at.add_nets-requires c).Start [] 1 few))).nets_most,
        ),
      ),
    )

pub returns : goal.returns
returns c =
    let prompts = records c.args.prompts.now in
    let rows = records c.args.rows.now in
    let nets = c.args.nets.now in
    let left = c.add_nets.new.nets in
    let days = c.days_of-days.result in
    let known = c.days_of-days.ensures in
    let few : length prompts ≤ prompt_places = omega (arith, known.few, known.count_is) in
    let more : ℕ → ℤ = λ j. net_on rows (get_or days.day j 0) in
    λ rates unit.
    nets_alone rates unit prompts rows days (none nets) (deltas_from left) known (is_none (goal.at.returns c).Start rates unit few)
    (subst⁻¹ (λ (zs : List ℤ). Added days.count more zs (deltas_in (deltas_from left))) (deltas_again nets)
    (subst⁻¹ (Added days.count more nets) (deltas_again left) c.add_nets.ensures))
