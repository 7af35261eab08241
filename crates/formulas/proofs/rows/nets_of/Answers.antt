-- The net deltas of a lent array of zeros, as they are put there.
-- Assumes nothing.
use mathlib.Core.List.{List}
use mathlib.Core.Path.{sym, subst}
use Rattle.account.specs.Records.{records}
use Rattle.spread.specs.declared.Delta.{Delta}
use Rattle.formulas.specs.code.Position.{PositionOf, with_nets}
use Rattle.formulas.proofs.rows.nets_of.Goals as goal

pub returns : goal.returns
returns c =
    let rows = records c.args.rows.now in
    λ rates unit.
    subst (λ (ds : List Delta). PositionOf rates unit (records c.args.prompts.now) rows (with_nets rates unit rows ds)) (sym c.deltas_from.ensures)
    (c.put_net_deltas.ensures rates unit)
