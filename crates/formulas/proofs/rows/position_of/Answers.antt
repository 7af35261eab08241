-- `position_of`: what is put in arrays of zeros.
-- Assumes nothing.
use mathlib.Core.Path.{sym, subst}
use mathlib.Core.List.{List}
use Rattle.spread.specs.declared.Delta.{Delta}
use Rattle.account.specs.Records.{records}
use Rattle.account.specs.Check.{most_rows}
use Rattle.formulas.specs.declared.rows.Position.{Position}
use Rattle.formulas.specs.code.Position.{PositionOf, Bounded}
use Rattle.formulas.proofs.rows.position_of.Goals as goal

pub returns : goal.returns
returns c =
    let by = c.put_position-shorts in
    let with-nets : List Delta → Position = λ nets. record { totals = record { 0 = by.new.totals }; nets = nets; shorts = by.result } in
    let same = sym c.deltas_from.ensures in record {
      is = λ held is. subst (λ (nets : List Delta). PositionOf held c.args.unit (records c.args.prompts.now) (records c.args.rows.now)
          (with-nets nets)) same (by.ensures.is held is);
      most = subst (λ (nets : List Delta). Bounded most_rows (with-nets nets)) same by.ensures.most;
    }
