-- `add_converted`: each turn adds one product, converted.
-- Assumes nothing.
use Rattle.formulas.specs.code.Position.{Added, converted_products}
use Rattle.formulas.proofs.rows.add_converted.Given as goal

abbrev pub invariant-loop-s : goal.invariant-loop-s
invariant-loop-s l = Added l.s (converted_products l.f.raised l.f.lowered l.unit l.row) l.initial.totals l.totals
