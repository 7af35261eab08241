-- `add_own`: each turn adds one product.
-- Assumes nothing.
use Rattle.formulas.specs.code.Position.{Added, own_products}
use Rattle.formulas.proofs.rows.add_own.Given as goal

abbrev pub invariant-loop-s : goal.invariant-loop-s
invariant-loop-s l = Added l.s (own_products l.unit l.row) l.initial.totals l.totals
