-- `add_raised`: each turn adds one product, of the size of lots × value and a loss that has its sign.
-- Assumes nothing.
use Rattle.formulas.specs.code.Position.{Added}
use Rattle.formulas.specs.code.Raised.{raised_products}
use Rattle.formulas.proofs.rows.add_raised.Given as goal

abbrev pub invariant-loop-s : goal.invariant-loop-s
invariant-loop-s l = Added l.s (raised_products l.each l.row) l.initial.sums l.sums
