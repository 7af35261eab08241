-- `settle`: each turn adds to one total what its sums come to.
-- Assumes nothing.
use Rattle.formulas.specs.code.Position.{Added}
use Rattle.formulas.specs.code.Raised.{unraised_at}
use Rattle.formulas.proofs.rows.settle.Given as goal

abbrev pub invariant-loop-s : goal.invariant-loop-s
invariant-loop-s l = Added l.s (unraised_at l.sums l.sizes) l.initial.totals l.totals
