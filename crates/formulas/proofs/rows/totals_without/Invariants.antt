-- Each turn takes one total away.
-- Assumes nothing.
use lib.IntN.{pos, neg_ℤ}
use lib.ListN.{get_or}
use Rattle.formulas.specs.code.Position.{Added}
use Rattle.formulas.proofs.rows.totals_without.Given as goal

abbrev pub invariant-loop-s : goal.invariant-loop-s
invariant-loop-s l = Added l.s (λ k. neg_ℤ (get_or l.gone.0 k (pos 0))) l.initial.totals.0 l.totals.0
