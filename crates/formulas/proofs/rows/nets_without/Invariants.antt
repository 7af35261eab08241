-- Each turn takes one net delta away.
-- Assumes nothing.
use lib.IntN.{pos, neg_ℤ}
use lib.ListN.{get_or}
use Rattle.formulas.specs.code.Position.{Added, deltas_in}
use Rattle.formulas.proofs.rows.nets_without.Given as goal

abbrev pub invariant-loop-j : goal.invariant-loop-j
invariant-loop-j l = Added l.j (λ k. neg_ℤ (get_or (deltas_in l.gone) k (pos 0))) (deltas_in l.initial.nets) (deltas_in l.nets)
