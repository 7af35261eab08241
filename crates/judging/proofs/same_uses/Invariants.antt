-- `same_uses`: one use after the other; those that are still to be compared decide.
-- Assumes nothing.
use mathlib.Core.Path.{◌≡◌}
use lib.ListN.{length, take, drop}
use Rattle.judging.specs.Judged.{alike}
use Rattle.spread.specs.code.Lent.{deltas_in}
use Rattle.judging.proofs.same_uses.Given as goal

abbrev pub invariant-loop-k : goal.invariant-loop-k
invariant-loop-k l =
    alike (drop l.k l.uses) (drop l.k (take (length l.uses) (deltas_in l.taken))) ≡ alike l.uses (take (length l.uses) (deltas_in l.taken))
