-- `spreads_from`: each number as one of spreads.
-- Assumes nothing.
use lib.ListN.{get_or}
use Rattle.spread.specs.Accepted.{spread_places}
use Rattle.spread.proofs.Filling.{Filled}
use Rattle.spread.proofs.Running.{no_spreads}
use Rattle.spread.proofs.plain.spreads_from.Given as goal

abbrev pub invariant-loop-i : goal.invariant-loop-i
invariant-loop-i l = Filled spread_places no_spreads (λ j. record { 0 = get_or l.fn.numbers j 0 }) l.i l.spreads
