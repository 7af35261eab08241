-- `numbers_of`: the number of each.
-- Assumes nothing.
use lib.ListN.{get_or}
use Rattle.spread.specs.Accepted.{spread_places}
use Rattle.spread.proofs.Filling.{Filled}
use Rattle.spread.proofs.Running.{no_spreads}
use Rattle.spread.proofs.plain.numbers_of.Given as goal

abbrev pub invariant-loop-i : goal.invariant-loop-i
invariant-loop-i l = Filled spread_places 0 (λ j. (get_or l.fn.spreads j no_spreads).0) l.i l.numbers
