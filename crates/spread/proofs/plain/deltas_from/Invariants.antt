-- `deltas_from`: each number as a delta.
-- Assumes nothing.
use lib.IntN.{pos}
use lib.ListN.{get_or}
use Rattle.spread.specs.Accepted.{prompt_places}
use Rattle.spread.proofs.Filling.{Filled}
use Rattle.spread.proofs.Gathering.{no_delta}
use Rattle.spread.proofs.plain.deltas_from.Given as goal

abbrev pub invariant-loop-k : goal.invariant-loop-k
invariant-loop-k l = Filled prompt_places no_delta (λ j. record { 0 = get_or l.fn.numbers j (pos 0) }) l.k l.deltas
