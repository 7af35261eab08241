-- `plain`: the number of each delta.
-- Assumes nothing.
use lib.IntN.{pos}
use lib.ListN.{get_or}
use Rattle.spread.specs.Accepted.{prompt_places}
use Rattle.spread.proofs.Filling.{Filled}
use Rattle.spread.proofs.Gathering.{no_delta}
use Rattle.spread.proofs.plain.plain.Given as goal

abbrev pub invariant-loop-k : goal.invariant-loop-k
invariant-loop-k l = Filled prompt_places (pos 0) (λ j. (get_or l.fn.deltas j no_delta).0) l.k l.numbers
