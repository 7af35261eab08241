-- `largest`: the totals from place i on are seen, from the last to the first.
use Rattle.exact.proofs.Downward.{Seen}
use Rattle.exact.proofs.largest.largest.Given as goal

abbrev pub invariant-loop-i : goal.invariant-loop-i
invariant-loop-i l = Seen l.totals l.i l.best.value l.best.number
