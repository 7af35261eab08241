-- The net deltas are added up one after the other.
-- Assumes nothing.
use Rattle.std.proofs.Common.{◌≡◌, take}
use Rattle.exact.specs.Lists.{sum_ℤ}
use Rattle.formulas.proofs.line.net_in.Given as goal

abbrev pub invariant-loop-more : goal.invariant-loop-more
invariant-loop-more l = l.net ≡ sum_ℤ (take l.more-index l.nets)
