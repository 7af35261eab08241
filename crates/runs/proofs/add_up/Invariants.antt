-- The lengths add up to the whole where each can be taken from what is left of it, and nothing is left.
-- Assumes nothing.
use mathlib.Core.Path.{◌≡◌}
use Prim.Native.Nat.{◌+◌}
use lib.ListN.{drop}
use Rattle.exact.specs.Lists.{sum}
use Rattle.runs.proofs.add_up.Given as goal

abbrev pub invariant-loop-n : goal.invariant-loop-n
invariant-loop-n l = sum l.lengths + l.left ≡ l.whole + sum (drop l.n-index l.lengths)
