-- The numbers are added one after the other.
-- Assumes nothing.
use mathlib.Core.Path.{◌≡◌}
use Prim.Native.Nat.{◌*◌, ◌≤◌}
use lib.ListN.{take}
use Rattle.account.specs.Check.{most_records}
use Rattle.exact.specs.Lists.{sum}
use Rattle.tickets.proofs.counts.sum_of.Given as goal

abbrev pub invariant-loop-i : goal.invariant-loop-i
invariant-loop-i l = (l.total ≡ sum (take l.i l.numbers)) × (l.total ≤ most_records * l.i)
