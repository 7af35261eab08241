-- One number after the other, from the front.
-- Assumes nothing.
use mathlib.Core.Path.{◌≡◌}
use mathlib.Core.List.{map}
use Prim.Native.Nat.{◌≤◌}
use lib.IntN.{pos}
use lib.ListN.{length}
use lib.Seq.{paste}
use Rattle.committee.specs.code.Sums.{sums_numbers}
use Rattle.committee.proofs.sums.put_sums.Given as goal

abbrev pub invariant-loop-k : goal.invariant-loop-k
invariant-loop-k l = (l.out ≡ paste l.initial.out 0 (map pos (sums_numbers l.sums)) l.k) × ((l.k ≤ 24) × (length l.out ≡ length l.initial.out))
