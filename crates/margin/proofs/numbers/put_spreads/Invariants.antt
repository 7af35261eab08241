-- Two numbers a spread, one spread after the other.
-- Assumes nothing.
use mathlib.Core.Path.{◌≡◌}
use Prim.Native.Nat.{◌+◌, ◌*◌}
use lib.ListN.{length}
use lib.Seq.{sets}
use Rattle.margin.proofs.NumberLaws.{ToWrite, twos_on}
use Rattle.margin.proofs.numbers.put_spreads.Given as goal

abbrev pub invariant-loop-i : goal.invariant-loop-i
invariant-loop-i l = ToWrite l.spreads (twos_on l.spreads l.first l.second) (sets l.initial.out l.at (twos_on l.spreads l.first l.second 0)) l.i (l.at + l.i * 2) l.out
    × (length l.out ≡ length l.initial.out)
