-- Deltas are written one after the other.
-- Assumes nothing.
use mathlib.Core.Path.{◌≡◌}
use Prim.Native.Nat.{◌+◌}
use lib.ListN.{length, take}
use lib.Seq.{sets, slice}
use Rattle.formulas.specs.code.Sums.{deltas_in}
use Rattle.margin.proofs.NumberLaws.{ToWrite}
use Rattle.margin.proofs.uses.put_deltas.Given as goal

abbrev pub invariant-loop-i : goal.invariant-loop-i
invariant-loop-i l = ToWrite l.count (λ k. slice k l.count (deltas_in l.deltas)) (sets l.initial.out l.at (take l.count (deltas_in l.deltas))) l.i
    (l.at + l.i) l.out × (length l.out ≡ length l.initial.out)
