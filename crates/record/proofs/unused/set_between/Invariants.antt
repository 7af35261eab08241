-- `record::unused::set_between`: a byte passed is set, or one to come is. Assumes nothing.
use Prim.Native.Nat.{◌-◌}
use mathlib.Core.Bool.{◌||◌}
use mathlib.Core.Path.{◌≡◌}
use Rattle.exact.specs.Lists.{any}
use Rattle.record.specs.Bytes.{count_from}
use Rattle.record.specs.Ranges.{not_zero}
use Rattle.record.proofs.unused.set_between.Given as goal

abbrev pub invariant-loop-i : goal.invariant-loop-i
invariant-loop-i l = any (not_zero l.r) (count_from l.o (l.end - l.o)) ≡ l.set || any (not_zero l.r) (count_from l.i (l.end - l.i))
