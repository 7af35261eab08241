-- `record::ranges::losses_beyond`: a loss passed is outside its range, or one to come is. Assumes nothing.
use Prim.Native.Nat.{ℕ, ◌+◌, ◌-◌}
use mathlib.Core.Bool.{Bool, ◌||◌}
use mathlib.Core.Path.{◌≡◌}
use Rattle.exact.specs.Lists.{any}
use Rattle.record.specs.Bytes.{Record, count_from}
use Rattle.record.specs.Layout.{loss_field, scenario_count}
use Rattle.record.specs.Ranges.{outside}
use Rattle.record.proofs.ranges.losses_beyond.Given as goal

abbrev pub wrong : Record → ℕ → Bool
wrong r scenario = outside r (loss_field scenario)

abbrev pub invariant-loop-k : goal.invariant-loop-k
invariant-loop-k l =
    any (wrong l.r) (count_from 1 scenario_count) ≡ l.outside || any (wrong l.r) (count_from (l.k + 1) (scenario_count + 1 - (l.k + 1)))
