-- `account::passing::has_day` meets its contract. Assumes nothing.
use Prim.Native.Nat.{◌-◌}
use mathlib.Core.Bool.{◌||◌}
use mathlib.Core.Path.{◌≡◌}
use lib.Dec.{eqb}
use lib.ListN.{get_or}
use Rattle.exact.specs.Lists.{any}
use Rattle.record.specs.Bytes.{count_from}
use Rattle.account.specs.code.Passing.{has_day}
use Rattle.account.specs.Check.{most_prompts}
use Rattle.account.proofs.passing.has_day.Given as goal

abbrev pub invariant-loop-day : goal.invariant-loop-day
invariant-loop-day l =
    has_day l.days l.d ≡ l.found || any (λ i. eqb (get_or l.days i 0) l.d) (count_from l.day-index (most_prompts - l.day-index))
