-- `pay`: the prompts passed have paid, and what is gone of the cells is still wanted of the later ones. What is taken has the net
-- delta's sign and no more than its size, so the difference is in range.
-- Assumes nothing.
use Prim.Native.Nat.{◌≤◌}
use Rattle.spread.specs.Accepted.{open_of, prompt_places}
use Rattle.spread.specs.code.Lent.{deltas_from, prompts_in}
use Rattle.spread.proofs.Paying.{Paying}
use Rattle.spread.proofs.book.pay.Given as goal

abbrev pub invariant-loop-k : goal.invariant-loop-k
invariant-loop-k l =
    (l.count ≤ prompt_places)
    × Paying l.initial.had l.left (open_of (prompts_in l.count l.tiers l.nets)) l.k l.had (deltas_from l.used) (deltas_from l.unused)
