-- `lay`: the prompts passed have their cells and sizes.
-- Assumes nothing.
use Prim.Native.Nat.{◌≤◌}
use Rattle.spread.specs.Accepted.{open_of, prompt_places}
use Rattle.spread.specs.code.Lent.{prompts_in}
use Rattle.spread.proofs.Laying.{Laying}
use Rattle.spread.proofs.touches.lay.Given as goal

abbrev pub invariant-loop-k : goal.invariant-loop-k
invariant-loop-k l =
    (l.count ≤ prompt_places) × Laying (open_of (prompts_in l.count l.tiers l.nets)) l.k l.pool l.size l.at
