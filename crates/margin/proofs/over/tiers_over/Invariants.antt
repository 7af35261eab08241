-- The contracts are put in place one after the other.
-- Assumes nothing.
use Prim.Native.Nat.{◌≤◌}
use Rattle.account.specs.Joined.{account_of}
use Rattle.margin.proofs.TierLaws.{TieredTo}
use Rattle.margin.proofs.over.tiers_over.Given as goal

abbrev pub invariant-loop-i : goal.invariant-loop-i
invariant-loop-i l = TieredTo (account_of l.morning l.noon) l.i l.tiers l.nets × (l.i ≤ l.count)
