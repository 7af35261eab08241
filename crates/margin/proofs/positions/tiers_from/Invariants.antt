-- The contracts are put in place one after the other, each by what its rows come to.
-- Assumes nothing.
use mathlib.Core.List.{List}
use Prim.Native.Nat.{◌≤◌}
use Rattle.record.specs.Layout.{Record}
use Rattle.account.specs.Joined.{account_of}
use Rattle.margin.specs.code.Positions.{PositionsTell}
use Rattle.margin.proofs.TierLaws.{TieredTo}
use Rattle.margin.proofs.positions.tiers_from.Given as goal

abbrev pub invariant-loop-i : goal.invariant-loop-i
invariant-loop-i l =
    ((whole : List Record) → PositionsTell (account_of l.morning l.noon) l.positions whole → TieredTo whole l.i l.tiers l.nets) × (l.i ≤ l.count)
