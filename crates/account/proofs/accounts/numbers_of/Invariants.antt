-- The listed numbers are put one after the other, until there are no more.
-- Assumes nothing.
use Prim.Native.Nat.{◌-◌, ◌≤◌}
use mathlib.Core.Path.{◌≡◌}
use lib.ListN.{length, take, drop, replicate}
use Rattle.exact.specs.Lists.{keep}
use Rattle.record.specs.Bytes.{count_from}
use Rattle.account.specs.code.Standing.{lists}
use Rattle.account.specs.Check.{most_contracts}
use Rattle.account.proofs.accounts.numbers_of.Given as goal

abbrev pub invariant-loop-c : goal.invariant-loop-c
invariant-loop-c l = (length l.number ≡ most_contracts)
    × ((l.count ≤ l.c) × ((l.count ≤ l.most) × ((take l.count l.number ≡ keep (lists l.counts) (count_from 0 l.c))
    × (drop l.count l.number ≡ replicate (most_contracts - l.count) 0))))
