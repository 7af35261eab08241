-- The notes of one kind are put in place one after the other.
-- Assumes nothing.
use mathlib.Core.List.{List}
use Prim.Native.Nat.{ℕ, ◌+◌}
use Rattle.account.specs.code.Standing.{EitherTo}
use Rattle.account.proofs.accounts.either_kind.Given as goal

abbrev pub invariant-loop-c : goal.invariant-loop-c
invariant-loop-c l =
    (morning : List ℕ) → EitherTo morning l.noon l.late l.start l.initial.notes → EitherTo morning l.noon l.late (l.start + l.c) l.notes
