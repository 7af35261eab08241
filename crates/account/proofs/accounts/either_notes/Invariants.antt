-- The notes are put in place kind by kind.
-- Assumes nothing.
use Prim.Native.Nat.{◌*◌}
use Rattle.account.specs.Check.{most_contracts}
use Rattle.account.specs.code.Standing.{EitherTo}
use Rattle.account.proofs.accounts.either_notes.Given as goal

abbrev pub invariant-loop-kind : goal.invariant-loop-kind
invariant-loop-kind l = EitherTo l.morning l.noon l.late (most_contracts * l.kind) l.notes
