-- A run of accounts: refused as a whole, or each account answered in its places, one after the other.
-- Assumes nothing.
use Rattle.runs.proofs.RunLaws.{Going}
use Rattle.runs.proofs.answer_run.Given as goal

abbrev pub invariant-loop-i : goal.invariant-loop-i
invariant-loop-i l = Going l.accounts l.lengths l.initial.out l.initial.outcomes l.out l.outcomes l.at l.i
