-- The loop of the check, with the prompts at hand; then the rates.
-- Assumes nothing.
use Rattle.writing.specs.Written.{written}
use Rattle.writing.proofs.Held.{Reading}
use Rattle.writing.proofs.checking.check_written.Given as goal

abbrev pub invariant-loop-k : goal.invariant-loop-k
invariant-loop-k l = Reading (written l.entries) l.first l.counts l.prompts l.held l.k
