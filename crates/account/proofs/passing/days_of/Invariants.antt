-- `account::passing::days_of` meets its contract. Assumes nothing.

use Rattle.account.proofs.Runs.{DaysTo}
use Rattle.account.proofs.passing.days_of.Given as goal

abbrev pub invariant-loop-j : goal.invariant-loop-j
invariant-loop-j l = DaysTo l.prompts l.days l.j
