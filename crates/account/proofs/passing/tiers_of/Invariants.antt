-- `account::passing::tiers_of` meets its contract. Assumes nothing.

use Rattle.account.proofs.Runs.{TiersTo}
use Rattle.account.proofs.passing.tiers_of.Given as goal

abbrev pub invariant-loop-j : goal.invariant-loop-j
invariant-loop-j l = TiersTo l.prompts l.listed l.j
