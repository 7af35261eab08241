-- At most as many contracts as there are numbers; the flags are those of the noon file.
-- Assumes nothing.
use Rattle.account.specs.Check.{most_contracts}
use Rattle.account.specs.code.Standing.{lists}
use Rattle.account.proofs.Filled.{either_all, kept_few}
use Rattle.account.proofs.accounts.join.Goals as goal

pub numbers_of-count-requires : goal.numbers_of-count-requires
numbers_of-count-requires c =
    kept_few (lists c.either_notes-counts.result) 0 most_contracts

pub returns : goal.returns
returns c =
    let flagged = c.flags-late.ensures in
    record {
      first = either_all flagged c.either_notes-first.ensures;
      counts = either_all flagged c.either_notes-counts.ensures;
      noon = flagged;
      numbers = c.numbers_of-count.ensures;
      records = c.records_in.ensures;
    }
