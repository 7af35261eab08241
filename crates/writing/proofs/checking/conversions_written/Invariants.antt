-- Record after record, until a row has a fault.
-- Assumes nothing.
use mathlib.Core.Path.{◌≡◌}
use Rattle.account.specs.Checked.{rates_checked}
use Rattle.account.specs.Parts.{rates_of}
use Rattle.account.specs.Records.{records}
use Rattle.account.proofs.RateLaws.{rows_from}
use Rattle.writing.specs.Written.{written}
use Rattle.writing.proofs.checking.conversions_written.Given as goal

abbrev pub invariant-loop-k : goal.invariant-loop-k
invariant-loop-k l = rates_checked (records (written l.entries)) ≡ rows_from (rates_of (records (written l.entries))) 0 (written l.entries) l.k
