-- Row after row, until one has a fault.
-- Assumes nothing.
use mathlib.Core.Path.{◌≡◌}
use mathlib.Core.List.{List}
use Rattle.record.specs.Layout.{Record}
use Rattle.record.specs.Within.{RateWithin}
use Rattle.account.specs.Accepted.{Each}
use Rattle.account.specs.Checked.{first_rate_fault}
use Rattle.account.specs.code.Rates.{RatesOf}
use Rattle.account.specs.Records.{records}
use Rattle.account.proofs.RateLaws.{rows_from}
use Rattle.account.proofs.conversions.rows_answer.Given as goal

abbrev pub invariant-loop-i : goal.invariant-loop-i
invariant-loop-i l =
    (rates : List Record) → RatesOf rates l.t → Each RateWithin rates → first_rate_fault l.k rates (records l.rows) ≡ rows_from rates l.k l.rows l.i
