-- Contract after contract, until one has a row with a fault.
-- Assumes nothing.
use mathlib.Core.Path.{◌≡◌}
use Rattle.account.specs.Checked.{rates_checked}
use Rattle.account.specs.Records.{records}
use Rattle.account.specs.Joined.{account_of}
use Rattle.account.proofs.RateLaws.{rows_on_from, rows_before}
use Rattle.account.proofs.accounts.conversions_answer.Given as goal

abbrev pub invariant-loop-c : goal.invariant-loop-c
invariant-loop-c l =
    (rates_checked (account_of l.morning l.noon) ≡ rows_on_from (records l.morning) (records l.noon) l.k l.c)
    × (l.k ≡ rows_before (records l.morning) (records l.noon) l.c)
