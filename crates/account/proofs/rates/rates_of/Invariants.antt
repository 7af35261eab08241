-- `rates_of`: the table of the rates from place i on.
-- Assumes nothing.
use mathlib.Core.List.{List}
use Prim.Native.Nat.{ℕ, ◌-◌, ◌*◌}
use lib.ListN.{drop}
use Rattle.record.specs.Bytes.{record_bytes}
use Rattle.record.specs.Layout.{Record}
use Rattle.account.specs.code.Rates.{RatesOf}
use Rattle.account.specs.Records.{cut, record_count}
use Rattle.account.proofs.rates.rates_of.Given as goal

abbrev pub from-here : List ℕ → ℕ → List Record
from-here file i = cut (record_count file - i) (drop (i * record_bytes) file)

abbrev pub invariant-loop-i : goal.invariant-loop-i
invariant-loop-i l = RatesOf (from-here l.rates l.i) l.t
