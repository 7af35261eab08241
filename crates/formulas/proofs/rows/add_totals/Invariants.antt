-- `add_totals`: what is added by the rows that are passed.
-- Assumes nothing.
use Rattle.std.proofs.Common.{◌+◌, ◌-◌, List, length}
use Rattle.record.specs.Layout.{Record}
use Rattle.account.specs.code.Rates.{RatesOf}
use Rattle.account.specs.Records.{records}
use Rattle.account.specs.Check.{most_rows}
use Rattle.formulas.specs.code.Raised.{SumsRoom, settled}
use Rattle.formulas.proofs.ChunkLaws.{Passed}
use Rattle.formulas.proofs.WalkLaws.{SoFar}
use Rattle.formulas.proofs.rows.add_totals.Given as goal

abbrev pub invariant-loop-row : goal.invariant-loop-row
invariant-loop-row l =
    Passed l.rows (length l.yielded) l.row-iterator
    × ((held : List Record) → RatesOf held l.rates
    → SoFar held l.unit (records l.rows) l.initial.totals (length l.yielded) (settled l.totals l.sums l.sizes) l.shorts)
    × SumsRoom (most_rows - length (records l.rows) + length l.yielded) l.totals l.sums l.sizes
