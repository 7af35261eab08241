-- The table is filled record by record.
-- Assumes nothing.
use Rattle.std.proofs.Common.{◌≡◌, length}
use Rattle.spread.specs.Accepted.{spread_places}
use Rattle.account.specs.Records.{record_count}
use Rattle.formulas.specs.Deltas.{interprompt}
use Rattle.formulas.proofs.ChunkLaws.{Numbered}
use Rattle.formulas.proofs.RecordLaws.{Filled}
use Rattle.formulas.proofs.tables.interprompt_table.Given as goal

abbrev pub invariant-loop-i : goal.invariant-loop-i
invariant-loop-i l =
    Numbered l.spreads (length l.yielded) l.i-iterator
    × Filled interprompt l.spreads (length l.yielded) l.table.spread
    × (length l.table.spread ≡ spread_places)
    × (l.table.count ≡ record_count l.spreads)
