-- The entries, one after the other.
-- Assumes nothing.
use Rattle.std.proofs.Common.{length}
use Rattle.spread.specs.code.Lent.{spreads_from}
use Rattle.account.specs.Records.{records, record_count}
use Rattle.formulas.proofs.ChunkLaws.{Numbered}
use Rattle.formulas.proofs.EarnedLaws.{Walked}
use Rattle.formulas.proofs.charges.credits.Given as goal

abbrev pub invariant-loop-i : goal.invariant-loop-i
invariant-loop-i l = Numbered l.entries (length l.yielded) l.i-iterator
    × Walked l.units l.prices l.nets (records l.entries) (spreads_from l.first) (spreads_from l.second) (record_count l.entries) (length l.yielded) l.earned
