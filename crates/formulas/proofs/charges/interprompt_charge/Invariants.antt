-- The charges of the spreads, one after the other.
-- Assumes nothing.
use Rattle.std.proofs.Common.{length}
use Rattle.spread.specs.code.Lent.{spreads_from}
use Rattle.account.specs.Records.{records, record_count}
use Rattle.formulas.specs.Bounds.{most_charge}
use Rattle.formulas.proofs.ChunkLaws.{Numbered}
use Rattle.formulas.proofs.SumLaws.{ToGo, charge_from}
use Rattle.formulas.proofs.charges.interprompt_charge.Given as goal

abbrev pub invariant-loop-i : goal.invariant-loop-i
invariant-loop-i l = Numbered l.spreads (length l.yielded) l.i-iterator
    × ToGo (record_count l.spreads) most_charge (charge_from l.unit (records l.spreads) (spreads_from l.first) (spreads_from l.second)) (length l.yielded) l.sum
