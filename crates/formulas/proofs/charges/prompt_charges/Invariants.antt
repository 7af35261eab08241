-- The charges of the prompts, one after the other.
-- Assumes nothing.
use Rattle.std.proofs.Common.{length}
use Rattle.account.specs.Records.{records, record_count}
use Rattle.formulas.specs.Bounds.{most_charge}
use Rattle.formulas.proofs.ChunkLaws.{Numbered}
use Rattle.formulas.proofs.SumLaws.{ToGo, prompt_from}
use Rattle.formulas.proofs.charges.prompt_charges.Given as goal

abbrev pub invariant-loop-i : goal.invariant-loop-i
invariant-loop-i l = Numbered l.prompts (length l.yielded) l.i-iterator
    × ToGo (record_count l.prompts) most_charge (prompt_from l.unit (records l.prompts) l.used l.unused) (length l.yielded) l.sum
