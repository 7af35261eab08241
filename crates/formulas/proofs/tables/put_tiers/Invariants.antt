-- The tiers are filled record by record.
-- Assumes nothing.
use Rattle.std.proofs.Common.{◌≡◌, length}
use Rattle.spread.specs.Accepted.{prompt_places}
use Rattle.record.specs.Layout.{tier}
use Rattle.formulas.proofs.ChunkLaws.{Numbered}
use Rattle.formulas.proofs.RecordLaws.{Filled}
use Rattle.formulas.proofs.tables.put_tiers.Given as goal

abbrev pub invariant-loop-i : goal.invariant-loop-i
invariant-loop-i l = Numbered l.prompts (length l.yielded) l.i-iterator × Filled tier l.prompts (length l.yielded) l.tiers × (length l.tiers ≡ prompt_places)
