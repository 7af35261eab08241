-- `rows_net`: the net delta of the rows that are passed.
-- Assumes nothing.
use Rattle.std.proofs.Common.{◌≡◌, length, take}
use Rattle.account.specs.Records.{records}
use Rattle.formulas.specs.code.Position.{rows_net}
use Rattle.formulas.proofs.ChunkLaws.{Passed}
use Rattle.formulas.proofs.rows.rows_net.Given as goal

abbrev pub invariant-loop-row : goal.invariant-loop-row
invariant-loop-row l = Passed l.rows (length l.yielded) l.row-iterator × (l.net ≡ rows_net (take (length l.yielded) (records l.rows)))
