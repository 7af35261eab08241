-- `add_nets`: what is added by the rows that are passed.
-- Assumes nothing.
use Rattle.std.proofs.Common.{length, get_or, take}
use Rattle.account.specs.Records.{records}
use Rattle.formulas.specs.code.Position.{Added, net_on}
use Rattle.formulas.proofs.ChunkLaws.{Passed}
use Rattle.formulas.proofs.rows.add_nets.Given as goal

abbrev pub invariant-loop-row : goal.invariant-loop-row
invariant-loop-row l = Passed l.rows (length l.yielded) l.row-iterator
    × Added l.prompts (λ j. net_on (take (length l.yielded) (records l.rows)) (get_or l.days j 0)) l.initial.nets l.nets
