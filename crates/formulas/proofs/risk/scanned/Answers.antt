-- What the totals say: the largest is within its bound.
-- Assumes nothing.
use Rattle.std.proofs.Common.{arith}
use Rattle.std.proofs.lemmas.Grind.{common_steps}
use Rattle.exact.specs.Largest.{largest}
use Rattle.exact.proofs.Integers.{or_zero_abs}
use Rattle.formulas.proofs.RiskLaws.{total_within}
use Rattle.formulas.proofs.risk.scanned.Goals as goal

pub returns : goal.returns
returns c =
    let worst = total_within c.args.totals.now c.requires in
    let size = or_zero_abs (largest c.args.totals.now) in
    grind (arith, common_steps)
