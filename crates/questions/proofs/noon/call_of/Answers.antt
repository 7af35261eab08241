-- No call below the last and the threshold, or covered; else what is not covered.
-- Assumes nothing.
use mathlib.Core.Path.{sym}
use native.Mathlib.Omega.{arith}
use Rattle.questions.proofs.NoonLaws.{no_call, covered, called}
use Rattle.questions.proofs.noon.call_of.Goals as goal

pub returns-then-required-last : goal.returns-then-required-last
returns-then-required-last c =
    let a = c.args in
    sym (no_call a.required.0 a.last.0 a.threshold.0 a.collateral.0 c.if-required-last.true)

pub returns-then-required-collateral : goal.returns-then-required-collateral
returns-then-required-collateral c =
    let a = c.args in
    sym (covered a.required.0 a.last.0 a.threshold.0 a.collateral.0 (omega (arith, c.if-required-last.false)) c.if-required-collateral.true)

pub returns : goal.returns
returns c =
    let a = c.args in
    sym
    (called a.required.0 a.last.0 a.threshold.0 a.collateral.0 (omega (arith, c.if-required-last.false))
    (omega (arith, c.if-required-collateral.false)))
