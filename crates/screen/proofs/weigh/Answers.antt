-- At or below the limit, or over it.
-- Assumes nothing.
use native.Mathlib.Omega.{arith}
use Rattle.screen.proofs.ScreenLaws.{weigh_yes, weigh_no}
use Rattle.screen.proofs.weigh.Goals as goal

pub returns-then-total-limit : goal.returns-then-total-limit
returns-then-total-limit c =
    let a = c.args in
    let t = c.if-total-limit.true in
    weigh_yes a.limit a.total (omega (arith, t))

pub returns-else-total-limit : goal.returns-else-total-limit
returns-else-total-limit c =
    let a = c.args in
    let t = c.if-total-limit.false in
    weigh_no a.limit a.total (omega (arith, t))
