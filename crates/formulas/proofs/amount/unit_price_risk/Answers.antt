-- The unit price risk: the quotient, and the remainder's part rounded; none where the net delta is 0.
-- Assumes nothing.
use native.Mathlib.Nat.{pos_of_ne-zero}
use Rattle.formulas.proofs.AmountLaws.{unit-parts}
use Rattle.formulas.proofs.amount.unit_price_risk.Goals as goal

pub returns : goal.returns
returns c =
    let s = c.args in
    let u = unit-parts s.twice_risk s.net c.half_up.result (pos_of_ne-zero c.if-net-eq0.false) c.half_up.ensures in
    (u.is, u.whole_within, u.part_within)
