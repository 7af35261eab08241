-- The credit, from the wholes and the part of the unit price risk: nothing on the way outgrows 64 bits.
-- Assumes nothing.
use mathlib.Core.Path.{◌≡◌, ◌∙◌, ap}
use Prim.Native.Nat.{ℕ, ◌+◌, ◌*◌, ◌/◌}
use native.Mathlib.Nat.{le-mul_of_pos_right}
use native.Mathlib.Omega.{arith}
use Rattle.formulas.specs.Credit.{credit}
use Rattle.formulas.proofs.AmountLaws.{CreditParts, credit-parts}
use Rattle.formulas.proofs.amount.credit.Goals as goal
use Rattle.formulas.proofs.amount.credit.Goals.{After-half_up, After-unit_price_risk-risk}

-- what holds once the unit price risk is known
parts :
    (c : After-unit_price_risk-risk) →
    let s = c.args in
    CreditParts s.unit s.twice_risk s.used s.percent s.net c.unit_price_risk-risk.result.whole c.unit_price_risk-risk.result.part
parts c =
    let s = c.args in
    let p = c.requires in
    let u = c.unit_price_risk-risk.ensures in
    credit-parts s.unit s.twice_risk s.used s.percent s.net _ _ p.4.least p.4.most p.0 p.1 p.2 p.3 u.0 u.1 u.2

-- the sum of units that is returned, in hundredths
credited :
    (c : After-half_up) →
    let s = c.args in
    (c.unit_price_risk-risk.result.whole * s.used / (200 * s.unit) * s.percent + c.half_up.result) * s.unit ≡ credit s.unit s.twice_risk
    s.used s.percent s.net
credited c =
    let s = c.args in
    ap (λ (x : ℕ). (c.unit_price_risk-risk.result.whole * s.used / (200 * s.unit) * s.percent + x) * s.unit) c.half_up.ensures ∙ (parts (goal.at.overflow_add-units c).After-unit_price_risk-risk).is

pub overflow_mul-halves : goal.overflow_mul-halves
overflow_mul-halves c = let h = (parts (goal.at.overflow_mul-halves c).After-unit_price_risk-risk).halves_within in omega (arith, h, c.ranges.twice_risk)

pub overflow_mul-each : goal.overflow_mul-each
overflow_mul-each c = omega (arith, c.requires.4.most)

pub nonzero_rem-parts : goal.nonzero_rem-parts
nonzero_rem-parts c = omega (arith, c.requires.4.least)

pub overflow_mul-parts : goal.overflow_mul-parts
overflow_mul-parts c = let h = (parts (goal.at.overflow_mul-parts c).After-unit_price_risk-risk).rest_within in omega (arith, h)

pub overflow_mul-parts-2 : goal.overflow_mul-parts-2
overflow_mul-parts-2 c = let h = (parts (goal.at.overflow_mul-parts-2 c).After-unit_price_risk-risk).rest_within in omega (arith, h)

pub overflow_mul-parts-3 : goal.overflow_mul-parts-3
overflow_mul-parts-3 c = let h = (parts (goal.at.overflow_mul-parts-3 c).After-unit_price_risk-risk).share_within in omega (arith, h)

pub overflow_mul-parts-4 : goal.overflow_mul-parts-4
overflow_mul-parts-4 c = let h = (parts (goal.at.overflow_mul-parts-4 c).After-unit_price_risk-risk).part_within in omega (arith, h)

pub overflow_add-parts : goal.overflow_add-parts
overflow_add-parts c = let h = parts (goal.at.overflow_add-parts c).After-unit_price_risk-risk in omega (arith, h.rest_within, h.part_within)

pub nonzero_div-units : goal.nonzero_div-units
nonzero_div-units c =
    omega (arith, c.requires.4.least)

pub overflow_mul-units : goal.overflow_mul-units
overflow_mul-units c =
    let h = (parts (goal.at.overflow_mul-units c).After-unit_price_risk-risk).wholes_within in
    omega (arith, h, c.ranges.twice_risk)

pub overflow_mul-unit : goal.overflow_mul-unit
overflow_mul-unit c =
    omega (arith, c.requires.4.most)

pub overflow_add-units : goal.overflow_add-units
overflow_add-units c =
    let s = c.args in
    let units = c.unit_price_risk-risk.result.whole * s.used / (200 * s.unit) * s.percent + c.half_up.result in
    omega (arith, credited c, (parts (goal.at.overflow_add-units c).After-unit_price_risk-risk).within, le-mul_of_pos_right units c.requires.4.least)

pub overflow_mul-result : goal.overflow_mul-result
overflow_mul-result c =
    omega (arith, credited c, (parts (goal.at.overflow_mul-result c).After-unit_price_risk-risk).within)

pub returns : goal.returns
returns c =
    let e = credited c in
    let h = (parts (goal.at.returns c).After-unit_price_risk-risk).within in
    (e, omega (arith, e, h))
