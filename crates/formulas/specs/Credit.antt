-- The intercontract credit (000): where used deltas and price risk become an amount.
-- Assumes nothing.
use Rattle.std.specs.Prelude.{ℕ, ◌+◌, ◌-◌, ◌*◌, Bool, cond, List, [], ◌∷◌, get_or, eqb, ℤ, pos, ◌+ℤ◌, ◌-ℤ◌}
use Rattle.exact.specs.Rounding.{half_up, half_up_to}
use Rattle.record.specs.Layout.{Record, contract, second_contract, percent, first_ratio, second_ratio, tenths}
use Rattle.spread.specs.Steps.{Open, long, short, pool, use_of, steps, left}
use Rattle.exact.specs.Signed.{or_zero}
use Rattle.formulas.specs.Charges.{over_steps}
use Rattle.formulas.specs.Scanning.{active_scenario}
use Rattle.formulas.specs.Pairs.{pair_of}
use Rattle.formulas.specs.Deltas.{intercontract}

abbrev pub total_of : List ℤ → ℕ → ℤ
total_of ts scenario = get_or ts (scenario - 1) (pos 0)

-- "Price risk = (active total + paired total)/2 - (total 1 + total 2)/2, halves kept, or 0 if negative."
-- It is carried twice over, so that halves are kept.
abbrev pub twice_price_risk_at : List ℤ → ℕ → ℕ
twice_price_risk_at ts active =
    or_zero ((total_of ts active +ℤ total_of ts (pair_of active)) -ℤ (total_of ts 1 +ℤ total_of ts 2))

abbrev pub twice_price_risk : List ℤ → ℕ
twice_price_risk ts = twice_price_risk_at ts (active_scenario ts)

-- half hundredths of the currency over ten-thousandths of a lot, in ten-thousandths of the currency per lot
abbrev pub to_unit : ℕ
to_unit = 500000

-- ten-thousandths of the currency per lot, times ten-thousandths of a lot, times a percent, that make one hundredth of the currency
abbrev pub from_unit : ℕ
from_unit = 100000000

-- 2026-04: "The unit price risk, price risk over |net delta|, is rounded to four decimals, halves up, before it meets used delta
-- and percent."
abbrev pub unit_price_risk : ℕ → ℕ → ℕ
unit_price_risk twiceRisk net = half_up (twiceRisk * to_unit) net

-- the unit price risk "× |used in that entry| × percent / 100, rounded once, halves up", and (2026-09) "every .. credit that 01
-- rounds to a hundredth is rounded to" the contract's unit
abbrev pub credit_at : ℕ → ℕ → ℕ → ℕ → ℕ
credit_at unit unitRisk used percentage = half_up_to (unitRisk * used * percentage) from_unit unit

-- "A contract's credit from one entry = price risk × |used in that entry| × percent / (100 × |net delta|) ..; 0 where the
-- net delta is 0."
abbrev pub credit : ℕ → ℕ → ℕ → ℕ → ℕ → ℕ
credit unit twiceRisk used percentage net = cond (eqb net 0) 0 (credit_at unit (unit_price_risk twiceRisk net) used percentage)

-- what a contract has unused, either way: each contract is a tier with one prompt
abbrev pub unused_by : ℕ → List Open → ℕ
unused_by c contracts = pool long c contracts + pool short c contracts

-- the contracts after the two steps of an entry
abbrev pub after_entry : Record → List Open → List Open
after_entry e contracts = left (steps (intercontract e ∷ [])) contracts

abbrev pub used_by_entry : Record → ℕ → List Open → ℕ
used_by_entry e c contracts = unused_by c contracts - unused_by c (after_entry e contracts)

-- a contract's credits over the table, entry by entry, what one leaves handed to the next
abbrev pub credits : ℕ → ℕ → ℕ → ℕ → List Record → List Open → ℕ
credits unit c twiceRisk net [] contracts = 0
credits unit c twiceRisk net (e ∷ es) contracts =
    credit unit twiceRisk (used_by_entry e c contracts) (percent e) net
    + credits unit c twiceRisk net es (after_entry e contracts)

-- the same from the numbers that the entries' steps form: what an entry uses of a contract that it names is what its two steps
-- take, each rounded by itself
abbrev pub both_take : Bool → ℕ → ℕ → ℕ → ℕ
both_take in_tenths_of ratio first second = use_of in_tenths_of first ratio + use_of in_tenths_of second ratio

abbrev pub entry_use : ℕ → Record → ℕ → ℕ → ℕ
entry_use c e first second =
    cond (eqb c (contract e)) (both_take (tenths e) (first_ratio e) first second)
    (cond (eqb c (second_contract e)) (both_take (tenths e) (second_ratio e) first second) 0)

abbrev pub credits_by : ℕ → ℕ → ℕ → ℕ → List Record → List ℕ → ℕ
credits_by unit c twiceRisk net =
    over_steps (λ e first second. credit unit twiceRisk (entry_use c e first second) (percent e) net)
