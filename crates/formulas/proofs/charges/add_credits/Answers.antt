-- An entry adds to its first contract, and to its second.
-- Assumes nothing.
use Prim.Native.Nat.{◌<◌}
use native.Mathlib.Omega.{arith}
use Rattle.account.specs.Check.{most_contracts}
use Rattle.formulas.proofs.EarnedLaws.{none-formed, second_fits, with_entry}
use Rattle.formulas.proofs.charges.add_credits.Goals as goal

pub returns-then-second-eq0 : goal.returns-then-second-eq0
returns-then-second-eq0 c =
    none-formed c.args.units.now c.args.prices.now c.args.nets.now c.args.e.now c.args.first.0 c.args.second.0
    c.args.earned.now c.requires.1.places c.if-first-eq0.true c.if-second-eq0.true

pub credit_at-to_second-requires : goal.credit_at-to_second-requires
credit_at-to_second-requires c =
    let number = c.second_contract-b in
    (omega (arith, number.ensures.0, c.requires.0.fits.second_number_lem), c.requires.0.each number.result)

pub overflow_add-earned-2 : goal.overflow_add-earned-2
overflow_add-earned-2 c =
    let number = c.contract-a in
    let second = c.second_contract-b in
    let small = c.credit_at-to_second.ensures.1 in
    let below : second.result < most_contracts = omega (arith, second.ensures.0, c.requires.0.fits.second_number_lem) in
    second_fits c.args.units.now c.args.prices.now c.args.nets.now c.args.e.now c.args.first.0 c.args.second.0
    number.result second.result c.requires.0.fits number.ensures.0 second.ensures.0 c.args.earned.now _ _
    (c.requires.1.most second.result below) small

pub returns : goal.returns
returns c =
    let number = c.contract-a in
    let second = c.second_contract-b in
    let to-first = c.credit_at-to_first in
    let to-second = c.credit_at-to_second in
    with_entry c.args.units.now c.args.prices.now c.args.nets.now c.args.e.now c.args.first.0 c.args.second.0
    number.result second.result c.requires.0.fits number.ensures.0 second.ensures.0 c.args.earned.now to-first.result.0
    to-second.result.0 c.requires.1.places to-first.ensures.0 to-first.ensures.1 to-second.ensures.0 to-second.ensures.1
