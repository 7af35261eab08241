use native.Mathlib.Omega.{arith}
use Rattle.committee.proofs.OverContracts.{start, margin_small, credits_small, above_small, next, finish}
use Rattle.committee.proofs.contracts.found_in.Goals as goal

pub loop-i-init : goal.loop-i-init
loop-i-init c = start c.args.numbers.now

pub found_at-found-requires : goal.found_at-found-requires
found_at-found-requires c = (c.requires, c.loop-i-test.true)

pub overflow_add-margin : goal.overflow_add-margin
overflow_add-margin c =
    let l = c.loop-i in
    let t = c.loop-i-test.true in
    let f = c.found_at-found in
    let small = margin_small c.args.numbers.now c.requires l.i l.margin l.credits l.above l.invariant t f.result f.ensures in
    omega (arith, l.invariant.margin_most, t, small)

pub overflow_add-credits : goal.overflow_add-credits
overflow_add-credits c =
    let l = c.loop-i in
    let t = c.loop-i-test.true in
    let f = c.found_at-found in
    let small = credits_small c.args.numbers.now c.requires l.i l.margin l.credits l.above l.invariant t f.result f.ensures in
    omega (arith, l.invariant.credits_most, t, small)

pub overflow_add-above : goal.overflow_add-above
overflow_add-above c =
    let l = c.loop-i in
    let t = c.loop-i-test.true in
    let f = c.found_at-found in
    let small = above_small c.args.numbers.now c.requires l.i l.margin l.credits l.above l.invariant t f.result f.ensures in
    omega (arith, l.invariant.above_most, t, small)

pub loop-i-preserved : goal.loop-i-preserved
loop-i-preserved c =
    let l = c.loop-i in
    let t = c.loop-i-test.true in
    let f = c.found_at-found in
    next c.args.numbers.now c.requires l.i l.margin l.credits l.above l.invariant t f.result f.ensures

pub returns : goal.returns
returns c =
    let l = c.loop-i in
    let t = c.loop-i-test.false in
    finish c.args.numbers.now l.i l.margin l.credits l.above l.invariant (omega (arith, t))
