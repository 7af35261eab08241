use mathlib.Core.Path.{◌≡◌, ap, ◌∙◌}
use Prim.Native.Nat.{ℕ, ◌-◌}
use native.Mathlib.Omega.{arith}
use Rattle.record.specs.Layout.{record_bytes}
use Rattle.screen.proofs.InsertingLaws.{none_yet, one_more_lem, lifted, all_moved}
use Rattle.screen.proofs.inserting.move_up.Goals as goal

pub loop-i-init : goal.loop-i-init
loop-i-init c = (c.requires.0, none_yet c.args.end c.args.lent.now)

pub loop-i-preserved : goal.loop-i-preserved
loop-i-preserved c =
    let l = c.loop-i in
    let t = c.loop-i-test.true in
    (omega (arith, t), one_more_lem c.args.end c.args.lent.now c.requires.1 l.lent l.i (omega (arith, t)) l.invariant.1)

pub returns : goal.returns
returns c =
    let l = c.loop-i in
    let t = c.loop-i-test.false in
    let h = l.invariant.0 in
    let e : l.i ≡ c.args.at = omega (arith, t, h) in
    l.invariant.1.is
    ∙ ap (λ (i : ℕ). lifted record_bytes i (c.args.end - i) c.args.lent.now) e
    ∙ all_moved c.args.at c.args.end c.args.lent.now c.requires.0
