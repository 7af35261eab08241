-- A contract's uses are written to their place where all places are lent, and else none are.
-- Assumes nothing.
use mathlib.Core.Path.{sym}
use Prim.Native.Nat.{◌*◌}
use native.Mathlib.Omega.{arith}
use Rattle.account.specs.Records.{records}
use Rattle.formulas.specs.Bounds.{longest_uses}
use Rattle.formulas.specs.code.Position.{position_in}
use Rattle.margin.specs.Questions.{after_over}
use Rattle.margin.specs.declared.asking.Question.TheVariants.{Uses}
use Rattle.margin.proofs.BesideLaws.{asked_by_lem}
use Rattle.margin.proofs.LentLaws.{lent_few, lent_enough}
use Rattle.margin.proofs.PlaceLaws.{put-place}
use Rattle.margin.proofs.everything.lend_uses.Goals as goal

pub returns-then-out-lt-ALL_USES : goal.returns-then-out-lt-ALL_USES
returns-then-out-lt-ALL_USES c =
    λ whole h. lent_few longest_uses c.args.c (after_over whole (Uses c.args.c)) c.args.out.now (omega (arith, c.if-out-lt-ALL_USES.true))

pub contract_asking-asking-requires : goal.contract_asking-asking-requires
contract_asking-asking-requires c =
    record {
      position = position_in c.args.totals.now c.args.nets.now c.args.shorts;
      nets_are = sym c.deltas_from.ensures;
      fits = c.requires.1;
    }

pub answer_uses-requires : goal.answer_uses-requires
answer_uses-requires c =
    (c.contract_asking-asking.ensures (position_in c.args.totals.now c.args.nets.now c.args.shorts) (sym c.deltas_from.ensures)
    ).accepted

pub returns : goal.returns
returns c =
    let o = c.args.out.now in
    let k = c.args.c in
    let a = c.contract_asking-asking in
    let r = c.answer_uses in
    let p = position_in c.args.totals.now c.args.nets.now c.args.shorts in
    λ whole h.
    let after = after_over whole (Uses k) in
    let is =
    asked_by_lem whole c.args.count k (records c.args.prompts.now) (records c.args.spreads.now) p a.result c.requires.0 h
    (a.ensures p (sym c.deltas_from.ensures)) in
    lent_enough longest_uses k after o _ (omega (arith, c.if-out-lt-ALL_USES.false))
    (put-place longest_uses (longest_uses * k) o r.new.out after (r.ensures whole k is).1)
