use Rattle.std.proofs.Common.{sym, subst, arith, ℕ, ◌+◌, set, length, length-append, length-set}
use Rattle.record.specs.Layout.{tier}
use Rattle.formulas.proofs.ChunkLaws.{numbered_turn, all_numbered}
use Rattle.formulas.proofs.RecordLaws.{Filled, next, finish}
use Rattle.formulas.proofs.tables.put_tiers.Goals as goal

pub loop-i-preserved : goal.loop-i-preserved
loop-i-preserved c =
    let l = c.loop-i in
    let f = c.args.prompts.now in
    let k = length l.yielded in
    let p = numbered_turn f k l.i-iterator l.invariant.0 c.next.new.self c.in-Some.i c.in-Some.p c.in-Some.ensures.steps in
    simp length-append (
      p.passed,
      subst (λ (n : ℕ). Filled tier f (k + 1) (set l.tiers n c.tier.result)) (sym p.number)
          (next tier f k l.tiers c.tier.result c.in-Some.p.now l.invariant.1 p.there p.is c.tier.ensures.0),
      simp length-set l.invariant.2,
    )

pub returns : goal.returns
returns c =
    let l = c.loop-i in
    let f = c.args.prompts.now in
    let k = length l.yielded in
    finish tier f k l.tiers l.invariant.1 (omega (arith, all_numbered f k l.i-iterator l.invariant.0 c.next.new.self c.in-None.ensures.steps))
