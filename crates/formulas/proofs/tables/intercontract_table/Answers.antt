-- Each record's spread stands in its place.
-- Assumes nothing.
use Rattle.std.proofs.Common.{◌∙◌, ap, refl, sym, subst, rules, arith, ℕ, ◌+◌, take, set, length, length-append, length-set}
use Rattle.formulas.specs.Deltas.{intercontract}
use Rattle.formulas.proofs.ChunkLaws.{none_numbered, numbered_turn, all_numbered}
use Rattle.formulas.proofs.RecordLaws.{Filled, start, next, finish}
use Rattle.formulas.proofs.tables.intercontract_table.Goals as goal

pub loop-i-init : goal.loop-i-init
loop-i-init c =
    (none_numbered _ _ (search rules) (search rules) (search rules), start intercontract c.args.entries.now _ c.requires, refl, refl)

pub loop-i-preserved : goal.loop-i-preserved
loop-i-preserved c =
    let l = c.loop-i in
    let f = c.args.entries.now in
    let k = length l.yielded in
    let r = numbered_turn f k l.i-iterator l.invariant.0 c.next.new.self c.in-Some.i c.in-Some.r c.in-Some.ensures.steps in
    simp length-append (
      r.passed,
      subst (λ (n : ℕ). Filled intercontract f (k + 1) (set l.table.spread n c.intercontract.result)) (sym r.number)
          (next intercontract f k l.table.spread c.intercontract.result c.in-Some.r.now l.invariant.1 r.there r.is c.intercontract.ensures),
      simp length-set l.invariant.2,
      l.invariant.3,
    )

pub returns : goal.returns
returns c =
    let l = c.loop-i in
    let f = c.args.entries.now in
    let k = length l.yielded in
    let all = all_numbered f k l.i-iterator l.invariant.0 c.next.new.self c.in-None.ensures.steps in
    record {
      count_is = l.invariant.3;
      spreads_are =
          ap (λ (n : ℕ). take n l.table.spread) l.invariant.3
          ∙ finish intercontract f k l.table.spread l.invariant.1 (omega arith);
    }
