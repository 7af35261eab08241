use mathlib.Core.Path.{◌∙◌, sym, ap, subst}
use mathlib.Core.List.{List}
use Prim.Native.Nat.{ℕ, ◌+◌}
use native.Mathlib.Omega.{arith}
use lib.ListN.{get_or}
use Rattle.std.proofs.Common.{length, length-append, refl}
use Rattle.spread.specs.code.Lent.{spreads_from}
use Rattle.record.specs.Layout.{Record}
use Rattle.account.specs.Records.{records, record_count}
use Rattle.formulas.specs.code.Sums.{spreads_at, SpreadRoom}
use Rattle.formulas.proofs.LentLaws.{spread_from}
use Rattle.formulas.proofs.RecordLaws.{below_records, length_cut}
use Rattle.formulas.proofs.SumLaws.{next, finish, charge_from, charge_step, charge_none}
use Rattle.formulas.proofs.ChunkLaws.{NumberedTurn, numbered_turn, all_numbered}
use Rattle.formulas.proofs.charges.interprompt_charge.Goals as goal
use Rattle.formulas.proofs.charges.interprompt_charge.Goals.{In-Some}

-- the room of a spread, by the lent numbers
room-from : (unit : ℕ) (r : Record) (first second : List ℕ) (k : ℕ)
    → SpreadRoom unit r (spreads_at (spreads_from first) k) (spreads_at (spreads_from second) k) → SpreadRoom unit r (get_or first k 0) (get_or second k 0)
room-from unit r first second k h =
    subst (λ (n : ℕ). SpreadRoom unit r n (get_or second k 0)) (spread_from first k)
    (subst (λ (n : ℕ). SpreadRoom unit r (spreads_at (spreads_from first) k) n) (spread_from second k) h)

-- the spread of a turn
spread : (c : In-Some) → NumberedTurn c.args.spreads.now (length c.loop-i.yielded) c.in-Some.i c.in-Some.s.now c.next.new.self
spread c = numbered_turn _ _ _ c.loop-i.invariant.0 _ c.in-Some.i c.in-Some.s c.in-Some.ensures.steps

pub bounds-first-i : goal.bounds-first-i
bounds-first-i c =
    let s = spread (goal.at.bounds-first-i c).In-Some in
    omega (arith, c.requires.most, length_cut (record_count c.args.spreads.now) c.args.spreads.now)

pub bounds-second-i : goal.bounds-second-i
bounds-second-i c =
    let s = spread (goal.at.bounds-second-i c).In-Some in
    omega (arith, c.requires.most, length_cut (record_count c.args.spreads.now) c.args.spreads.now)

pub charge_of_spread-charge-requires : goal.charge_of_spread-charge-requires
charge_of_spread-charge-requires c =
    let s = spread (goal.at.charge_of_spread-charge-requires c).In-Some in
    let k = length c.loop-i.yielded in
    rw (s.number, ← s.is)
    (room-from c.args.unit _ c.args.first.now c.args.second.now k (c.requires.each k (below_records c.args.spreads.now k s.there)))

pub overflow_add-sum : goal.overflow_add-sum
overflow_add-sum c =
    let s = spread (goal.at.overflow_add-sum c).In-Some in
    let t = c.loop-i.invariant.1.small in
    let h = c.requires.most in
    let n = length_cut (record_count c.args.spreads.now) c.args.spreads.now in
    let m = c.charge_of_spread-charge.ensures.1 in
    omega arith

pub loop-i-preserved : goal.loop-i-preserved
loop-i-preserved c =
    let l = c.loop-i in
    let k = length l.yielded in
    let f = c.args.spreads.now in
    let fs = c.args.first.now in
    let ss = c.args.second.now in
    let s = spread (goal.at.loop-i-preserved c).In-Some in
    let here = below_records f k s.there in
    simp length-append (
      s.passed,
      next k l.sum c.charge_of_spread-charge.result.0 l.invariant.1 s.there
          (charge_step c.args.unit (records f) (spreads_from fs) (spreads_from ss) c.requires.firsts_there c.requires.seconds_there k here
          ∙ ap (λ (x : ℕ). x + charge_from c.args.unit (records f) (spreads_from fs) (spreads_from ss) (k + 1))
          (sym (c.charge_of_spread-charge.ensures.0 ∙ rw (s.number, ← s.is, ← spread_from fs k, ← spread_from ss k) refl)))
          c.charge_of_spread-charge.ensures.1,
    )

pub returns : goal.returns
returns c =
    let l = c.loop-i in
    let k = length l.yielded in
    let f = c.args.spreads.now in
    let all = all_numbered f k l.i-iterator l.invariant.0 c.next.new.self c.in-None.ensures.steps in
    let n = length_cut (record_count f) f in
    let h = c.requires.most in
    let t = l.invariant.1.small in (
      finish k l.sum l.invariant.1 (omega arith)
          (charge_none c.args.unit (records f) (spreads_from c.args.first.now) (spreads_from c.args.second.now) k (omega arith)),
      omega arith,
    )
