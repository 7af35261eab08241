use mathlib.Core.Path.{◌≡◌, sym, ◌∙◌}
use native.Mathlib.Omega.{arith}
use lib.ListN.{length, length-map}
use Rattle.std.proofs.Common.{length-append}
use Rattle.spread.specs.Accepted.{spread_places}
use Rattle.spread.specs.code.Lent.{spreads_from}
use Rattle.account.specs.Records.{records, record_count}
use Rattle.formulas.proofs.LentLaws.{spread_from}
use Rattle.formulas.proofs.RecordLaws.{below_records, length_cut}
use Rattle.formulas.proofs.EarnedLaws.{walk_next, walk_all}
use Rattle.formulas.proofs.ChunkLaws.{NumberedTurn, numbered_turn, all_numbered}
use Rattle.formulas.proofs.charges.credits.Goals as goal
use Rattle.formulas.proofs.charges.credits.Goals.{In-Some}

-- the entry of a turn
entry : (c : In-Some) → NumberedTurn c.args.entries.now (length c.loop-i.yielded) c.in-Some.i c.in-Some.e.now c.next.new.self
entry c = numbered_turn _ _ _ c.loop-i.invariant.0 _ c.in-Some.i c.in-Some.e c.in-Some.ensures.steps

pub bounds-first-i : goal.bounds-first-i
bounds-first-i c =
    let e = entry (goal.at.bounds-first-i c).In-Some in
    omega (arith, c.requires.0.most, length_cut (record_count c.args.entries.now) c.args.entries.now)

pub bounds-second-i : goal.bounds-second-i
bounds-second-i c =
    let e = entry (goal.at.bounds-second-i c).In-Some in
    omega (arith, c.requires.0.most, length_cut (record_count c.args.entries.now) c.args.entries.now)

pub add_credits-requires : goal.add_credits-requires
add_credits-requires c =
    let l = c.loop-i in
    let k = length l.yielded in
    let f = c.args.entries.now in
    let e = entry (goal.at.add_credits-requires c).In-Some in
    let few = c.requires.0.most in
    let n = length_cut (record_count f) f in (
      rw (e.number, ← e.is, ← spread_from c.args.first.now k, ← spread_from c.args.second.now k) (c.requires.0.each k (below_records f k e.there)),
      record { places = l.invariant.1.places; most = λ i h. let t = (l.invariant.1.each i h).small in omega arith },
    )

pub loop-i-preserved : goal.loop-i-preserved
loop-i-preserved c =
    let l = c.loop-i in
    let k = length l.yielded in
    let f = c.args.entries.now in
    let first = c.args.first.now in
    let second = c.args.second.now in
    let e = entry (goal.at.loop-i-preserved c).In-Some in
    let n = length_cut (record_count f) f in
    let few = c.requires.0.most in
    let firsts : length (spreads_from first) ≡ spread_places = length-map first _ ∙ c.requires.1.0 in
    let seconds : length (spreads_from second) ≡ spread_places = length-map second _ ∙ c.requires.1.1 in
    simp length-append (
      e.passed,
      walk_next c.args.units.now c.args.prices.now c.args.nets.now (records f) (spreads_from first) (spreads_from second) (record_count f) k
          l.earned c.add_credits.new.earned (sym n) (omega arith) (omega arith) e.there l.invariant.1
          (rw (e.is, spread_from first k, spread_from second k, ← e.number) c.add_credits.ensures),
    )

pub returns : goal.returns
returns c =
    let l = c.loop-i in
    let k = length l.yielded in
    let f = c.args.entries.now in
    let all = all_numbered f k l.i-iterator l.invariant.0 c.next.new.self c.in-None.ensures.steps in
    let n = length_cut (record_count f) f in
    let few = c.requires.0.most in
    walk_all c.args.units.now c.args.prices.now c.args.nets.now (records f) (spreads_from c.args.first.now)
    (spreads_from c.args.second.now) (record_count f) k l.earned (sym n) (omega arith) (omega arith) l.invariant.1
