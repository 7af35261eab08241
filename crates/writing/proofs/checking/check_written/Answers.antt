use Prim.Native.Nat.{ℕ, ◌≤◌, ◌<◌}
use mathlib.Core.Path.{◌≡◌, ap, ap₂, subst, ◌∙◌}
use mathlib.Core.List.{List}
use native.Mathlib.Omega.{arith}
use lib.ListN.{length, get_or}
use borrow.Author.Tests.{ltb-false}
use Rattle.account.specs.Check.{most_records}
use Rattle.record.specs.Layout.{Record}
use Rattle.account.specs.code.Rates.{RatesOf}
use Rattle.account.specs.Records.{records, stretch, record_count}
use Rattle.writing.specs.code.Held.{Holdable}
use Rattle.writing.specs.Written.{written}
use Rattle.writing.proofs.Held.{reading_start, Turned, turn_holdable, turn_stops, turned, Ended, reading_ends, rates_decide}
use Rattle.writing.proofs.Placed.{long_same, cut_same, count_same}
use Rattle.writing.proofs.checking.check_written.Goals as goal
use Rattle.writing.proofs.checking.check_written.Goals.{After-asked_of-c, After-loop-k, Else-number-ne0, In-loop-k}

-- a record that is counted is one of the file
inside : (e : List ℕ) (k n : ℕ) → k < n → n ≡ record_count e → k < record_count (written e)
inside e k n h l = omega (arith, count_same e)

-- the head of the turn, and its contract's prompts find room
module _ (c : After-asked_of-c) where
  room_for : Holdable (written c.args.entries.now) c.loop-k.first c.loop-k.counts c.asked_of-c.result
  room_for =
      turn_holdable c.loop-k.invariant (inside c.args.entries.now _ _ c.loop-k-test.true c.record_count-k-end.ensures) c.entry_at-r.ensures c.asked_of-c.ensures

-- after a record without a fault: what it asked for, the head of its turn, and what the turn has done
module _ (c : Else-number-ne0) where
  passed : Turned (written c.args.entries.now) c.loop-k.first c.loop-k.counts
      c.hold.new.prompts
      c.asked_of-c.result
      c.loop-k.k
      c.entry_at-r.result.now
  passed =
      turned c.loop-k.invariant (inside c.args.entries.now _ _ c.loop-k-test.true c.record_count-k-end.ensures) c.entry_at-r.ensures c.asked_of-c.ensures c.hold.ensures
      c.entry_before.ensures c.fault_by-number.ensures c.if-number-ne0.false

-- fewer than 640 records stand before it
few-before : (c : In-loop-k) → c.loop-k.k < most_records
few-before c =
    let e = c.args.entries.now in
    omega (arith, inside e _ _ c.loop-k-test.true c.record_count-k-end.ensures, count_same e, ltb-false 61440 (length e) c.requires.1.0)

-- no record has a fault
ended : (c : After-loop-k) → Ended (written c.args.entries.now) c.loop-k.first c.loop-k.counts
ended c =
    let e = c.args.entries.now in
    let done : record_count (written e) ≤ c.loop-k.k = omega (arith, c.loop-k-test.false, c.record_count-k-end.ensures, count_same e) in
    reading_ends c.loop-k.invariant done (long_same e ∙ c.requires.1.0) (cut_same e ∙ c.requires.1.1)

pub loop-k-init : goal.loop-k-init
loop-k-init c =
    reading_start (written c.args.entries.now)

pub entry_at-r-requires : goal.entry_at-r-requires
entry_at-r-requires c =
    (c.requires.0, omega (arith, inside c.args.entries.now _ _ c.loop-k-test.true c.record_count-k-end.ensures, count_same c.args.entries.now))

pub hold-requires : goal.hold-requires
hold-requires c =
    (c.requires.0, record { holds = c.loop-k.invariant.holds; holdable = room_for (goal.at.hold-requires c).After-asked_of-c })

pub entry_before-requires : goal.entry_before-requires
entry_before-requires c =
    (c.requires.0, omega (arith, inside c.args.entries.now _ _ c.loop-k-test.true c.record_count-k-end.ensures, count_same c.args.entries.now))

pub fault_by-number-requires : goal.fault_by-number-requires
fault_by-number-requires c =
    let r = room_for (goal.at.fault_by-number-requires c).After-asked_of-c in
    (r.number, (r.few, c.hold.ensures.long))

pub returns-then-number-ne0 : goal.returns-then-number-ne0
returns-then-number-ne0 c =
    let e = c.args.entries.now in
    c.refusal_of.ensures
    ∙ turn_stops c.loop-k.invariant (inside e _ _ c.loop-k-test.true c.record_count-k-end.ensures) c.entry_at-r.ensures c.asked_of-c.ensures c.hold.ensures
    c.entry_before.ensures
    c.fault_by-number.ensures c.if-number-ne0.true (long_same e ∙ c.requires.1.0) (cut_same e ∙ c.requires.1.1)

pub note_first-requires : goal.note_first-requires
note_first-requires c =
    (omega (arith, (passed (goal.at.note_first-requires c).Else-number-ne0).part_in, c.part_of-v.ensures, c.loop-k.invariant.going.notes.firsts), few-before (goal.at.note_first-requires c).In-loop-k)

pub note_one-requires : goal.note_one-requires
note_one-requires c =
    let v = c.part_of-v.ensures in
    let same = ap (λ (v : ℕ). get_or c.loop-k.counts v 0) v in
    let done = passed (goal.at.note_one-requires c).Else-number-ne0 in
    (omega (arith, done.part_in, v, c.loop-k.invariant.going.notes.sizes), omega (arith, done.count_small, same, few-before (goal.at.note_one-requires c).In-loop-k))

pub loop-k-preserved : goal.loop-k-preserved
loop-k-preserved c =
    (passed (goal.at.loop-k-preserved c).Else-number-ne0).next c.note_first.ensures c.note_one.ensures
    c.part_of-v.ensures

pub rates_in-t-requires : goal.rates_in-t-requires
rates_in-t-requires c =
    let t = ended (goal.at.rates_in-t-requires c).After-loop-k in
    let k = c.noted.ensures in
    let n = c.noted-2.ensures in
    (c.requires.0, (omega (arith, t.few, n), omega (arith, t.within, k, n, count_same c.args.entries.now)))

pub conversions_written-requires : goal.conversions_written-requires
conversions_written-requires c =
    let w = written c.args.entries.now in
    let t = ended (goal.at.conversions_written-requires c).After-loop-k in
    let same = ap₂ (λ (x y : ℕ). records (stretch w x y)) c.noted.ensures c.noted-2.ensures in
    let rates = subst (λ (rs : List Record). RatesOf rs c.rates_in-t.result) (same ∙ t.rates) c.rates_in-t.ensures in
    (c.requires.0, record { accepted = t.accepted; rates = rates })

pub returns : goal.returns
returns c =
    c.conversions_written.ensures ∙ rates_decide (ended (goal.at.returns c).After-loop-k)
