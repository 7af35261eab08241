use Prim.Native.Nat.{ℕ, ◌+◌, ◌<◌}
use native.Mathlib.Nat.{zero-add}
use Rattle.std.proofs.lemmas.Result.{err_from_is_err_and}
use Rattle.account.proofs.AcceptedOnly.{refused_some}
use mathlib.Core.Path.{◌≡◌, sym, ap, subst, ◌∙◌}
use mathlib.Core.List.{List}
use native.Mathlib.Omega.{arith}
use Rattle.record.specs.Layout.{Record, kind}
use Rattle.account.specs.Answers.{number_of}
use Rattle.account.specs.Conversions.{row_answer, Row}
use Rattle.account.specs.Parts.{rates_of}
use Rattle.account.specs.Records.{records, record_at, record_count}
use Rattle.account.proofs.Lawful.{recorded}
use Rattle.account.proofs.RateLaws.{rows_next, rows_stop, rows_end}
use Rattle.writing.specs.Written.{written}
use Rattle.writing.proofs.Held.{row_at}
use Rattle.writing.proofs.Placed.{count_same}
use Rattle.writing.proofs.checking.conversions_written.Goals as goal
use Rattle.writing.proofs.checking.conversions_written.Goals.{After-answer_at, In-loop-k}

-- the record is one of the file
within : (c : In-loop-k) → c.loop-k.k < record_count (written c.args.entries.now)
within c = omega (arith, c.loop-k-test.true, c.record_count-k-end.ensures, count_same c.args.entries.now)

-- the head of the turn, its record's place, the file, its rates, and what the record answers
module _ (c : After-answer_at) where
  abbrev k : ℕ
  k = c.loop-k.k

  abbrev file : List ℕ
  file = written c.args.entries.now

  abbrev rates : List Record
  rates = rates_of (records file)

  answered : c.answer_at.result ≡ row_answer rates (0 + k) (record_at file k)
  answered =
      c.answer_at.ensures rates c.requires.1.rates (recorded file c.requires.1.accepted).ranges.rates
      ∙ ap (row_answer rates k) c.entry_at.ensures
      ∙ ap (λ (n : ℕ). row_answer rates n (record_at file k)) (sym (zero-add k))

pub answer_at-requires : goal.answer_at-requires
answer_at-requires c =
    let w = written c.args.entries.now in
    let row = row_at w c.requires.1.accepted c.loop-k.k (within (goal.at.answer_at-requires c).In-loop-k) in (
      subst (λ (r : Record). kind r ≡ 3 → Row r) (sym c.entry_at.ensures) row,
      record { rates = rates_of (records w); held = c.requires.1.rates; within = (recorded w c.requires.1.accepted).ranges.rates },
    )

pub returns-in_err-answer_at : goal.returns-in_err-answer_at
returns-in_err-answer_at c =
    let q = (goal.at.returns-in_err-answer_at c).After-answer_at in
    let e = sym c.in_err-answer_at.was ∙ answered q in
    let p = err_from_is_err_and c.from_residual.result c.from_residual.ensures.1 in
    rw (p.1, p.2)
    (e
    ∙ sym (c.loop-k.invariant ∙ rows_stop (rates q) 0 (file q) (k q) (within (goal.at.returns-in_err-answer_at c).In-loop-k) (refused_some e)))

pub loop-k-preserved : goal.loop-k-preserved
loop-k-preserved c =
    let p = (goal.at.loop-k-preserved c).After-answer_at in
    c.loop-k.invariant
    ∙ rows_next (rates p) 0 (file p) (k p) (within (goal.at.loop-k-preserved c).In-loop-k)
    (ap number_of (sym (answered p) ∙ c.in_ok-answer_at.was))

pub returns : goal.returns
returns c =
    let l = c.loop-k in
    let e = c.args.entries.now in
    let w = written e in
    sym (l.invariant ∙ rows_end (rates_of (records w)) 0 w l.k (omega (arith, c.loop-k-test.false, c.record_count-k-end.ensures, count_same e)))
