use Rattle.std.proofs.lemmas.Result.{err_from_is_err_and}
use Prim.Native.Nat.{◌+◌}
use native.Mathlib.Omega.{arith}
use mathlib.Core.Path.{◌≡◌, sym, ap, ◌∙◌, subst⁻¹}
use Rattle.account.specs.Answers.{number_of}
use Rattle.account.specs.Conversions.{row_answer, Row}
use Rattle.account.specs.Records.{records, record_at, record_count}
use Rattle.account.proofs.AcceptedOnly.{refused_some}
use Rattle.account.proofs.Orders.{every_at, cut_at}
use Rattle.account.proofs.RateLaws.{rows_start, rows_next, rows_stop, rows_end}
use Rattle.account.proofs.Walk.{length_cut}
use Rattle.account.proofs.conversions.rows_answer.Goals as goal

pub loop-i-init : goal.loop-i-init
loop-i-init c rates of each = rows_start rates c.args.k c.args.rows.now

pub whole_at-requires : goal.whole_at-requires
whole_at-requires c = omega (arith, c.loop-i-test.true, c.record_count-i-end.ensures)

pub overflow_add-k : goal.overflow_add-k
overflow_add-k c =
    omega (arith, c.loop-i-test.true, c.record_count-i-end.ensures, c.requires.1.1, c.well_formed)

pub row_answer-requires : goal.row_answer-requires
row_answer-requires c =
    let rows = c.args.rows.now in
    let i = c.loop-i.i in
    let n = c.record_count-i-end.ensures in
    let h = c.loop-i-test.true in (
      subst⁻¹ Row (c.whole_at.ensures ∙ sym (cut_at (record_count rows) i rows (omega (arith, h, n))))
          (every_at Row (records rows) c.requires.0 i (omega (arith, h, n, length_cut (record_count rows) rows))),
      c.requires.1.0,
    )

pub returns-in_err-row_answer : goal.returns-in_err-row_answer
returns-in_err-row_answer c rates of each =
    let l = c.loop-i in
    let rows = c.args.rows.now in
    let k = c.args.k + l.i in
    let p = err_from_is_err_and c.from_residual.result c.from_residual.ensures.1 in
    let a : c.row_answer.result ≡ row_answer rates k (record_at rows l.i) =
    c.row_answer.ensures rates of each ∙ ap (row_answer rates k) c.whole_at.ensures in
    let e = sym c.in_err-row_answer.was ∙ a in
    rw (p.1, p.2)
    (e
    ∙ sym (l.invariant rates of each
    ∙ rows_stop rates c.args.k rows l.i
    (omega (arith, c.loop-i-test.true, c.record_count-i-end.ensures)) (refused_some e)))

pub loop-i-preserved : goal.loop-i-preserved
loop-i-preserved c rates of each =
    let l = c.loop-i in
    let rows = c.args.rows.now in
    let k = c.args.k + l.i in
    let a : c.row_answer.result ≡ row_answer rates k (record_at rows l.i) =
    c.row_answer.ensures rates of each ∙ ap (row_answer rates k) c.whole_at.ensures in
    l.invariant rates of each
    ∙ rows_next rates c.args.k rows l.i (omega (arith, c.loop-i-test.true, c.record_count-i-end.ensures))
    (ap number_of (sym a ∙ c.in_ok-row_answer.was))

pub returns : goal.returns
returns c rates of each =
    let l = c.loop-i in
    sym (l.invariant rates of each ∙ rows_end rates c.args.k c.args.rows.now l.i
    (omega (arith, c.loop-i-test.false, c.record_count-i-end.ensures)))
