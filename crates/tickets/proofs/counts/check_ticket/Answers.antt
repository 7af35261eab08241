-- The refusals in their order, each as the counts tell it.
-- Assumes nothing.
use Rattle.std.proofs.lemmas.Result.{err_from_is_err_and}
use mathlib.Core.Path.{◌≡◌, sym, ap, ◌∙◌, subst}
use mathlib.Core.List.{List}
use Prim.Native.Nat.{ℕ, ◌+◌}
use native.Mathlib.Omega.{arith}
use lib.ListN.{take}
use Rattle.exact.specs.Lists.{sum}
use Rattle.record.specs.Layout.{Record, contract}
use Rattle.account.specs.Answers.{number_of}
use Rattle.account.proofs.AcceptedOnly.{refused_some}
use Rattle.account.specs.Parts.{rates_of}
use Rattle.account.specs.code.Rates.{RatesOf}
use Rattle.account.specs.Records.{records}
use Rattle.tickets.specs.Ticket.{with_tickets}
use Rattle.tickets.specs.declared.counts.Counts.{Counts}
use Rattle.tickets.proofs.CountLaws.{small, stands_in, many_few, by_counts_lem, row_within_here, rates_read, rates_fit, told_by, tell_2, tell_3, tell_row}
use Rattle.tickets.proofs.CountLaws.{tell_rate, tell_1, tell_0}
use Rattle.tickets.proofs.counts.check_ticket.Goals as goal

-- the place, by the ticket's own byte
at : (k : Counts) (t : Record) (p n : ℕ) → n ≡ contract t → p ≡ k.above + sum (take (n + 1) k.rows) → p ≡ k.above + sum (take (contract t + 1) k.rows)
at k t p n e f = f ∙ ap (λ (i : ℕ). k.above + sum (take (i + 1) k.rows)) e

pub returns-then-ticket-ne-RECORD_BYTES : goal.returns-then-ticket-ne-RECORD_BYTES
returns-then-ticket-ne-RECORD_BYTES c =
    let a = c.args in
    λ ts co. tell_2 a.file.now ts a.counts co a.ticket.now c.if-ticket-ne-RECORD_BYTES.true

pub place_of-k-requires : goal.place_of-k-requires
place_of-k-requires c =
    let p = c.requires.1 in
    (small c.args.file.now p.tickets c.args.counts p.counts, c.contract-c.ensures.1)

pub returns-then-kind-ne3 : goal.returns-then-kind-ne3
returns-then-kind-ne3 c =
    let a = c.args in
    λ ts co.
    tell_3 a.file.now ts a.counts co a.ticket.now c.place_of-k.result
    (at a.counts a.ticket.now c.place_of-k.result c.contract-c.result
    c.contract-c.ensures.0 c.place_of-k.ensures)
    c.if-ticket-ne-RECORD_BYTES.false (λ e. c.if-kind-ne3.true (c.kind.ensures.0 ∙ e))

pub row_fault-number-requires : goal.row_fault-number-requires
row_fault-number-requires c =
    let p = c.requires.1 in (
      stands_in c.args.file.now c.args.counts.account p.counts.from_check c.args.none.now c.requires.0,
      sym c.kind.ensures.0 ∙ c.if-kind-ne3.false,
    )

pub returns-then-number-ne0 : goal.returns-then-number-ne0
returns-then-number-ne0 c =
    let a = c.args in
    let t = a.ticket.now in
    λ ts co.
    c.refusal_of.ensures
    ∙ tell_row a.file.now ts a.counts co t a.none.now c.requires.0
    c.if-ticket-ne-RECORD_BYTES.false
    (sym c.kind.ensures.0 ∙ c.if-kind-ne3.false)
    c.place_of-k.result c.row_fault-number.result
    (at a.counts t c.place_of-k.result
    c.contract-c.result
    c.contract-c.ensures.0
    c.place_of-k.ensures)
    (by_counts_lem a.file.now ts a.counts co t a.none.now c.row_fault-number.result c.number_at.result
    c.contract-c.result
    c.row_fault-number.ensures c.number_at.ensures
    c.contract-c.ensures.0)
    c.if-number-ne0.true

pub part-rates-requires : goal.part-rates-requires
part-rates-requires c =
    let p = c.requires.1 in
    stands_in c.args.file.now c.args.counts.account p.counts.from_check c.args.none.now c.requires.0

pub row_answer-requires : goal.row_answer-requires
row_answer-requires c =
    let a = c.args in
    let t = a.ticket.now in
    let x = c.requires.1 in
    let co = x.counts in
    let row = sym c.kind.ensures.0 ∙ c.if-kind-ne3.false in
    let e = rates_read a.file.now x.tickets a.counts co a.none.now c.requires.0 c.part-rates.result.now c.part-rates.ensures in (
      record {
        is_row = row;
        within =
            row_within_here a.file.now x.tickets a.counts co t a.none.now c.requires.0
            c.if-ticket-ne-RECORD_BYTES.false row
            c.row_fault-number.result
            (by_counts_lem a.file.now x.tickets a.counts co t a.none.now c.row_fault-number.result
            c.number_at.result
            c.contract-c.result
            c.row_fault-number.ensures c.number_at.ensures
            c.contract-c.ensures.0)
            c.if-number-ne0.false;
      },
      record {
        rates = rates_of (records (with_tickets a.file.now x.tickets));
        held = subst (λ (rs : List Record). RatesOf rs c.rates_of.result) e c.rates_of.ensures;
        within = rates_fit a.file.now x.tickets a.counts co;
      },
    )

pub returns-in_err-row_answer : goal.returns-in_err-row_answer
returns-in_err-row_answer c =
    let a = c.args in
    let t = a.ticket.now in
    let p = err_from_is_err_and c.from_residual.result c.from_residual.ensures.1 in
    λ ts co.
    rw (p.1, p.2) (sym c.in_err-row_answer.was ∙ tell_rate a.file.now ts a.counts co t a.none.now c.requires.0
    c.if-ticket-ne-RECORD_BYTES.false
    (sym c.kind.ensures.0 ∙ c.if-kind-ne3.false)
    c.row_fault-number.result
    (by_counts_lem a.file.now ts a.counts co t a.none.now c.row_fault-number.result
    c.number_at.result
    c.contract-c.result
    c.row_fault-number.ensures
    c.number_at.ensures
    c.contract-c.ensures.0)
    c.if-number-ne0.false
    c.place_of-k.result
    (at a.counts t c.place_of-k.result
    c.contract-c.result
    c.contract-c.ensures.0
    c.place_of-k.ensures)
    c.row_answer.result
    (told_by a.file.now ts a.counts co t a.none.now c.requires.0 c.part-rates.result.now
    c.part-rates.ensures c.rates_of.result
    c.rates_of.ensures
    c.place_of-k.result
    c.row_answer.result c.row_answer.ensures)
    (refused_some (sym c.in_err-row_answer.was)))

pub overflow_add-record_total : goal.overflow_add-record_total
overflow_add-record_total c =
    let p = c.requires.1 in
    omega (arith, c.record_total.ensures, many_few c.args.file.now p.tickets c.args.counts p.counts)

pub returns-then-record_total-counts-ge-MOST_RECORDS : goal.returns-then-record_total-counts-ge-MOST_RECORDS
returns-then-record_total-counts-ge-MOST_RECORDS c =
    let a = c.args in
    let t = a.ticket.now in
    λ ts co.
    tell_1 a.file.now ts a.counts co t a.none.now c.requires.0
    c.if-ticket-ne-RECORD_BYTES.false
    (sym c.kind.ensures.0 ∙ c.if-kind-ne3.false)
    c.row_fault-number.result
    (by_counts_lem a.file.now ts a.counts co t a.none.now
    c.row_fault-number.result
    c.number_at.result
    c.contract-c.result
    c.row_fault-number.ensures
    c.number_at.ensures
    c.contract-c.ensures.0)
    c.if-number-ne0.false
    c.place_of-k.result c.row_answer.result
    (told_by a.file.now ts a.counts co t a.none.now c.requires.0
    c.part-rates.result.now
    c.part-rates.ensures
    c.rates_of.result c.rates_of.ensures
    c.place_of-k.result c.row_answer.result c.row_answer.ensures)
    (ap number_of c.in_ok-row_answer.was)
    (omega (arith, c.if-record_total-counts-ge-MOST_RECORDS.true, c.record_total.ensures))

pub returns : goal.returns
returns c =
    let a = c.args in
    let t = a.ticket.now in
    λ ts co.
    tell_0 a.file.now ts a.counts co t a.none.now c.requires.0
    c.if-ticket-ne-RECORD_BYTES.false
    (sym c.kind.ensures.0 ∙ c.if-kind-ne3.false)
    c.row_fault-number.result
    (by_counts_lem a.file.now ts a.counts co t a.none.now
    c.row_fault-number.result
    c.number_at.result
    c.contract-c.result
    c.row_fault-number.ensures
    c.number_at.ensures
    c.contract-c.ensures.0)
    c.if-number-ne0.false
    c.place_of-k.result c.row_answer.result
    (told_by a.file.now ts a.counts co t a.none.now c.requires.0
    c.part-rates.result.now
    c.part-rates.ensures
    c.rates_of.result c.rates_of.ensures
    c.place_of-k.result c.row_answer.result c.row_answer.ensures)
    (ap number_of c.in_ok-row_answer.was)
    (omega (arith, c.if-record_total-counts-ge-MOST_RECORDS.false, c.record_total.ensures))
