-- What a ticket is refused for, or where it would stand, by how many rows each contract has.
-- Assumes nothing.
use Rattle.std.specs.Prelude.{Result, Ok}
use Rattle.std.proofs.lemmas.Result.{err_from_is_err_and}
use mathlib.Core.Path.{sym, ap, ◌∙◌, subst}
use Rattle.account.specs.code.Standing.{CheckedBy}
use Rattle.account.specs.declared.accounts.Account.{Account}
use Rattle.account.specs.declared.answers.Refusal.{Refusal}
use mathlib.Core.List.{[]}
use Prim.Native.Nat.{ℕ, ◌*◌, ◌≤◌}
use native.Mathlib.Omega.{arith}
use borrow.Author.Rules.{rules}
use lib.ListN.{length}
use Rattle.record.specs.Layout.{record_bytes}
use Rattle.account.specs.Answers.{Answer, and_then}
use Rattle.account.specs.Records.{records}
use Rattle.tickets.specs.Ticket.{place}
use Rattle.screen.proofs.ScreenLaws.{order_refused, ok, order_accepted}
use Rattle.screen.proofs.TicketLaws.{stands_within}
use Rattle.screen.proofs.place_order.Goals as goal

pub returns-in_err-account : goal.returns-in_err-account
returns-in_err-account c =
    let a = c.args in
    let p = err_from_is_err_and c.from_residual.result c.from_residual.ensures.1 in
    let by = subst (λ (r : Result Account Refusal). CheckedBy c.args.file.now r) c.in_err-account.was c.check_file.ensures in
    rw (p.1, p.2)
    (ap (λ (x : Answer). and_then x (Ok (place a.ticket.now (records a.file.now) * record_bytes))) (order_refused a.file.now c.in_err-account.field-0.0 by a.ticket.now))

pub counts_of-counts-requires : goal.counts_of-counts-requires
counts_of-counts-requires c =
    let by = subst (λ (r : Result Account Refusal). CheckedBy c.args.file.now r) c.in_ok-account.was c.check_file.ensures in
    (c.nothing_of-none.ensures, by)

pub check_ticket-requires : goal.check_ticket-requires
check_ticket-requires c = (c.nothing_of-none.ensures, record { tickets = []; counts = c.counts_of-counts.ensures })

pub returns-in_err-check_ticket : goal.returns-in_err-check_ticket
returns-in_err-check_ticket c =
    let a = c.args in
    let p = err_from_is_err_and c.from_residual-in_err-check_ticket.result c.from_residual-in_err-check_ticket.ensures.1 in
    let by = subst (λ (r : Result Account Refusal). CheckedBy c.args.file.now r) c.in_ok-account.was c.check_file.ensures in
    rw (p.1, p.2)
    (ap (λ (x : Answer). and_then x (Ok (place a.ticket.now (records a.file.now) * record_bytes)))
    (sym c.in_err-check_ticket.was ∙ c.check_ticket.ensures [] c.counts_of-counts.ensures ∙ sym (order_accepted a.file.now c.in_ok-account.account by a.ticket.now)))

pub ticket_place-requires : goal.ticket_place-requires
ticket_place-requires c = record { tickets = []; counts = c.counts_of-counts.ensures }

pub overflow_mul-result : goal.overflow_mul-result
overflow_mul-result c =
    let file = c.args.file.now in
    let by = subst (λ (r : Result Account Refusal). CheckedBy c.args.file.now r) c.in_ok-account.was c.check_file.ensures in
    let e = c.ticket_place.ensures [] c.counts_of-counts.ensures in
    let w = stands_within file c.args.ticket.now (ok file c.in_ok-account.account by) in
    let small : c.ticket_place.result * record_bytes ≤ length file = omega (arith, e, w) in
    search (rules, small)

pub returns : goal.returns
returns c =
    let a = c.args in
    let by = subst (λ (r : Result Account Refusal). CheckedBy c.args.file.now r) c.in_ok-account.was c.check_file.ensures in
    let k = c.counts_of-counts.ensures in
    let fine = order_accepted a.file.now c.in_ok-account.account by a.ticket.now ∙ sym (c.check_ticket.ensures [] k) ∙ c.in_ok-check_ticket.was in
    ap (λ (n : ℕ). Ok (n * record_bytes)) (c.ticket_place.ensures [] k)
    ∙ sym (ap (λ (x : Answer). and_then x (Ok (place a.ticket.now (records a.file.now) * record_bytes))) fine)
