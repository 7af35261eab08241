-- The total with a ticket, by the kept account, where nothing is refused.
-- Assumes nothing.
use Rattle.std.specs.Prelude.{Result, Ok}
use Rattle.std.proofs.lemmas.Result.{err_from_is_err_and}
use mathlib.Core.Path.{sym, ap, ◌∙◌, subst}
use Rattle.account.specs.code.Standing.{CheckedBy}
use Rattle.account.specs.declared.accounts.Account.{Account}
use Rattle.account.specs.declared.answers.Refusal.{Refusal}
use Prim.Native.Nat.{ℕ}
use mathlib.Core.List.{[], ◌∷◌}
use Rattle.account.specs.Answers.{Answer, and_then}
use Rattle.account.specs.Records.{records}
use Rattle.margin.specs.Figures.{account_total}
use Rattle.tickets.specs.Ticket.{with_ticket}
use Rattle.screen.specs.Screen.{amount_of}
use Rattle.screen.proofs.ScreenLaws.{order_refused, order_accepted}
use Rattle.screen.proofs.ask_order.Goals as goal

pub returns-in_err-account : goal.returns-in_err-account
returns-in_err-account c =
    let a = c.args in
    let p = err_from_is_err_and c.from_residual.result c.from_residual.ensures.1 in
    let by = subst (λ (r : Result Account Refusal). CheckedBy c.args.file.now r) c.in_err-account.was c.check_file.ensures in
    rw (p.1, p.2)
    (ap (λ (x : Answer). and_then x (Ok (amount_of (account_total (records (with_ticket a.file.now a.ticket.now))))))
    (order_refused a.file.now c.in_err-account.field-0.0 by a.ticket.now))

pub keep-kept-requires : goal.keep-kept-requires
keep-kept-requires c =
    subst (λ (r : Result Account Refusal). CheckedBy c.args.file.now r) c.in_ok-account.was c.check_file.ensures

pub put-requires : goal.put-requires
put-requires c = record { tickets = []; kept = c.keep-kept.ensures }

pub returns-in_err-put : goal.returns-in_err-put
returns-in_err-put c =
    let a = c.args in
    let p = err_from_is_err_and c.from_residual-in_err-put.result c.from_residual-in_err-put.ensures.1 in
    let by = subst (λ (r : Result Account Refusal). CheckedBy c.args.file.now r) c.in_ok-account.was c.check_file.ensures in
    rw (p.1, p.2)
    (ap (λ (x : Answer). and_then x (Ok (amount_of (account_total (records (with_ticket a.file.now a.ticket.now))))))
    (c.in_err-put.ensures.added.told [] c.keep-kept.ensures ∙ sym (order_accepted a.file.now c.in_ok-account.account by a.ticket.now)))

pub kept_total-requires : goal.kept_total-requires
kept_total-requires c =
    let added = c.in_ok-put.ensures.added in
    record { tickets = c.args.ticket.now ∷ []; kept = added.accepted [] c.keep-kept.ensures }

pub returns : goal.returns
returns c =
    let a = c.args in
    let by = subst (λ (r : Result Account Refusal). CheckedBy c.args.file.now r) c.in_ok-account.was c.check_file.ensures in
    let added = c.in_ok-put.ensures.added in
    let fine = order_accepted a.file.now c.in_ok-account.account by a.ticket.now ∙ sym (added.told [] c.keep-kept.ensures) in
    ap (λ (n : ℕ). Ok (amount_of n)) (c.kept_total.ensures (a.ticket.now ∷ []) (added.accepted [] c.keep-kept.ensures))
    ∙ sym (ap (λ (x : Answer). and_then x (Ok (amount_of (account_total (records (with_ticket a.file.now a.ticket.now)))))) fine)
