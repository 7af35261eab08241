-- The file with its tickets, then one more.
-- Assumes nothing.
use Rattle.std.specs.Prelude.{Ok, Err}
use mathlib.Core.Path.{refl, ap, ◌∙◌}
use mathlib.Core.List.{[], ◌∷◌, ◌++◌}
use Prim.Native.Nat.{◌+◌}
use native.Mathlib.Omega.{arith}
use Rattle.account.proofs.AcceptedOnly.{refused_some}
use Rattle.tickets.specs.Asked.{tickets_in, margin_total}
use Rattle.tickets.proofs.AskLaws.{holds_all, one_refused, few_tickets, ask_no_ticket, ask_refused, ask_answered}
use Rattle.tickets.proofs.CountLaws.{file_ok}
use Rattle.tickets.proofs.Taken.{tickets_last}
use Rattle.tickets.proofs.ask.ask_kept.Goals as goal

pub returns-in-Err : goal.returns-in-Err
returns-in-Err c =
    let file = c.args.file.now in
    let ok = file_ok file c.args.kept.counts.account c.requires.counts.from_check in
    let t = c.in-Err.told in
    let told = one_refused file (tickets_in c.args.tickets.now) c.put_in.result c.put_in.ensures t c.in-Err.is in
    c.refused.ensures
    ∙ ask_no_ticket file (tickets_in c.args.tickets.now) ok t.ticket t.answer told.told told.some c.args.ticket.now

pub put-requires : goal.put-requires
put-requires c = record { tickets = tickets_in c.args.tickets.now; kept = (holds_all c.args.file.now (tickets_in c.args.tickets.now) c.put_in.result c.put_in.ensures c.in-Ok.held c.in-Ok.is).kept }

pub overflow_add-held : goal.overflow_add-held
overflow_add-held c =
    let h = holds_all c.args.file.now (tickets_in c.args.tickets.now) c.put_in.result c.put_in.ensures c.in-Ok.held c.in-Ok.is in
    omega (arith, h.many, few_tickets c.args.file.now c.args.tickets.now c.in-Ok.held.kept h.kept)

pub returns-in-Err-put : goal.returns-in-Err-put
returns-in-Err-put c =
    let file = c.args.file.now in
    let ts = tickets_in c.args.tickets.now in
    let ok = file_ok file c.args.kept.counts.account c.requires.counts.from_check in
    let h = holds_all c.args.file.now (tickets_in c.args.tickets.now) c.put_in.result c.put_in.ensures c.in-Ok.held c.in-Ok.is in
    let r = c.in-Err-put.refusal in
    c.refused_with.ensures
    ∙ ask_refused file ts ok c.in-Ok.held.count (Ok tt) h.told refl c.args.ticket.now (Err r)
    (c.in-Err-put.ensures.added.told ts h.kept) (refused_some refl)

pub overflow_add-result : goal.overflow_add-result
overflow_add-result c =
    let h = holds_all c.args.file.now (tickets_in c.args.tickets.now) c.put_in.result c.put_in.ensures c.in-Ok.held c.in-Ok.is in
    omega (arith, h.many, few_tickets c.args.file.now c.args.tickets.now c.in-Ok.held.kept h.kept)

pub kept_total-requires : goal.kept_total-requires
kept_total-requires c = record { tickets = tickets_in c.args.tickets.now; kept = (holds_all c.args.file.now (tickets_in c.args.tickets.now) c.put_in.result c.put_in.ensures c.in-Ok.held c.in-Ok.is).kept }

pub kept_total-requires-in-Ok-put : goal.kept_total-requires-in-Ok-put
kept_total-requires-in-Ok-put c =
    let ts = tickets_in c.args.tickets.now in
    record { tickets = ts ++ c.args.ticket.now ∷ []; kept = c.in-Ok-put.ensures.added.accepted ts (holds_all c.args.file.now (tickets_in c.args.tickets.now) c.put_in.result c.put_in.ensures c.in-Ok.held c.in-Ok.is).kept }

pub returns-in-Ok-put : goal.returns-in-Ok-put
returns-in-Ok-put c =
    let file = c.args.file.now in
    let ts = tickets_in c.args.tickets.now in
    let ok = file_ok file c.args.kept.counts.account c.requires.counts.from_check in
    let h = holds_all c.args.file.now (tickets_in c.args.tickets.now) c.put_in.result c.put_in.ensures c.in-Ok.held c.in-Ok.is in
    let t = c.args.ticket.now in
    ask_answered file ts ok c.in-Ok.held.count (Ok tt) h.told refl t (Ok tt)
    (c.in-Ok-put.ensures.added.told ts h.kept) refl
    (record { ticket = c.in-Ok.held.count + 1; answer = Ok tt; before = c.kept_total.result; after = c.kept_total-in-Ok-put.result })
    refl refl (c.kept_total.ensures ts h.kept)
    (c.kept_total-in-Ok-put.ensures (ts ++ t ∷ []) (c.in-Ok-put.ensures.added.accepted ts h.kept) ∙ ap margin_total (tickets_last file ts t))
