-- The file with its tickets, then without the latest.
-- Assumes nothing.
use Rattle.std.specs.Prelude.{Ok, Err}
use mathlib.Core.Path.{refl, sym, ap, ◌∙◌}
use mathlib.Core.List.{List}
use Prim.Native.Nat.{◌-◌}
use Rattle.record.specs.Layout.{Record}
use Rattle.account.specs.Answers.{number_of}
use Rattle.account.specs.Records.{cut}
use Rattle.account.proofs.AcceptedOnly.{refused_some}
use Rattle.tickets.specs.Asked.{tickets_in, margin_total}
use Rattle.tickets.specs.Ticket.{with_tickets}
use Rattle.tickets.proofs.AskLaws.{holds_all, one_refused, kept_cut, but_last, nothing_left, some_left, withdraw_no_ticket, withdraw_none, withdraw_answered}
use Rattle.tickets.proofs.CountLaws.{file_ok}
use Rattle.tickets.proofs.ask.withdraw_kept.Goals as goal

pub returns-in-Err : goal.returns-in-Err
returns-in-Err c =
    let file = c.args.file.now in
    let ok = file_ok file c.args.kept.counts.account c.requires.counts.from_check in
    let t = c.in-Err.told in
    let told = one_refused file (tickets_in c.args.tickets.now) c.put_in.result c.put_in.ensures t c.in-Err.is in
    c.refused.ensures
    ∙ withdraw_no_ticket file (tickets_in c.args.tickets.now) ok t.ticket t.answer told.told told.some

pub take_back-requires : goal.take_back-requires
take_back-requires c = kept_cut c.args.file.now c.args.tickets.now c.in-Ok.held.kept (holds_all c.args.file.now (tickets_in c.args.tickets.now) c.put_in.result c.put_in.ensures c.in-Ok.held c.in-Ok.is).kept

pub returns-in-Err-take_back : goal.returns-in-Err-take_back
returns-in-Err-take_back c =
    let file = c.args.file.now in
    let bytes = c.args.tickets.now in
    let ok = file_ok file c.args.kept.counts.account c.requires.counts.from_check in
    let h = holds_all c.args.file.now (tickets_in c.args.tickets.now) c.put_in.result c.put_in.ensures c.in-Ok.held c.in-Ok.is in
    let r = c.in-Err-take_back.refusal in
    let told = c.in-Err-take_back.ensures.withdrawn.told in
    let none = nothing_left file bytes c.in-Ok.held.kept h.kept (Err r) told (refused_some refl) in
    c.refused_with.ensures
    ∙ withdraw_none file (tickets_in bytes) ok c.in-Ok.held.count (Ok tt) h.told refl (Err r) (h.many ∙ none.0) none.1

pub kept_total-requires : goal.kept_total-requires
kept_total-requires c = record { tickets = tickets_in c.args.tickets.now; kept = (holds_all c.args.file.now (tickets_in c.args.tickets.now) c.put_in.result c.put_in.ensures c.in-Ok.held c.in-Ok.is).kept }

pub kept_total-requires-in-Ok-take_back : goal.kept_total-requires-in-Ok-take_back
kept_total-requires-in-Ok-take_back c =
    let bytes = c.args.tickets.now in
    let less = c.in-Ok-take_back.ensures.withdrawn in
    record { tickets = cut (c.in-Ok.held.kept.counts.tickets - 1) bytes; kept = less.accepted }

pub returns-in-Ok-take_back : goal.returns-in-Ok-take_back
returns-in-Ok-take_back c =
    let file = c.args.file.now in
    let bytes = c.args.tickets.now in
    let ts = tickets_in bytes in
    let ok = file_ok file c.args.kept.counts.account c.requires.counts.from_check in
    let held = c.in-Ok.held in
    let h = holds_all c.args.file.now (tickets_in c.args.tickets.now) c.put_in.result c.put_in.ensures c.in-Ok.held c.in-Ok.is in
    let less = c.in-Ok-take_back.ensures.withdrawn in
    let m = held.kept.counts.tickets in
    withdraw_answered file ts ok held.count (Ok tt) h.told refl
    (λ e. some_left m (sym (ap number_of less.told)) (h.kept.counts.many ∙ sym h.many ∙ e))
    (record { ticket = held.count; answer = Ok tt; before = c.kept_total.result; after = c.kept_total-in-Ok-take_back.result })
    refl refl (c.kept_total.ensures ts h.kept)
    (c.kept_total-in-Ok-take_back.ensures (cut (m - 1) bytes) less.accepted
    ∙ ap (λ (rs : List Record). margin_total (with_tickets file rs)) (but_last file bytes held.kept h.kept))
