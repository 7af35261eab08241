-- Request 2026-07: "A dealer asks what one more row does to an account." The margin before and after a ticket, and before and after a
-- withdrawal, over plain bytes: a file, the tickets put in so far, and the one asked about.
-- Assumes nothing.
use Rattle.std.specs.Prelude.{ℕ, ◌+◌, ◌-◌, ◌/◌, cond, List, [], ◌∷◌, eqb, length, take, Ok, Err}
use Rattle.record.specs.Layout.{Record, record_bytes}
use Rattle.account.specs.Checked.{checked}
use Rattle.account.specs.Records.{records, cut}
use Rattle.account.specs.Answers.{Answer}
use Rattle.account.specs.declared.answers.Refusal.TheVariants.{NoTicketLeft}
use Rattle.margin.specs.Figures.{account_total}
use Rattle.margin.specs.Questions.{not_refused}
use Rattle.tickets.specs.Ticket.{with_ticket, with_tickets, ticket_checked}
use Rattle.tickets.specs.declared.ask.Asked.{Asked}
use Rattle.tickets.specs.declared.ask.Ticketed.{Ticketed}

-- tickets one after the other, 96 bytes each; what is left at the end is a ticket too
abbrev pub tickets_in : List ℕ → List Record
tickets_in bytes = cut ((length bytes + (record_bytes - 1)) / record_bytes) bytes

-- what is told, and of which ticket, from 1; 0 is the file
abbrev pub of : ℕ → Answer → Ticketed
of n a = record { ticket = n; answer = a }

-- tickets in turn, each put in where it is accepted: the first refusal, or how many there are
abbrev pub one_by_one : ℕ → List ℕ → List Record → Ticketed
one_by_one n file [] = of n (Ok tt)
one_by_one n file (ticket ∷ tickets) =
    cond (not_refused (ticket_checked file ticket)) (one_by_one (n + 1) (with_ticket file ticket) tickets) (of (n + 1) (ticket_checked file ticket))

-- a file and its tickets
abbrev pub standing : List ℕ → List Record → Ticketed
standing file tickets = cond (not_refused (checked file)) (one_by_one 0 file tickets) (of 0 (checked file))

abbrev pub margin_total : List ℕ → ℕ
margin_total file = account_total (records file)

-- a refusal comes with no totals
abbrev pub refused_by : Ticketed → Asked
refused_by v = record { ticket = v.ticket; answer = v.answer; before = record { 0 = 0 }; after = record { 0 = 0 } }

abbrev pub answered_by : ℕ → ℕ → ℕ → Asked
answered_by n before after = record { ticket = n; answer = Ok tt; before = record { 0 = before }; after = record { 0 = after } }

-- one ticket more
abbrev pub asked_about : List ℕ → List Record → Record → Asked
asked_about file tickets ticket =
    let v = standing file tickets in
    let held = with_tickets file tickets in
    cond (not_refused v.answer)
    (cond (not_refused (ticket_checked held ticket))
    (answered_by (v.ticket + 1) (margin_total held) (margin_total (with_ticket held ticket)))
    (refused_by (of (v.ticket + 1) (ticket_checked held ticket))))
    (refused_by v)

-- the latest ticket withdrawn; 22: "a withdrawal with no ticket left"
abbrev pub withdrawn_from : List ℕ → List Record → Asked
withdrawn_from file tickets =
    let v = standing file tickets in
    cond (not_refused v.answer)
    (cond (eqb v.ticket 0) (refused_by (of 0 (Err NoTicketLeft)))
    (answered_by v.ticket (margin_total (with_tickets file tickets)) (margin_total (with_tickets file (take (length tickets - 1) tickets)))))
    (refused_by v)
