-- Request 2026-14, "The order screen's limit": what each call answers, and what the lent bytes hold afterwards.
-- Assumes nothing.
use Rattle.std.specs.Prelude.{ℕ, ◌+◌, Bool, cond, List, ◌++◌, leb, ltb, ℤ, pos, nat_abs, length, take, drop, Result, Ok, Err}
use Rattle.std.specs.Int.Signed.{lt_z}
use Rattle.record.specs.Layout.{Record, record_bytes}
use Rattle.account.specs.Checked.{checked}
use Rattle.account.specs.Records.{records}
use Rattle.account.specs.Answers.{Answer, and_then}
use Rattle.account.specs.declared.answers.Refusal.{Refusal}
use Rattle.account.specs.declared.answers.Refusal.TheVariants.{TooFewBytes, LimitBelowZero}
use Rattle.margin.specs.Figures.{account_total}
use Rattle.margin.specs.Questions.{not_refused, if_accepted}
use Rattle.formulas.specs.declared.amount.Amount.{Amount}
use Rattle.tickets.specs.Ticket.{with_ticket, ticket_checked}
use Rattle.screen.specs.declared.Limited.{Limited}
use Rattle.screen.specs.declared.Limited.TheVariants.{Within, Over}

-- "The screen lends bytes, says how many hold the account file with its tickets"
abbrev pub held : List ℕ → ℕ → List ℕ
held lent named = take named lent

-- "load an account": "16, more bytes named than lent; then 01's as amended for the account held"
abbrev pub load_answer : List ℕ → ℕ → Answer
load_answer lent named = cond (ltb (length lent) named) (Err TooFewBytes) (checked (held lent named))

-- "then 2026-07's for the ticket"
abbrev pub order_answer : List ℕ → ℕ → Record → Answer
order_answer lent named ticket = if_accepted (load_answer lent named) (ticket_checked (held lent named) ticket)

-- ---- "add a ticket"

-- "16, adding without room for it"
abbrev pub no_room : List ℕ → ℕ → Bool
no_room lent named = ltb (length lent) (named + record_bytes)

abbrev pub add_answer : List ℕ → ℕ → Record → Answer
add_answer lent named ticket = if_accepted (order_answer lent named ticket) (cond (no_room lent named) (Err TooFewBytes) (Ok tt))

-- the held file with the ticket; what is lent after it stays. A refusal changes nothing.
abbrev pub after_add : List ℕ → ℕ → Record → List ℕ
after_add lent named ticket =
    cond (not_refused (add_answer lent named ticket)) (with_ticket (held lent named) ticket ++ drop (named + record_bytes) lent) lent

-- how many bytes hold the account file then
abbrev pub added : List ℕ → ℕ → Record → Result ℕ Refusal
added lent named ticket = and_then (add_answer lent named ticket) (Ok (named + record_bytes))

-- ---- "read the total"

abbrev pub amount_of : ℕ → Amount
amount_of n = record { 0 = n }

abbrev pub total_held : List ℕ → ℕ → ℕ
total_held lent named = account_total (records (held lent named))

abbrev pub total_read : List ℕ → ℕ → Result Amount Refusal
total_read lent named = and_then (load_answer lent named) (Ok (amount_of (total_held lent named)))

-- ---- "ask whether the total with a ticket stays at or below the client's limit"

abbrev pub total_with : List ℕ → ℕ → Record → ℕ
total_with lent named ticket = account_total (records (with_ticket (held lent named) ticket))

-- "20, limit below zero, first of all"
abbrev pub limit_answer : List ℕ → ℕ → Record → ℤ → Answer
limit_answer lent named ticket limit = cond (lt_z limit (pos 0)) (Err LimitBelowZero) (order_answer lent named ticket)

-- "A yes is given exactly in that case. .. A ticket that is over the limit comes back with that total."
abbrev pub weighed : ℕ → ℕ → Limited
weighed limit total = cond (leb total limit) (Within (amount_of total)) (Over (amount_of total))

abbrev pub limited : List ℕ → ℕ → Record → ℤ → Result Limited Refusal
limited lent named ticket limit =
    and_then (limit_answer lent named ticket limit) (Ok (weighed (nat_abs limit) (total_with lent named ticket)))

-- ---- in numbers: what comes back, 0 where it is refused

abbrev pub bytes_held : Result ℕ Refusal → ℕ
bytes_held (Err r) = 0
bytes_held (Ok bytes) = bytes

abbrev pub total_told : Result Amount Refusal → ℕ
total_told (Err r) = 0
total_told (Ok amount) = amount.0

-- 1 for a yes, 2 for a no
abbrev pub limit_number : Result Limited Refusal → ℕ
limit_number (Err r) = 0
limit_number (Ok (Within total)) = 1
limit_number (Ok (Over total)) = 2

abbrev pub limit_total : Result Limited Refusal → ℕ
limit_total (Err r) = 0
limit_total (Ok (Within total)) = total.0
limit_total (Ok (Over total)) = total.0
