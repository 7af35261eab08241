-- The same of the held file alone, as the code has it once the bytes that are named are known to be lent.
-- Assumes nothing.
use Rattle.std.specs.Prelude.{ℕ, ◌*◌, List, ◌++◌, take, drop, Result, Ok}
use Rattle.record.specs.Layout.{Record, record_bytes}
use Rattle.account.specs.Checked.{checked}
use Rattle.account.specs.Records.{records}
use Rattle.account.specs.Answers.{Answer, and_then}
use Rattle.account.specs.declared.answers.Refusal.{Refusal}
use Rattle.formulas.specs.declared.amount.Amount.{Amount}
use Rattle.margin.specs.Figures.{account_total}
use Rattle.margin.specs.Questions.{if_accepted}
use Rattle.tickets.specs.Ticket.{place, with_ticket, ticket_checked}
use Rattle.screen.specs.Screen.{amount_of}

-- what a ticket is refused for, after the file's own refusals
abbrev pub order_in : List ℕ → Record → Answer
order_in file ticket = if_accepted (checked file) (ticket_checked file ticket)

-- or where it would stand
abbrev pub placed_in : List ℕ → Record → Result ℕ Refusal
placed_in file ticket = and_then (order_in file ticket) (Ok (place ticket (records file) * record_bytes))

-- or the total with it
abbrev pub asked_in : List ℕ → Record → Result Amount Refusal
asked_in file ticket = and_then (order_in file ticket) (Ok (amount_of (account_total (records (with_ticket file ticket)))))

abbrev pub total_in : List ℕ → Result Amount Refusal
total_in file = and_then (checked file) (Ok (amount_of (account_total (records file))))

-- a row put at a byte of a file
abbrev pub put_at : ℕ → Record → List ℕ → List ℕ
put_at at row file = take at file ++ (row ++ drop at file)
