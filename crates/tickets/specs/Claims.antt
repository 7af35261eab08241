-- What request 2026-07 asks of a ticket, as claims about the definitions.
-- Assumes nothing.
use Rattle.std.specs.Prelude.{ℕ, ◌≤◌, ◌<◌, ◌≡◌, true, false, List, [], ◌∷◌, ◌++◌, length, take, drop, Ok}
use Rattle.record.specs.Layout.{Record, record_bytes, kind, contract}
use Rattle.account.specs.Answers.{number_of, record_of}
use Rattle.account.specs.Check.{the_one_before, kind_falls, out_of_order, most_records}
use Rattle.account.specs.Checked.{checked}
use Rattle.exact.specs.Iff.{Iff}
use Rattle.account.specs.Claims.{given_in}
use Rattle.account.specs.Parts.{contracts_of, prompts_of, rows_of, spreads_of, entries_of, rates_of}
use Rattle.account.specs.Records.{records, record_count}
use Rattle.tickets.specs.Ticket.{place, with_ticket, ahead, row_refusals, ticket_checked}

-- ---- "that row put last among its contract's rows": one row more, and nothing else
pub record OneRowMore (row : Record) (whole more : List Record) : Type 0 where
  pub length_is : length more ≡ length (row ∷ whole)
  pub contracts : contracts_of more ≡ contracts_of whole
  pub prompts : (c : ℕ) → prompts_of c more ≡ prompts_of c whole
  pub rows : rows_of (contract row) more ≡ rows_of (contract row) whole ++ row ∷ []
  pub other_rows : (c : ℕ) → (contract row ≡ c → ⊥) → rows_of c more ≡ rows_of c whole
  pub spreads : (c : ℕ) → spreads_of c more ≡ spreads_of c whole
  pub entries : entries_of more ≡ entries_of whole
  pub rates : rates_of more ≡ rates_of whole

-- a row of 96 bytes put into an accepted file: the records, the parts, and what the check of the longer file says
pub record PutIn (file : List ℕ) (ticket : Record) : Type 0 where
  pub records_are :
      records (with_ticket file ticket)
      ≡ take (place ticket (records file)) (records file) ++ ticket ∷ drop (place ticket (records file)) (records file)
  pub parts : OneRowMore ticket (records file) (records (with_ticket file ticket))
  -- with room for one record more, what the ticket is told
  pub says : record_count file < most_records → checked (with_ticket file ticket) ≡ ticket_checked file ticket
  pub accepted : Iff (ticket_checked file ticket ≡ Ok tt) (checked (with_ticket file ticket) ≡ Ok tt)
  -- 4 and 8 do not occur at its place
  pub never_4 : kind_falls (the_one_before (ahead file ticket)) ticket ≡ false
  pub never_8 : out_of_order (the_one_before (ahead file ticket)) ticket ≡ false

-- ---- "Refusals, changing nothing": each is given exactly when
pub record TicketGives (file : List ℕ) (ticket : Record) (n k : ℕ) : Type 0 where
  pub number : number_of (ticket_checked file ticket) ≡ n
  pub record_is : record_of (ticket_checked file ticket) ≡ k

-- a row of 96 bytes
pub record TicketRow (ticket : Record) : Type 0 where
  pub whole : length ticket ≡ record_bytes
  pub row : kind ticket ≡ 3

-- refusal n holds for the row at its place, and none before it in the table
pub record FirstFor (file : List ℕ) (ticket : Record) (n : ℕ) : Type 0 where
  pub holds : given_in (row_refusals file ticket) n ≡ true
  pub first : (m : ℕ) → m < n → given_in (row_refusals file ticket) m ≡ false

abbrev pub NoneFor : List ℕ → Record → Type 0
NoneFor file ticket = (m : ℕ) → given_in (row_refusals file ticket) m ≡ false

pub record Exactly (file : List ℕ) (ticket : Record) : Type 0 where
  pub two : Iff (TicketGives file ticket 2 0) (length ticket ≡ record_bytes → ⊥)
  pub three : Iff (TicketGives file ticket 3 (place ticket (records file))) ((length ticket ≡ record_bytes) × (kind ticket ≡ 3 → ⊥))
  pub row : (n : ℕ) → 5 ≤ n → n ≤ 15 → Iff (TicketGives file ticket n (place ticket (records file))) (TicketRow ticket × FirstFor file ticket n)
  pub one : Iff (TicketGives file ticket 1 0) (TicketRow ticket × (NoneFor file ticket × (most_records ≤ record_count file)))
  pub accepted : Iff (TicketGives file ticket 0 0) (TicketRow ticket × (NoneFor file ticket × (record_count file < most_records)))

pub record Claims (file : List ℕ) (ticket : Record) : Type 0 where
  pub exactly : Exactly file ticket
  pub put_in : checked file ≡ Ok tt → TicketRow ticket → PutIn file ticket
