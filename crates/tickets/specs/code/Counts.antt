-- What the check of a ticket goes by, so that it does not go through the rows: where the records of the file stand, and how many rows
-- each contract has with the tickets put in so far.
-- Assumes nothing.
use Rattle.std.specs.Prelude.{ℕ, ◌+◌, ◌-◌, ◌≤◌, ◌<◌, ◌≡◌, Bool, List, [], ◌∷◌, leb, length, get_or, set, take, Ok}
use Rattle.exact.specs.Lists.{count}
use Rattle.record.specs.Layout.{Record}
use Rattle.record.specs.Ranges.{unused_byte, field_outside}
use Rattle.account.specs.Check.{most_contracts, most_records, most_rows, ◌when◌, first_of}
use Rattle.account.specs.Parts.{of_kind, of_contract}
use Rattle.account.specs.Records.{records}
use Rattle.account.specs.code.Standing.{CheckedBy}
use Rattle.tickets.specs.declared.counts.Counts.{Counts}
use Rattle.tickets.specs.Ticket.{with_tickets, ticket_checked}

-- each ticket in turn was accepted
abbrev pub TakenRows : List ℕ → List Record → Type 0
TakenRows file tickets =
    (n : ℕ) → n < length tickets → ticket_checked (with_tickets file (take n tickets)) (get_or tickets n []) ≡ Ok tt

pub record CountsOf (file : List ℕ) (tickets : List Record) (k : Counts) : Type 0 where
  pub from_check : CheckedBy file (Ok k.account)
  pub taken : TakenRows file tickets
  pub many : k.tickets ≡ length tickets
  pub above_is : k.above ≡ count (of_kind 1) (records file) + count (of_kind 2) (records file)
  pub places : length k.rows ≡ most_contracts
  pub rows_are : (c : ℕ) → get_or k.rows c 0 ≡ count (of_contract 3 c) (records (with_tickets file tickets))

-- there are such tickets
pub record CountedIn (file : List ℕ) (k : Counts) : Type 0 where
  pub tickets : List Record
  pub counts : CountsOf file tickets k

-- numbers small enough to be added up
pub record SmallCounts (k : Counts) : Type 0 where
  pub above_few : k.above ≤ most_records
  pub places : length k.rows ≡ most_contracts
  pub rows_few : (c : ℕ) → get_or k.rows c 0 ≤ most_records
  pub tickets_few : k.tickets ≤ most_records

-- the first refusal of a row, 5 to 9, by whether its contract or its day is missing, and how many rows its contract has; 8 does not occur
abbrev pub row_fault_by : Bool → ℕ → Record → ℕ
row_fault_by missing rows row =
    first_of (5 when unused_byte row ∷ 6 when field_outside row ∷ 7 when missing ∷ 9 when leb most_rows rows ∷ [])

-- one row of a contract more, and one less
pub record OneMore (c : ℕ) (k more : Counts) : Type 0 where
  pub account_is : more.account ≡ k.account
  pub above_is : more.above ≡ k.above
  pub rows_are : more.rows ≡ set k.rows c (get_or k.rows c 0 + 1)
  pub tickets_are : more.tickets ≡ k.tickets + 1

pub record OneLess (c : ℕ) (k less : Counts) : Type 0 where
  pub account_is : less.account ≡ k.account
  pub above_is : less.above ≡ k.above
  pub rows_are : less.rows ≡ set k.rows c (get_or k.rows c 0 - 1)
  pub tickets_are : less.tickets ≡ k.tickets - 1
