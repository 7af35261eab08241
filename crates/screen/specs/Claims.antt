-- What request 2026-14 asks of the order screen's calls, as claims about the definitions.
-- Assumes nothing.
use Rattle.std.specs.Prelude.{ℕ, ◌+◌, ◌≤◌, ◌<◌, ◌≡◌, true, false, ◌⊎◌, List, ℤ, pos, nat_abs, length, drop, Ok}
use Rattle.std.specs.Int.Signed.{lt_z}
use Rattle.record.specs.Layout.{Record, record_bytes}
use Rattle.account.specs.Answers.{number_of, record_of}
use Rattle.account.specs.Checked.{checked}
use Rattle.exact.specs.Iff.{Iff}
use Rattle.account.specs.Answers.{Answer}
use Rattle.tickets.specs.Ticket.{with_ticket, ticket_checked}
use Rattle.screen.specs.Screen.{held, load_answer, order_answer, add_answer, after_add, amount_of, total_read, total_with, limit_answer, limited}
use Rattle.screen.specs.declared.Limited.TheVariants.{Within, Over}

-- an answer is refusal n with record k
pub record AnswerSays (a : Answer) (n k : ℕ) : Type 0 where
  pub number : number_of a ≡ n
  pub place : record_of a ≡ k

-- ---- "load an account" and "read the total"

-- "16, more bytes named than lent; then 01's as amended for the account held"
pub record LoadExactly (lent : List ℕ) (named : ℕ) : Type 0 where
  pub sixteen : Iff (number_of (load_answer lent named) ≡ 16) (length lent < named)
  pub accounts : (n k : ℕ) → (n ≡ 16 → ⊥) → Iff (AnswerSays (load_answer lent named) n k) ((named ≤ length lent) × AnswerSays (checked (held lent named)) n k)

-- ---- a ticket

-- "then 2026-07's for the ticket"
pub record OrderExactly (lent : List ℕ) (named : ℕ) (ticket : Record) : Type 0 where
  pub sixteen : Iff (number_of (order_answer lent named ticket) ≡ 16) (length lent < named)
  pub others : (n k : ℕ) → (n ≡ 0 → ⊥) → Iff (AnswerSays (order_answer lent named ticket) n k)
      (AnswerSays (load_answer lent named) n k ⊎ ((load_answer lent named ≡ Ok tt) × AnswerSays (ticket_checked (held lent named) ticket) n k))
  pub accepted : Iff (order_answer lent named ticket ≡ Ok tt) ((load_answer lent named ≡ Ok tt) × (ticket_checked (held lent named) ticket ≡ Ok tt))

-- "16, adding without room for it"
pub record AddExactly (lent : List ℕ) (named : ℕ) (ticket : Record) : Type 0 where
  pub sixteen : Iff (number_of (add_answer lent named ticket) ≡ 16)
      ((length lent < named) ⊎ ((order_answer lent named ticket ≡ Ok tt) × (length lent < named + record_bytes)))
  pub others : (n k : ℕ) → (n ≡ 0 → ⊥) → (n ≡ 16 → ⊥) → Iff (AnswerSays (add_answer lent named ticket) n k) (AnswerSays (order_answer lent named ticket) n k)
  pub accepted : Iff (add_answer lent named ticket ≡ Ok tt) ((order_answer lent named ticket ≡ Ok tt) × (named + record_bytes ≤ length lent))

-- "20, limit below zero, first of all"; "A yes is given exactly in that case. .. A ticket that is over the limit comes back with that
-- total."
pub record LimitExactly (lent : List ℕ) (named : ℕ) (ticket : Record) (limit : ℤ) : Type 0 where
  pub twenty : Iff (number_of (limit_answer lent named ticket limit) ≡ 20) (lt_z limit (pos 0) ≡ true)
  pub others : (n k : ℕ) → (n ≡ 20 → ⊥)
      → Iff (AnswerSays (limit_answer lent named ticket limit) n k) ((lt_z limit (pos 0) ≡ false) × AnswerSays (order_answer lent named ticket) n k)
  pub yes : (total : ℕ) → Iff (limited lent named ticket limit ≡ Ok (Within (amount_of total)))
      ((limit_answer lent named ticket limit ≡ Ok tt) × ((total_with lent named ticket ≡ total) × (total ≤ nat_abs limit)))
  pub no : (total : ℕ) → Iff (limited lent named ticket limit ≡ Ok (Over (amount_of total)))
      ((limit_answer lent named ticket limit ≡ Ok tt) × ((total_with lent named ticket ≡ total) × (nat_abs limit < total)))

-- ---- after adding

-- the bytes hold the file with that row put last among its contract's rows, which is accepted: every question put to them is put to
-- that file; its total is the one that asking told; bytes beyond the named ones are left alone, but for those the ticket takes
pub record AfterAdding (lent : List ℕ) (named : ℕ) (ticket : Record) : Type 0 where
  pub holds : held (after_add lent named ticket) (named + record_bytes) ≡ with_ticket (held lent named) ticket
  pub loads : load_answer (after_add lent named ticket) (named + record_bytes) ≡ Ok tt
  pub total : total_read (after_add lent named ticket) (named + record_bytes) ≡ Ok (amount_of (total_with lent named ticket))
  pub beyond : drop (named + record_bytes) (after_add lent named ticket) ≡ drop (named + record_bytes) lent
  pub as_long : length (after_add lent named ticket) ≡ length lent

pub record Adding (lent : List ℕ) (named : ℕ) (ticket : Record) : Type 0 where
  pub added : add_answer lent named ticket ≡ Ok tt → AfterAdding lent named ticket
  -- a refusal changes no lent byte
  pub refused : (add_answer lent named ticket ≡ Ok tt → ⊥) → after_add lent named ticket ≡ lent

-- a ticket is answered about exactly where, with room for it, it is added
pub record Agree (lent : List ℕ) (named : ℕ) (ticket : Record) (limit : ℤ) : Type 0 where
  pub asked : limit_answer lent named ticket limit ≡ Ok tt → named + record_bytes ≤ length lent → add_answer lent named ticket ≡ Ok tt
  pub added : add_answer lent named ticket ≡ Ok tt → lt_z limit (pos 0) ≡ false → limit_answer lent named ticket limit ≡ Ok tt

pub record Claims (lent : List ℕ) (named : ℕ) (ticket : Record) (limit : ℤ) : Type 0 where
  pub load : LoadExactly lent named
  pub order : OrderExactly lent named ticket
  pub add : AddExactly lent named ticket
  pub limit_asked : LimitExactly lent named ticket limit
  pub adding : Adding lent named ticket
  pub agree : Agree lent named ticket limit
