-- Request 2026-07: "Keep per contract the sixteen totals, the prompts' net deltas and the short lots, and answer without going through the
-- other rows. .. A kept account comes only from the check of a file or from one of these calls, and that is the one thing they may rest
-- on".
-- Assumes nothing.
use Rattle.std.specs.Prelude.{ℕ, ◌-◌, ◌≡◌, cond, List, [], ◌∷◌, ◌++◌, eqb, Result, Ok, Err, IfOk}
use Rattle.record.specs.Layout.{Record}
use Rattle.account.specs.Answers.{answer_of}
use Rattle.account.specs.Records.{records, cut}
use Rattle.account.specs.Answers.{Answer}
use Rattle.account.specs.declared.answers.Refusal.{Refusal}
use Rattle.account.specs.declared.answers.Refusal.TheVariants.{NoTicketLeft}
use Rattle.margin.specs.code.Positions.{PositionsOf}
use Rattle.tickets.specs.declared.kept.Kept.{Kept}
use Rattle.tickets.specs.code.Counts.{CountsOf}
use Rattle.tickets.specs.Ticket.{with_tickets, ticket_checked}

-- the account of a file with these tickets put in, one after the other
pub record KeptBy (file : List ℕ) (tickets : List Record) (k : Kept) : Type 0 where
  pub counts : CountsOf file tickets k.counts
  pub positions : PositionsOf (records (with_tickets file tickets)) k.positions

-- there are such tickets: what a call rests on
pub record Keeps (file : List ℕ) (k : Kept) : Type 0 where
  pub tickets : List Record
  pub kept : KeptBy file tickets k

-- and one more is accepted
pub record Takes (file : List ℕ) (k : Kept) (ticket : Record) : Type 0 where
  pub tickets : List Record
  pub kept : KeptBy file tickets k
  pub taken : (others : List Record) → KeptBy file others k → ticket_checked (with_tickets file others) ticket ≡ Ok tt

-- the latest of them is this one
pub record Leaves (file : List ℕ) (k : Kept) (ticket : Record) : Type 0 where
  pub tickets : List Record
  pub kept : KeptBy file (tickets ++ ticket ∷ []) k

-- "Refusals, changing nothing": a ticket added
pub record AddedTo (file : List ℕ) (k : Kept) (ticket : Record) (r : Result Kept Refusal) : Type 0 where
  pub told : (tickets : List Record) → KeptBy file tickets k → answer_of r ≡ ticket_checked (with_tickets file tickets) ticket
  pub accepted : IfOk r (λ (more : Kept). (tickets : List Record) → KeptBy file tickets k → KeptBy file (tickets ++ ticket ∷ []) more)

-- "The latest ticket can be withdrawn, then the one before it; the account is then as it was before that ticket"; 22: "a withdrawal with no
-- ticket left"
abbrev pub withdrawal : ℕ → Answer
withdrawal tickets = cond (eqb tickets 0) (Err NoTicketLeft) (Ok tt)

pub record WithdrawnFrom (file tickets : List ℕ) (k : Kept) (r : Result Kept Refusal) : Type 0 where
  pub told : answer_of r ≡ withdrawal k.counts.tickets
  pub accepted : IfOk r (λ (less : Kept). KeptBy file (cut (k.counts.tickets - 1) tickets) less)
