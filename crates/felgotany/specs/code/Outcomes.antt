-- What C is handed for an answer.
-- Assumes nothing.
use Rattle.std.specs.Prelude.{ℕ, ◌≡◌, List, length, Result}
use Rattle.account.specs.Answers.{Answer, answer_of, number_of, record_of}
use Rattle.account.specs.declared.answers.Refusal.{Refusal}
use Rattle.formulas.specs.declared.amount.Amount.{Amount}
use Rattle.account.specs.declared.noon.Place.{Place}
use Rattle.account.specs.declared.noon.Verdict.{Verdict}
use Rattle.lists.specs.Lists.{verdict_number, step_named}
use Rattle.lists.specs.declared.JudgedPair.{JudgedPair}
use Rattle.margin.specs.declared.lists.Judged.{Judged}
use Rattle.questions.specs.declared.noon.Call.{Call}
use Rattle.screen.specs.Screen.{bytes_held, total_told, limit_number, limit_total}
use Rattle.screen.specs.declared.Limited.{Limited}
use Rattle.felgotany.specs.declared.AddOutcome.{AddOutcome}
use Rattle.tickets.specs.declared.ask.Asked.{Asked}
use Rattle.writing.specs.Written.{writing_answer, bytes_for, after_writing}
use Rattle.felgotany.specs.declared.CallOutcome.{CallOutcome}
use Rattle.felgotany.specs.declared.LimitOutcome.{LimitOutcome}
use Rattle.felgotany.specs.declared.ListOutcome.{ListOutcome}
use Rattle.felgotany.specs.declared.Outcome.{Outcome}
use Rattle.felgotany.specs.declared.PairListOutcome.{PairListOutcome}
use Rattle.felgotany.specs.declared.PairOutcome.{PairOutcome}
use Rattle.felgotany.specs.declared.PromptPlace.{PromptPlace}
use Rattle.felgotany.specs.declared.TotalOutcome.{TotalOutcome}
use Rattle.felgotany.specs.declared.TicketOutcome.{TicketOutcome}
use Rattle.felgotany.specs.declared.WriteOutcome.{WriteOutcome}

pub record Tells (a : Answer) (r : Outcome) : Type 0 where
  pub refusal : r.refusal ≡ number_of a
  pub record_named : r.record ≡ record_of a

-- of a pair of files: which one, too
pub record TellsOf (v : Verdict) (r : PairOutcome) : Type 0 where
  pub file_is : r.file ≡ v.file
  pub refusal : r.refusal ≡ number_of v.answer
  pub record_named : r.record ≡ record_of v.answer

pub record TellsCall (c : Call) (r : CallOutcome) : Type 0 where
  pub outcome_is : TellsOf c.verdict r.outcome
  pub call_is : r.call ≡ c.amount.0

pub record TellsPlace (p : Place) (r : PromptPlace) : Type 0 where
  pub file_is : r.file ≡ p.file
  pub first_is : r.first ≡ p.first
  pub records_are : r.records ≡ p.records

-- what is said of a list of spreads
pub record TellsList (j : Result Judged Refusal) (r : ListOutcome) : Type 0 where
  pub refusal : r.refusal ≡ number_of (answer_of j)
  pub record_named : r.record ≡ record_of (answer_of j)
  pub verdict_is : r.verdict ≡ verdict_number j
  pub step_is : r.step ≡ step_named j

pub record TellsPairList (j : JudgedPair) (r : PairListOutcome) : Type 0 where
  pub file_is : r.file ≡ j.file
  pub list_is : TellsList j.judged r.list

-- what the order screen is told
pub record TellsAdded (a : Result ℕ Refusal) (r : AddOutcome) : Type 0 where
  pub refusal : r.refusal ≡ number_of (answer_of a)
  pub record_named : r.record ≡ record_of (answer_of a)
  pub named_are : r.named ≡ bytes_held a

pub record TellsTotal (t : Result Amount Refusal) (r : TotalOutcome) : Type 0 where
  pub refusal : r.refusal ≡ number_of (answer_of t)
  pub record_named : r.record ≡ record_of (answer_of t)
  pub total_is : r.total ≡ total_told t

pub record TellsLimit (l : Result Limited Refusal) (r : LimitOutcome) : Type 0 where
  pub refusal : r.refusal ≡ number_of (answer_of l)
  pub record_named : r.record ≡ record_of (answer_of l)
  pub answer_is : r.answer ≡ limit_number l
  pub total_is : r.total ≡ limit_total l

-- what a ticket or a withdrawal is told
pub record TellsAsked (a : Asked) (r : TicketOutcome) : Type 0 where
  pub ticket_is : r.ticket ≡ a.ticket
  pub refusal : r.refusal ≡ number_of a.answer
  pub record_named : r.record ≡ record_of a.answer
  pub before_is : r.before ≡ a.before.0
  pub after_is : r.after ≡ a.after.0

-- what a list of entries gets, and the lent bytes afterwards
pub record TellsWritten (entries lent : List ℕ) (r : WriteOutcome) (after : List ℕ) : Type 0 where
  pub refusal : r.refusal ≡ number_of (writing_answer entries (length lent))
  pub entry_named : r.entry ≡ record_of (writing_answer entries (length lent))
  pub written_is : r.written ≡ bytes_for (writing_answer entries (length lent)) entries
  pub out : after ≡ after_writing (writing_answer entries (length lent)) entries lent
