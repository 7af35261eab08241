-- What C is told leaves no choice: two outcomes of an answer are the same, and so are those of all questions at once.
-- Assumes nothing.
use Rattle.std.specs.Prelude.{Result}
use Prim.Native.Nat.{ℕ}
use mathlib.Core.Path.{◌≡◌, sym, ◌∙◌}
use mathlib.Core.List.{List}
use Rattle.account.specs.Answers.{Answer}
use Rattle.account.specs.declared.noon.Place.{Place}
use Rattle.account.specs.declared.noon.Verdict.{Verdict}
use Rattle.lists.specs.declared.JudgedPair.{JudgedPair}
use Rattle.account.specs.declared.answers.Refusal.{Refusal}
use Rattle.formulas.specs.declared.amount.Amount.{Amount}
use Rattle.margin.specs.declared.lists.Judged.{Judged}
use Rattle.questions.specs.declared.noon.Call.{Call}
use Rattle.screen.specs.declared.Limited.{Limited}
use Rattle.felgotany.specs.code.Outcomes.{TellsAdded, TellsTotal, TellsLimit, Tells, TellsOf, TellsCall, TellsPlace, TellsList, TellsPairList, TellsAsked}
use Rattle.felgotany.specs.code.Outcomes.{TellsWritten}
use Rattle.felgotany.specs.declared.AddOutcome.{AddOutcome}
use Rattle.tickets.specs.declared.ask.Asked.{Asked}
use Rattle.felgotany.specs.declared.CallOutcome.{CallOutcome}
use Rattle.felgotany.specs.declared.LimitOutcome.{LimitOutcome}
use Rattle.felgotany.specs.declared.ListOutcome.{ListOutcome}
use Rattle.felgotany.specs.declared.Outcome.{Outcome}
use Rattle.felgotany.specs.declared.Outcomes.{Outcomes}
use Rattle.felgotany.specs.declared.PairListOutcome.{PairListOutcome}
use Rattle.felgotany.specs.declared.PairOutcome.{PairOutcome}
use Rattle.felgotany.specs.declared.PairOutcomes.{PairOutcomes}
use Rattle.felgotany.specs.declared.PromptPlace.{PromptPlace}
use Rattle.felgotany.specs.declared.TotalOutcome.{TotalOutcome}
use Rattle.felgotany.specs.declared.TicketOutcome.{TicketOutcome}
use Rattle.felgotany.specs.declared.WriteOutcome.{WriteOutcome}

pub one_told : (a : Answer) (r s : Outcome) → Tells a r → Tells a s → r ≡ s
one_told a r s x y =
    λ i. record { refusal = (x.refusal ∙ sym y.refusal) i; «record» = (x.record_named ∙ sym y.record_named) i }

pub all_told : (a b c : Answer) (r s : Outcomes) → Tells a r.figures × (Tells b r.books × Tells c r.uses) → Tells a s.figures
    × (Tells b s.books × Tells c s.uses) → r ≡ s
all_told a b c r s (x, (y, z)) (x', (y', z')) =
    λ i. record {
      figures = one_told a r.figures s.figures x x' i;
      books = one_told b r.books s.books y y' i;
      uses = one_told c r.uses
          s.uses z z' i;
    }

pub one_told_of : (v : Verdict) (r s : PairOutcome) → TellsOf v r → TellsOf v s → r ≡ s
one_told_of v r s x y =
    λ i. record {
      file = (x.file_is ∙ sym y.file_is) i;
      refusal = (x.refusal ∙ sym y.refusal) i;
      «record» =
          (x.record_named ∙ sym y.record_named) i;
    }

pub all_told_of_lem : (a b c : Verdict) (r s : PairOutcomes) → TellsOf a r.figures × (TellsOf b r.books × TellsOf c r.uses)
    → TellsOf a s.figures × (TellsOf b s.books × TellsOf c s.uses) → r ≡ s
all_told_of_lem a b c r s (x, (y, z)) (x', (y', z')) =
    λ i. record {
      figures = one_told_of a r.figures s.figures x x' i;
      books = one_told_of b r.books s.books y y' i;
      uses = one_told_of c
          r.uses s.uses z z' i;
    }

pub one_call : (c : Call) (r s : CallOutcome) → TellsCall c r → TellsCall c s → r ≡ s
one_call c r s x y =
    λ i. record { outcome = one_told_of c.verdict r.outcome s.outcome x.outcome_is y.outcome_is i; call = (x.call_is ∙ sym y.call_is) i }

pub one_place : (p : Place) (r s : PromptPlace) → TellsPlace p r → TellsPlace p s → r ≡ s
one_place p r s x y =
    λ i. record { file = (x.file_is ∙ sym y.file_is) i; first = (x.first_is ∙ sym y.first_is) i; records = (x.records_are ∙ sym y.records_are) i }

pub one_list : (j : Result Judged Refusal) (r s : ListOutcome) → TellsList j r → TellsList j s → r ≡ s
one_list j r s x y =
    λ i.
    record {
      refusal = (x.refusal ∙ sym y.refusal) i;
      «record» = (x.record_named ∙ sym y.record_named) i;
      verdict = (x.verdict_is ∙ sym y.verdict_is) i;
      step = (x.step_is ∙ sym y.step_is) i;
    }

pub one_pair_list : (j : JudgedPair) (r s : PairListOutcome) → TellsPairList j r → TellsPairList j s → r ≡ s
one_pair_list j r s x y =
    λ i. record { file = (x.file_is ∙ sym y.file_is) i; list = one_list j.judged r.list s.list x.list_is y.list_is i }

pub one_added : (a : Result ℕ Refusal) (r s : AddOutcome) → TellsAdded a r → TellsAdded a s → r ≡ s
one_added a r s x y =
    λ i.
    record {
      refusal = (x.refusal ∙ sym y.refusal) i;
      «record» = (x.record_named ∙ sym y.record_named) i;
      named = (x.named_are ∙ sym y.named_are) i;
    }

pub one_total : (t : Result Amount Refusal) (r s : TotalOutcome) → TellsTotal t r → TellsTotal t s → r ≡ s
one_total t r s x y =
    λ i.
    record {
      refusal = (x.refusal ∙ sym y.refusal) i;
      «record» = (x.record_named ∙ sym y.record_named) i;
      total = (x.total_is ∙ sym y.total_is) i;
    }

pub one_limit : (l : Result Limited Refusal) (r s : LimitOutcome) → TellsLimit l r → TellsLimit l s → r ≡ s
one_limit l r s x y =
    λ i.
    record {
      refusal = (x.refusal ∙ sym y.refusal) i;
      «record» = (x.record_named ∙ sym y.record_named) i;
      answer = (x.answer_is ∙ sym y.answer_is) i;
      total = (x.total_is ∙ sym y.total_is) i;
    }

pub one_asked : (a : Asked) (r s : TicketOutcome) → TellsAsked a r → TellsAsked a s → r ≡ s
one_asked a r s x y =
    λ i.
    record {
      ticket = (x.ticket_is ∙ sym y.ticket_is) i;
      refusal = (x.refusal ∙ sym y.refusal) i;
      «record» = (x.record_named ∙ sym y.record_named) i;
      before = (x.before_is ∙ sym y.before_is) i;
      after = (x.after_is ∙ sym y.after_is) i;
    }

pub one_written : (entries lent after : List ℕ) (r s : WriteOutcome)
    → TellsWritten entries lent r after → TellsWritten entries lent s after → r ≡ s
one_written entries lent after r s x y =
    λ i.
    record {
      refusal = (x.refusal ∙ sym y.refusal) i;
      entry = (x.entry_named ∙ sym y.entry_named) i;
      written = (x.written_is ∙ sym y.written_is) i;
    }
