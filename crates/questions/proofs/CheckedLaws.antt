-- What a checked file answers: its refusal, or what the account answers that stands in it alone.
-- Assumes nothing.
use Rattle.std.specs.Prelude.{Ok, Err}
use Prim.Native.Nat.{ℕ, ◌≤◌, zero-le}
use mathlib.Core.Path.{◌≡◌, refl, sym, ap, ◌∙◌, subst}
use mathlib.Core.Bool.{Bool, true, false, cond}
use mathlib.Core.List.{List, []}
use borrow.Author.Tests.{ne_eqb}
use lib.IntN.{ℤ}
use lib.ListN.{length}
use Rattle.record.specs.Layout.{Record}
use Rattle.account.specs.Answers.{number_of}
use Rattle.account.specs.Checked.{checked}
use Rattle.account.specs.Records.{records}
use Rattle.account.specs.code.Standing.{Stands, CheckedBy}
use Rattle.account.specs.Joined.{account_of}
use Rattle.account.specs.declared.accounts.Account.{Account}
use Rattle.account.specs.declared.answers.Refusal.{Refusal}
use Rattle.account.specs.Answers.{Answer}
use Rattle.account.proofs.AcceptedOnly.{refused_some}
use Rattle.account.proofs.Alone.{passes}
use Rattle.account.proofs.Places.{alone}
use Rattle.margin.specs.declared.asking.Question.{Question}
use Rattle.margin.specs.declared.asking.Question.TheVariants.{Figures}
use Rattle.margin.specs.declared.everything.Everything.{Everything}
use Rattle.margin.specs.code.Lent.{EverythingOf}
use Rattle.margin.specs.Places.{all_over, after_all_over}
use Rattle.margin.specs.Questions.{not_refused, if_accepted, numbers_for, answer_over, after_over, afterwards, need_over, most_for}
use Rattle.margin.proofs.QuestionLaws.{if_refused, if_accepted_lem, after_refused}
use Rattle.questions.specs.code.Held.{AllAnswered}
use Rattle.questions.specs.declared.held.Asked.{Asked}
use Rattle.questions.specs.Questions.{answer_to, after_to, need_to, all_to, after_all_to}

-- ---- a refused file
module _ (file : List ℕ) (r : Refusal) (by : CheckedBy file (Err r)) where
  refused : number_of (checked file) ≡ 0 → ⊥
  refused = refused_some by.answer_is

  stops : (next : Answer) → Err r ≡ if_accepted (checked file) next
  stops next = by.answer_is ∙ sym (if_refused (checked file) next refused)

  pub answer_refused : (question : Question) (lent : List ℤ)
      → (Err r ≡ answer_to file question (length lent)) × (lent ≡ after_to file question lent)
  answer_refused question lent =
      let numbers = numbers_for (records file) question in
      let e = stops (answer_over (records file) question (length lent)) in
      (e, sym (ap (λ (a : Answer). afterwards a numbers lent) (sym e) ∙ after_refused (Err r) numbers lent (refused_some refl)))

  pub none_needed : (question : Question) → (0 ≡ need_to file question) × (0 ≤ most_for question)
  none_needed question =
      (sym (ap (λ (t : Bool). cond t (need_over (records file) question) 0) (ne_eqb (number_of (checked file)) 0 refused)), zero-le)

  pub all_refused : (paid : Bool) (lent : List ℤ) → (Err r ≡ all_to paid file (length lent)) × (lent ≡ after_all_to paid file lent)
  all_refused paid lent = (
    stops (all_over paid (records file) (length lent)),
    sym (ap (λ (t : Bool). cond t (after_all_over paid (records file) lent) lent) (ne_eqb (number_of (checked file)) 0 refused)),
  )

  -- everything that it is asked for
  pub everything_refused :
      (figures books uses : List ℤ) (a : Asked) → (a.figures ≡ Err r) × ((a.books ≡ Err r) × (a.uses ≡ Err r))
      → AllAnswered file figures books uses a figures books uses
  everything_refused figures books uses a is =
      let f = answer_refused Figures figures in
      let b = all_refused false books in
      let u = all_refused true uses in
      record {
        figures_answer_lem = is.0 ∙ f.0;
        figures-after = f.1;
        books_answer_lem = is.1.0 ∙ b.0;
        books_after_lem = b.1;
        uses_answer_lem = is.1.1 ∙ u.0;
        uses-after = u.1;
      }

-- ---- an accepted one
module _ (file : List ℕ) (account : Account) (by : CheckedBy file (Ok account)) (none : List ℕ) (nothing : none ≡ []) where
  ok : checked file ≡ Ok tt
  ok = sym by.answer_is

  pub file_stands : Stands file none account
  file_stands = by.accepted.stands none nothing

  same : account_of file none ≡ records file
  same = alone file none nothing (passes file ok).recorded

  pub answer_accepted : (question : Question) (lent : List ℤ) (a : Answer) (left : List ℤ)
      → (a ≡ answer_over (account_of file none) question (length lent)) × (left ≡ after_over (account_of file none) question lent)
      → (a ≡ answer_to file question (length lent)) × (left ≡ after_to file question lent)
  answer_accepted question lent a left is =
      let e = subst (λ (x : List Record). (a ≡ answer_over x question (length lent)) × (left ≡ after_over x question lent)) same is in
      let n = if_accepted_lem (checked file) (answer_over (records file) question (length lent)) ok in
      (e.0 ∙ sym n, e.1 ∙ sym (ap (λ (x : Answer). afterwards x (numbers_for (records file) question) lent) n))

  pub needed_accepted : (question : Question) (n : ℕ) → (n ≡ need_over (account_of file none) question) × (n ≤ most_for question)
      → (n ≡ need_to file question) × (n ≤ most_for question)
  needed_accepted question n is = (
    is.0
        ∙ ap (λ (x : List Record). need_over x question) same
        ∙ sym (ap (λ (a : Answer). cond (not_refused a) (need_over (records file) question) 0) ok),
    is.1,
  )

  pub all_accepted : (paid : Bool) (lent : List ℤ) (a : Answer) (left : List ℤ)
      → (a ≡ all_over paid (account_of file none) (length lent)) × (left ≡ after_all_over paid (account_of file none) lent)
      → (a ≡ all_to paid file (length lent)) × (left ≡ after_all_to paid file lent)
  all_accepted paid lent a left is =
      let e = subst (λ (x : List Record). (a ≡ all_over paid x (length lent)) × (left ≡ after_all_over paid x lent)) same is in (
        e.0 ∙ sym (if_accepted_lem (checked file) (all_over paid (records file) (length lent)) ok),
        e.1 ∙ sym (ap (λ (x : Answer). cond (not_refused x) (after_all_over paid (records file) lent) lent) ok),
      )

  -- everything that it is asked for
  pub everything_accepted :
      (figures books uses : List ℤ) (all : Everything) (figures' books' uses' : List ℤ) (a : Asked)
      → EverythingOf (account_of file none) figures books uses all figures' books' uses'
      → (a.figures ≡ all.figures) × ((a.books ≡ all.books) × (a.uses ≡ all.uses))
      → AllAnswered file figures books uses a figures' books' uses'
  everything_accepted figures books uses all figures' books' uses' a x is =
      let f = answer_accepted Figures figures a.figures figures' (is.0 ∙ x.figures_answer_lem, x.lent.figures-after) in
      let b = all_accepted false books a.books books' (is.1.0 ∙ x.books_answer_lem, x.lent.books_after_lem) in
      let u = all_accepted true uses a.uses uses' (is.1.1 ∙ x.uses_answer_lem, x.lent.uses-after) in
      record { figures_answer_lem = f.0; figures-after = f.1; books_answer_lem = b.0; books_after_lem = b.1; uses_answer_lem = u.0; uses-after = u.1 }
