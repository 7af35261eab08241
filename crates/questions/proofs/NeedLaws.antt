-- As many numbers as a question needs are enough, and fewer are refused with 10: over an account, a file and a pair of files.
-- Assumes nothing.
use Rattle.std.specs.Prelude.{Ok, Err}
use Prim.Native.Nat.{ℕ, zero, suc}
use native.Mathlib.Omega.{arith}
use mathlib.Core.Path.{◌≡◌, refl, sym, ap, ◌∙◌}
use mathlib.Core.Bool.{Bool, true, false, cond}
use mathlib.Core.List.{List}
use borrow.Author.Tests.{eqb-true, eqb-false, ne_eqb}
use lib.ListN.{length}
use Rattle.record.specs.Layout.{Record}
use Rattle.account.specs.Answers.{number_of}
use Rattle.account.specs.Checked.{checked}
use Rattle.account.specs.Noon.{of_joined, clear, ◌then◌, joined_verdict}
use Rattle.account.specs.Records.{records, record_count}
use Rattle.account.specs.Joined.{account_of}
use Rattle.account.specs.Answers.{Answer}
use Rattle.account.specs.declared.answers.Refusal.TheVariants.{TooFewNumbers, NoSuchQuestion}
use Rattle.account.specs.declared.noon.Verdict.{Verdict}
use Rattle.account.proofs.NoonLaws.{stops, goes}
use Rattle.account.proofs.Walk.{length_cut}
use Rattle.account.proofs.AcceptedOnly.{some}
use Rattle.margin.specs.declared.asking.Question.{Question}
use Rattle.margin.specs.Questions.{not_refused, if_accepted, numbers_for, answers, asked, answer_over, need_over}
use Rattle.margin.proofs.QuestionLaws.{accepted_only, if_refused, if_accepted_lem, not-asked, asked_few, asked_many}
use Rattle.questions.specs.Noon.{joined_answer, joined_need}
use Rattle.questions.specs.Questions.{answer_to, need_to, Needed}

-- ---- an account

pub account_needed : (account : List Record) (question : Question)
    → Needed (asked account question) (length account) (answer_over account question) (need_over account question)
account_needed account question = go (answers account question) refl
  where
    asked_if : (t : Bool) → answers account question ≡ t → asked account question ≡ cond t (Ok tt) (Err (NoSuchQuestion (length account)))
    asked_if t e = ap (λ (b : Bool). cond b (Ok tt) (Err (NoSuchQuestion (length account)))) e

    need_if : (t : Bool) → answers account question ≡ t → need_over account question ≡ cond t (length (numbers_for account question)) 0
    need_if t e = ap (λ (b : Bool). cond b (length (numbers_for account question)) 0) e

    go : (t : Bool) → answers account question ≡ t
        → Needed (asked account question) (length account) (answer_over account question) (need_over account question)
    go true e =
        let n = need_if true e in
        record {
          enough = λ lent h. asked_many account question lent e (omega (arith, n, h)) ∙ sym (asked_if true e);
          fewer = λ lent h. asked_few account question lent e (omega (arith, n, h));
        }
    go false e =
        let n = need_if false e in
        record {
          enough = λ lent h. not-asked account question lent e ∙ sym (asked_if false e);
          fewer = λ lent h. absurd (omega (arith, n, h));
        }

-- ---- a file: where as many are lent, the answer is what the check says, and 11

module _ (file : List ℕ) (question : Question) where
  abbrev otherwise : Answer
  otherwise = if_accepted (checked file) (asked (records file) question)

  pub file_needed : Needed otherwise (record_count file) (answer_to file question) (need_to file question)
  file_needed = go (number_of (checked file)) refl
    where
      over : Needed (asked (records file) question) (length (records file)) (answer_over (records file) question) (need_over (records file) question)
      over = account_needed (records file) question

      go : (n : ℕ) → number_of (checked file) ≡ n → Needed otherwise (record_count file) (answer_to file question) (need_to file question)
      go zero e =
          let ok = accepted_only (checked file) e in
          let n : need_to file question ≡ need_over (records file) question = ap (λ (a : Answer). cond (not_refused a) (need_over (records file) question) 0) ok in
          let is = if_accepted_lem (checked file) in
          record {
            enough = λ lent h. is _ ok ∙ over.enough lent (omega (arith, n, h)) ∙ sym (is _ ok);
            fewer = λ lent h. is _ ok ∙ over.fewer lent (omega (arith, n, h)) ∙ ap (λ (n : ℕ). Err (TooFewNumbers n)) (length_cut (record_count file) file);
          }
      go (suc k) e =
          let h : number_of (checked file) ≡ 0 → ⊥ = λ z. some (sym e ∙ z) in
          let n : need_to file question ≡ 0 = ap (λ (b : Bool). cond b (need_over (records file) question) 0) (ne_eqb (number_of (checked file)) 0 h) in
          let is = if_refused (checked file) in
          record { enough = λ lent l. is _ h ∙ sym (is _ h); fewer = λ lent l. absurd (omega (arith, n, l)) }

-- ---- a pair of files

module _ (morning noon : List ℕ) (question : Question) where
  abbrev account : List Record
  account = account_of morning noon

  abbrev pair_otherwise : Answer
  pair_otherwise = (joined_verdict morning noon then of_joined (asked account question)).answer

  pub pair_needed : Needed pair_otherwise (length account) (λ lent. (joined_answer morning noon question lent).answer) (joined_need morning noon question)
  pair_needed = go (clear (joined_verdict morning noon)) refl
    where
      over : Needed (asked account question) (length account) (answer_over account question) (need_over account question)
      over = account_needed account question

      go : (t : Bool) → clear (joined_verdict morning noon) ≡ t
          → Needed pair_otherwise (length account) (λ lent. (joined_answer morning noon question lent).answer) (joined_need morning noon question)
      go true c =
          let n : joined_need morning noon question ≡ need_over account question = ap (λ (b : Bool). cond b (need_over account question) 0) c in
          let is : (next : Verdict) → (joined_verdict morning noon then next).answer ≡ next.answer =
          λ next. ap (λ (v : Verdict). v.answer) (goes (joined_verdict morning noon) next (eqb-true _ _ c))
          in
          record {
            enough = λ lent h. is _ ∙ over.enough lent (omega (arith, n, h)) ∙ sym (is _);
            fewer = λ lent h. is _ ∙ over.fewer lent (omega (arith, n, h));
          }
      go false c =
          let n : joined_need morning noon question ≡ 0 = ap (λ (b : Bool). cond b (need_over account question) 0) c in
          let is : (next : Verdict) → (joined_verdict morning noon then next).answer ≡ (joined_verdict morning noon).answer =
          λ next. ap (λ (v : Verdict). v.answer) (stops (joined_verdict morning noon) next (eqb-false _ _ c))
          in
          record { enough = λ lent l. is _ ∙ sym (is _); fewer = λ lent l. absurd (omega (arith, n, l)) }
