-- A question of an account: not to be asked, a contract's book, or answered by what it asks about.
-- Assumes nothing.
use Rattle.std.specs.Prelude.{ℕ, Err}
use mathlib.Core.Path.{◌≡◌, sym, ap, ◌∙◌, subst⁻¹}
use mathlib.Core.Bool.{Bool, false, not}
use native.Mathlib.Omega.{arith}
use borrow.Author.Tests.{not-true, eqb-false}
use lib.Dec.{eqb}
use lib.ListN.{length}
use Rattle.account.specs.code.Lent.{account_in}
use Rattle.account.specs.Joined.{account_of}
use Rattle.account.specs.declared.answers.Refusal.TheVariants.{NoSuchQuestion}
use Rattle.spread.proofs.Both.{and_left, and_right}
use Rattle.margin.specs.Books.{answered, table_question}
use Rattle.margin.specs.Places.{question_of}
use Rattle.margin.specs.Questions.{numbers_for, answer_over}
use Rattle.margin.proofs.AskedLaws.{asked_is, asked_small}
use Rattle.margin.proofs.PlaceLaws.{answers_of}
use Rattle.margin.proofs.QuestionLaws.{Answers, not-asked, refused_with}
use Rattle.margin.proofs.asking.answer_question.Goals as goal
use Rattle.margin.proofs.asking.answer_question.Goals.{After-is_asked, Then-paid-question}

-- whether the account answers the question
asked : (c : After-is_asked) →
    answered (account_of c.args.morning.now c.args.noon.now) c.args.question ≡ c.is_asked.result
asked c =
    sym (c.is_asked.ensures ∙ asked_is (account_of c.args.morning.now c.args.noon.now) c.requires.lawful (account_in c.args.account.now).counts
    c.requires.places.counts c.args.question)

-- a book of a contract
not-paid : (c : Then-paid-question) → c.args.paid ≡ false
not-paid c =
    not-true c.args.paid (and_left (not c.args.paid) (not (eqb c.args.question table_question)) c.if-paid-question.true)

pub returns-then-not-is_asked : goal.returns-then-not-is_asked
returns-then-not-is_asked c =
    let a = account_of c.args.morning.now c.args.noon.now in
    let q = question_of c.args.paid c.args.question in
    refused_with (Err (NoSuchQuestion c.record_total.result)) _ (numbers_for a q) c.args.out.now
    (not-asked a q (length c.args.out.now)
    (answers_of a c.args.paid c.args.question ∙ asked (goal.at.returns-then-not-is_asked c).After-is_asked ∙ c.if-not-is_asked.true)
    ∙ ap (λ (n : ℕ). Err (NoSuchQuestion n)) (sym (c.record_total.ensures ∙ c.requires.places.all))) (λ e. omega arith)

pub answer_contract_book-requires : goal.answer_contract_book-requires
answer_contract_book-requires c =
    let q = c.args.question in
    let is = asked (goal.at.answer_contract_book-requires c).After-is_asked ∙ c.if-not-is_asked.false in
    let contract = and_right (not c.args.paid) (not (eqb q table_question)) c.if-paid-question.true in (
      c.requires,
      (
        asked_small (account_of c.args.morning.now c.args.noon.now) c.requires.lawful q is
            (eqb-false q table_question (not-true (eqb q table_question) contract)),
        is,
      ),
    )

pub returns-then-paid-question : goal.returns-then-paid-question
returns-then-paid-question c =
    let a = account_of c.args.morning.now c.args.noon.now in
    let out = c.args.out.now in
    let r = c.answer_contract_book in
    subst⁻¹ (λ (p : Bool). Answers r.result r.new.out (answer_over a (question_of p c.args.question) (length out))
    (numbers_for a (question_of p c.args.question)) out) (not-paid (goal.at.returns-then-paid-question c).Then-paid-question) r.ensures

pub asking_over-asking-requires : goal.asking_over-asking-requires
asking_over-asking-requires c =
    (c.requires, asked (goal.at.asking_over-asking-requires c).After-is_asked ∙ c.if-not-is_asked.false)

pub answer_asking-requires : goal.answer_asking-requires
answer_asking-requires c = c.asking_over-asking.ensures.accepted

pub returns : goal.returns
returns c =
    c.answer_asking.ensures (account_of c.args.morning.now c.args.noon.now) c.args.question
    (record {
      lawful = c.requires.lawful;
      asked_is = asked (goal.at.returns c).After-is_asked ∙ c.if-not-is_asked.false;
      records_are = c.record_total-2.ensures ∙ c.requires.places.all;
      asks = c.asking_over-asking.ensures;
    })
