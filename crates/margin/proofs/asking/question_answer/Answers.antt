-- A question of an account: not to be asked, or answered by what it asks about.
-- Assumes nothing.
use Rattle.std.specs.Prelude.{ℕ, Err}
use mathlib.Core.Path.{◌≡◌, sym, ap, ◌∙◌}
use native.Mathlib.Omega.{arith}
use lib.ListN.{length}
use Rattle.account.specs.code.Lent.{account_in}
use Rattle.account.specs.Joined.{account_of}
use Rattle.account.specs.declared.answers.Refusal.TheVariants.{NoSuchQuestion}
use Rattle.margin.specs.Books.{answered}
use Rattle.margin.specs.Places.{question_of}
use Rattle.margin.specs.Questions.{numbers_for}
use Rattle.margin.proofs.AskedLaws.{asked_is}
use Rattle.margin.proofs.BesideLaws.{answered_beside}
use Rattle.margin.proofs.PlaceLaws.{answers_of}
use Rattle.margin.proofs.QuestionLaws.{not-asked, refused_with}
use Rattle.margin.proofs.asking.question_answer.Goals as goal
use Rattle.margin.proofs.asking.question_answer.Goals.{After-is_asked}

-- whether the account answers the question
asked : (c : After-is_asked) →
    answered (account_of c.args.morning.now c.args.noon.now) c.args.question ≡ c.is_asked.result
asked c =
    sym (c.is_asked.ensures ∙ asked_is (account_of c.args.morning.now c.args.noon.now) c.requires.0.lawful
    (account_in c.args.account.now).counts c.requires.0.places.counts c.args.question)

pub returns-then-not-is_asked : goal.returns-then-not-is_asked
returns-then-not-is_asked c =
    let a = account_of c.args.morning.now c.args.noon.now in
    let k = c.args.question in
    let q = question_of c.args.paid k in
    λ whole t.
    refused_with (Err (NoSuchQuestion c.args.positions.records)) _ (numbers_for whole q) c.args.out.now
    (not-asked whole q (length c.args.out.now) (answers_of whole c.args.paid k ∙ answered_beside a whole t.beside k ∙ asked (goal.at.returns-then-not-is_asked c).After-is_asked
    ∙ c.if-not-is_asked.true)
    ∙ ap (λ (n : ℕ). Err (NoSuchQuestion n)) (sym t.positions.records_are)) (λ e. omega arith)

pub asking_from-asking-requires : goal.asking_from-asking-requires
asking_from-asking-requires c =
    (c.requires.0, (c.requires.1, asked (goal.at.asking_from-asking-requires c).After-is_asked ∙ c.if-not-is_asked.false))

pub answer_asking-requires : goal.answer_asking-requires
answer_asking-requires c =
    let x = c.requires.1 in
    (c.asking_from-asking.ensures x.whole x.told).accepted

pub returns : goal.returns
returns c =
    let k = c.args.question in
    λ whole t.
    c.answer_asking.ensures whole k
    (record {
      lawful = t.beside.lawful;
      asked_is = answered_beside (account_of c.args.morning.now c.args.noon.now) whole t.beside k
          ∙ asked (goal.at.returns c).After-is_asked ∙ c.if-not-is_asked.false;
      records_are = t.positions.records_are;
      asks = c.asking_from-asking.ensures whole t;
    })
