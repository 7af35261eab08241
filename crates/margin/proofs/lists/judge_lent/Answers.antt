-- A list for a question: not to be asked, or judged by the question's own steps.
-- Assumes nothing.
use Rattle.std.specs.Prelude.{Err}
use mathlib.Core.Path.{◌≡◌, sym, ap, ◌∙◌}
use Prim.Native.Nat.{ℕ}
use Rattle.account.specs.code.Lent.{account_in}
use Rattle.account.specs.Joined.{account_of}
use Rattle.account.specs.declared.answers.Refusal.TheVariants.{NoSuchQuestion}
use Rattle.margin.specs.Books.{answered}
use Rattle.margin.specs.Lists.{said_of}
use Rattle.margin.proofs.AskedLaws.{asked_is}
use Rattle.margin.proofs.ListLaws.{list_not-asked, list_asked}
use Rattle.margin.proofs.lists.judge_lent.Goals as goal
use Rattle.margin.proofs.lists.judge_lent.Goals.{After-is_asked}

-- whether the account answers the question
asked : (c : After-is_asked) →
    answered (account_of c.args.morning.now c.args.noon.now) c.args.question ≡ c.is_asked.result
asked c =
    sym
    (c.is_asked.ensures
    ∙ asked_is (account_of c.args.morning.now c.args.noon.now) c.requires.lawful (account_in c.args.account.now).counts c.requires.places.counts
    c.args.question)

pub returns-then-not-is_asked : goal.returns-then-not-is_asked
returns-then-not-is_asked c =
    let a = c.args in
    ap (λ (n : ℕ). Err (NoSuchQuestion n)) (c.record_total.ensures ∙ c.requires.places.all)
    ∙ list_not-asked (account_of a.morning.now a.noon.now) a.question a.sent a.numbers.now a.uses.now
    (asked (goal.at.returns-then-not-is_asked c).After-is_asked ∙ c.if-not-is_asked.true)

pub asking_over-asking-requires : goal.asking_over-asking-requires
asking_over-asking-requires c =
    (c.requires, asked (goal.at.asking_over-asking-requires c).After-is_asked ∙ c.if-not-is_asked.false)

pub returns : goal.returns
returns c =
    let a = c.args in
    c.said_of.ensures ∙ ap said_of c.judge.ensures
    ∙ list_asked (account_of a.morning.now a.noon.now) a.question a.sent a.numbers.now a.uses.now
    (asked (goal.at.returns c).After-is_asked ∙ c.if-not-is_asked.false)
    c.asking_over-asking.result c.asking_over-asking.ensures
