-- Request 2026-10, 'The clearing house's own spread list', for a question: what comes back for a list of spreads that others send.
-- Assumes nothing.
use Rattle.std.specs.Prelude.{ℕ, cond, List, ℤ, length, Result, Ok, Err}
use Rattle.record.specs.Layout.{Record}
use Rattle.account.specs.declared.answers.Refusal.{Refusal}
use Rattle.account.specs.declared.answers.Refusal.TheVariants.{NoSuchQuestion}
use Rattle.account.specs.declared.answers.Refusal.TheVariants as refusal
use Rattle.judging.specs.Judged.{judged_list}
use Rattle.judging.specs.declared.Verdict.{Verdict}
use Rattle.judging.specs.declared.Verdict.TheVariants as verdict
use Rattle.margin.specs.declared.lists.Judged.{Judged}
use Rattle.margin.specs.declared.lists.Judged.TheVariants.{Right, MoreThanFormed, LessThanFormed, WrongUse}
use Rattle.margin.specs.Books.{answered}
use Rattle.margin.specs.Uses.{steps_for, opens_for}

-- "Refusals: 18, step count or prompt count differs from the account's"
abbrev pub said_of : Verdict → Result Judged Refusal
said_of verdict.Right = Ok Right
said_of (verdict.MoreThanFormed step) = Ok (MoreThanFormed step)
said_of (verdict.LessThanFormed step) = Ok (LessThanFormed step)
said_of (verdict.WrongUse step) = Ok (WrongUse step)
said_of verdict.OtherCounts = Err refusal.OtherCounts

-- "it comes after the account's own faults and 11"
abbrev pub judged_over : List Record → ℕ → ℕ → List ℤ → List ℤ → Result Judged Refusal
judged_over account question sent numbers uses =
    cond (answered account question) (said_of (judged_list (steps_for account question) (opens_for account question) sent numbers uses))
    (Err (NoSuchQuestion (length account)))
