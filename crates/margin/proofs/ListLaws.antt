-- A list of spreads for a question: the steps that judge it are the question's own.
-- Assumes nothing.
use Rattle.std.specs.Prelude.{Result, Err}
use Prim.Native.Nat.{ℕ}
use mathlib.Core.Bool.{Bool, true, false, cond}
use mathlib.Core.List.{List}
use mathlib.Core.Path.{◌≡◌, sym, ap, ap₂, ◌∙◌}
use lib.IntN.{ℤ}
use lib.ListN.{length}
use Rattle.record.specs.Layout.{Record}
use Rattle.account.specs.declared.answers.Refusal.TheVariants.{NoSuchQuestion}
use Rattle.judging.specs.Judged.{judged_list, judged}
use Rattle.judging.specs.declared.Verdict.TheVariants.{OtherCounts}
use Rattle.spread.specs.Accepted as given
use Rattle.spread.specs.Accepted.{open_of}
use Rattle.spread.specs.Steps.{Open, Taker}
use Rattle.margin.specs.declared.lists.Judged.{Judged}
use Rattle.account.specs.declared.answers.Refusal.{Refusal}
use Rattle.margin.specs.declared.uses.Asking.{Asking}
use Rattle.margin.specs.Books.{answered}
use Rattle.margin.specs.Lists.{said_of, judged_over}
use Rattle.margin.specs.Uses.{steps_for, opens_for}
use Rattle.margin.specs.code.Asking.{Asks}

module _ (account : List Record) (question sent : ℕ) (xs us : List ℤ) where
  abbrev of : Bool → Result Judged Refusal
  of b = cond b (said_of (judged_list (steps_for account question) (opens_for account question) sent xs us)) (Err (NoSuchQuestion (length account)))

  pub list_not-asked : answered account question ≡ false → Err (NoSuchQuestion (length account)) ≡ judged_over account question sent xs us
  list_not-asked e = sym (ap of e)

  pub list_asked : answered account question ≡ true → (a : Asking) → Asks (steps_for account question) (opens_for account question) a
      → said_of (judged a.prompts a.table sent xs us) ≡ judged_over account question sent xs us
  list_asked e a is =
      ap said_of
      (ap (λ (b : Bool). cond b (judged_list (given.steps_of a.table) (open_of a.prompts) sent xs us) OtherCounts) is.accepted
      ∙ ap₂ (λ (ss : List (List Taker)) (ps : List Open). judged_list ss ps sent xs us) is.steps is.opens)
      ∙ sym (ap of e)
