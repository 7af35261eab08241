-- A list of spreads put to a checked file or to a checked pair: the refusal, or what the account says of it.
-- Assumes nothing.
use Rattle.std.specs.Prelude.{Result, Ok, Err}
use Prim.Native.Nat.{ℕ}
use mathlib.Core.Bool.{true}
use mathlib.Core.List.{List, []}
use mathlib.Core.Path.{◌≡◌, sym, ap, ◌∙◌}
use borrow.Author.Tests.{eq-eqb}
use lib.IntN.{ℤ}
use Rattle.record.specs.Layout.{Record}
use Rattle.account.specs.Answers.{number_of}
use Rattle.account.specs.Checked.{checked}
use Rattle.account.specs.Noon.{clear, joined_verdict}
use Rattle.account.specs.code.Pair.{PairBy}
use Rattle.account.specs.Records.{records}
use Rattle.account.specs.code.Standing.{Stands, CheckedBy}
use Rattle.account.specs.Joined.{account_of}
use Rattle.account.specs.declared.accounts.Account.{Account}
use Rattle.account.specs.declared.answers.Refusal.{Refusal}
use Rattle.account.specs.Answers.{Answer, and_then}
use Rattle.account.specs.declared.noon.CheckedPair.{CheckedPair}
use Rattle.account.specs.declared.noon.Verdict.{Verdict}
use Rattle.account.proofs.Alone.{passes}
use Rattle.account.proofs.NoonLaws.{joined_accepted}
use Rattle.account.proofs.Places.{alone}
use Rattle.margin.specs.Lists.{judged_over}
use Rattle.margin.specs.declared.lists.Judged.{Judged}
use Rattle.lists.specs.Lists.{judged_to, of_pair, joined_judged}
use Rattle.lists.specs.declared.JudgedPair.{JudgedPair}

module _ (question sent : ℕ) (xs us : List ℤ) where
  pub list_refused : (file : List ℕ) (r : Refusal) → CheckedBy file (Err r) → Err r ≡ judged_to file question sent xs us
  list_refused file r by = ap (λ (a : Answer). and_then a (judged_over (records file) question sent xs us)) by.answer_is

  module _ (file : List ℕ) (account : Account) (by : CheckedBy file (Ok account)) (none : List ℕ) (nothing : none ≡ []) where
    pub file_stands : Stands file none account
    file_stands = by.accepted.stands none nothing

    pub list_accepted : (v : Result Judged Refusal) → v ≡ judged_over (account_of file none) question sent xs us → v ≡ judged_to file question sent xs us
    list_accepted v e =
        let ok : checked file ≡ Ok tt = sym by.answer_is in
        e ∙ ap (λ (a : List Record). judged_over a question sent xs us) (alone file none nothing (passes file ok).recorded)
        ∙ sym (ap (λ (a : Answer). and_then a (judged_over (records file) question sent xs us)) ok)

  module _ (morning noon : List ℕ) (r : CheckedPair) (by : PairBy morning noon r) where
    abbrev of_two : Verdict → JudgedPair
    of_two v = of_pair v.file (and_then v.answer (judged_over (account_of morning noon) question sent xs us))

    pub pair_refused : (e : Refusal) → r.verdict.answer ≡ Err e → of_pair r.verdict.file (Err e) ≡ joined_judged morning noon question sent xs us
    pair_refused e z =
        sym (ap (λ (a : Answer). of_pair r.verdict.file (and_then a (judged_over (account_of morning noon) question sent xs us))) z)
        ∙ ap of_two by.verdict_is

    module _ (z : r.verdict.answer ≡ Ok tt) where
      unrefused : clear (joined_verdict morning noon) ≡ true
      unrefused = ap clear (sym by.verdict_is) ∙ eq-eqb (number_of r.verdict.answer) 0 (ap number_of z)

      pub pair_stands : Stands morning noon r.account
      pair_stands = by.stands unrefused

      pub pair_accepted : (v : Result Judged Refusal) → v ≡ judged_over (account_of morning noon) question sent xs us
          → of_pair 0 v ≡ joined_judged morning noon question sent xs us
      pair_accepted v e = ap (of_pair 0) e ∙ sym (ap of_two (joined_accepted morning noon unrefused))
