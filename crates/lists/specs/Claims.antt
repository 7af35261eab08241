-- What request 2026-10 asks of a list that is sent for an account, as claims about the definitions: the refusals in their order, each
-- exactly when, and the claims about a verdict, in demand 3's words, of the question's own steps.
-- Assumes nothing.
use Rattle.std.specs.Prelude.{ℕ, ◌≡◌, true, false, List, ℤ, length, Result, Err}
use Rattle.record.specs.Layout.{Record}
use Rattle.account.specs.Checked.{checked}
use Rattle.account.specs.Noon.{clear, joined_verdict}
use Rattle.account.specs.Records.{records}
use Rattle.account.specs.Joined.{account_of}
use Rattle.account.specs.declared.answers.Refusal.{Refusal}
use Rattle.account.specs.declared.answers.Refusal.TheVariants.{NoSuchQuestion, OtherCounts}
use Rattle.judging.specs.Claims as judging
use Rattle.exact.specs.Iff.{Iff}
use Rattle.judging.specs.Claims.{SameCounts}
use Rattle.judging.specs.Judged.{judged_list}
use Rattle.margin.specs.Books.{answered}
use Rattle.margin.specs.Lists.{said_of}
use Rattle.margin.specs.Questions.{not_refused}
use Rattle.margin.specs.Uses.{steps_for, opens_for}
use Rattle.margin.specs.declared.lists.Judged.{Judged}
use Rattle.lists.specs.Lists.{judged_to, of_pair, joined_judged}

-- of an account that is accepted: 11, then 18, then a verdict that says the truth
pub record OfAccount (account : List Record) (question sent : ℕ) (xs us : List ℤ) (said : Result Judged Refusal) : Type 0 where
  pub eleven : answered account question ≡ false → said ≡ Err (NoSuchQuestion (length account))
  pub eighteen : answered account question ≡ true
      → Iff (said ≡ Err OtherCounts) (SameCounts (steps_for account question) (opens_for account question) sent xs us → ⊥)
  pub judged : answered account question ≡ true
      → said ≡ said_of (judged_list (steps_for account question) (opens_for account question) sent xs us)
  pub truth : answered account question ≡ true
      → judging.Claims (steps_for account question) (opens_for account question) sent xs us

-- "it comes after the account's own faults and 11"
pub record Claims (file : List ℕ) (question sent : ℕ) (xs us : List ℤ) : Type 0 where
  pub refused : (r : Refusal) → checked file ≡ Err r → judged_to file question sent xs us ≡ Err r
  pub asked : not_refused (checked file) ≡ true → OfAccount (records file) question sent xs us (judged_to file question sent xs us)

-- the same of a pair
pub record PairClaims (morning noon : List ℕ) (question sent : ℕ) (xs us : List ℤ) : Type 0 where
  pub refused : (r : Refusal) → (joined_verdict morning noon).answer ≡ Err r
      → joined_judged morning noon question sent xs us ≡ of_pair (joined_verdict morning noon).file (Err r)
  pub file : clear (joined_verdict morning noon) ≡ true → (joined_judged morning noon question sent xs us).file ≡ 0
  pub asked : clear (joined_verdict morning noon) ≡ true
      → OfAccount (account_of morning noon) question sent xs us (joined_judged morning noon question sent xs us).judged
