-- "For each input a public function's promise determines the result, refusals too ... Two outcomes satisfying it are shown identical":
-- of the promises of the check that are records of equations. The others are one equation for the whole result.
-- Assumes nothing.
use Rattle.std.specs.Prelude.{ℕ, ◌≡◌, List, Result}
use Rattle.account.specs.code.Pair.{PairBy}
use Rattle.account.specs.code.Standing.{JoinedBy, AloneBy, CheckedBy}
use Rattle.account.specs.code.Surveyed.{Surveyed}
use Rattle.account.specs.declared.check.Survey.{Survey}
use Rattle.account.specs.declared.accounts.Account.{Account}
use Rattle.account.specs.declared.answers.Refusal.{Refusal}
use Rattle.account.specs.declared.noon.CheckedPair.{CheckedPair}

pub record Determined : Type 0 where
  pub survey : (file : List ℕ) (s t : Survey) → Surveyed file s → Surveyed file t → s ≡ t
  pub joined : (m n : Survey) (j k : Account) → JoinedBy m n j → JoinedBy m n k → j ≡ k
  pub alone : (first counts : List ℕ) (records : ℕ) (j k : Account) → AloneBy first counts records j → AloneBy first counts records k → j ≡ k
  pub file : (file : List ℕ) (r s : Result Account Refusal) → CheckedBy file r → CheckedBy file s → r ≡ s
  pub pair : (morning noon : List ℕ) (r s : CheckedPair) → PairBy morning noon r → PairBy morning noon s → r ≡ s
