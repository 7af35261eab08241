-- Request 2026-10, 'The clearing house's own spread list', over any bytes: what comes back for a list of spreads that others send.
-- Assumes nothing.
use Rattle.std.specs.Prelude.{ℕ, List, ℤ, Result, Ok, Err}
use Rattle.account.specs.Checked.{checked}
use Rattle.account.specs.Noon.{joined_verdict}
use Rattle.account.specs.Records.{records}
use Rattle.account.specs.Joined.{account_of}
use Rattle.account.specs.Answers.{and_then}
use Rattle.account.specs.declared.answers.Refusal.{Refusal}
use Rattle.margin.specs.Lists.{judged_over}
use Rattle.margin.specs.declared.lists.Judged.{Judged}
use Rattle.margin.specs.declared.lists.Judged.TheVariants.{Right, MoreThanFormed, LessThanFormed, WrongUse}
use Rattle.lists.specs.declared.JudgedPair.{JudgedPair}

-- "it comes after the account's own faults and 11"
abbrev pub judged_to : List ℕ → ℕ → ℕ → List ℤ → List ℤ → Result Judged Refusal
judged_to file question sent numbers uses =
    and_then (checked file) (judged_over (records file) question sent numbers uses)

-- the same of the joined account, saying which file a refusal is about
abbrev pub of_pair : ℕ → Result Judged Refusal → JudgedPair
of_pair file judged = record { file = file; judged = judged }

abbrev pub joined_judged : List ℕ → List ℕ → ℕ → ℕ → List ℤ → List ℤ → JudgedPair
joined_judged morning noon question sent numbers uses =
    of_pair (joined_verdict morning noon).file
    (and_then (joined_verdict morning noon).answer (judged_over (account_of morning noon) question sent numbers uses))

-- as numbers: what is said, 0 where nothing is judged, 1 for a yes, 2 for more than can be formed, 3 for less, 4 for a wrong use; and the step
abbrev pub verdict_number : Result Judged Refusal → ℕ
verdict_number (Err r) = 0
verdict_number (Ok Right) = 1
verdict_number (Ok (MoreThanFormed step)) = 2
verdict_number (Ok (LessThanFormed step)) = 3
verdict_number (Ok (WrongUse step)) = 4

abbrev pub step_named : Result Judged Refusal → ℕ
step_named (Err r) = 0
step_named (Ok Right) = 0
step_named (Ok (MoreThanFormed step)) = step
step_named (Ok (LessThanFormed step)) = step
step_named (Ok (WrongUse step)) = step
