-- What the check of a pair of files hands out, and the verdict by what it handed out of each.
-- Assumes nothing.
use Rattle.std.specs.Prelude.{ℕ, ◌≡◌, true, cond, List, eqb, get_or, Ok, Err}
use Rattle.account.specs.PartNumbers.{part, entry_part, rate_part}
use Rattle.account.specs.Records.{records}
use Rattle.account.specs.code.Standing.{JoinedBy, Stands}
use Rattle.account.specs.code.Surveyed.{Surveyed}
use Rattle.account.specs.Answers.{Answer}
use Rattle.account.specs.declared.answers.Refusal.TheVariants.{NoonSpread}
use Rattle.account.specs.declared.check.Survey.{Survey}
use Rattle.account.specs.declared.noon.CheckedPair.{CheckedPair}
use Rattle.account.specs.declared.noon.Place.{Place}
use Rattle.account.specs.declared.noon.Verdict.{Verdict}
use Rattle.account.specs.Noon.{of_joined, of_morning, of_noon, clear, ◌then◌, few_joined, joined_verdict}

-- the records' verdict by what the check handed out of both files
abbrev pub noon_spread : Survey → Answer
noon_spread n =
    cond (eqb (get_or n.counts entry_part 0) 0)
    (cond (eqb (get_or n.counts rate_part 0) 0) (Ok tt) (Err (NoonSpread (get_or n.first rate_part 0))))
    (Err (NoonSpread (get_or n.first entry_part 0)))

abbrev pub verdict_by : Survey → Survey → ℕ → Verdict
verdict_by m n records =
    of_morning m.answer then of_noon n.answer
    then of_noon (noon_spread n) then of_joined (few_joined records)

pub record PairBy (morning noon : List ℕ) (r : CheckedPair) : Type 0 where
  pub verdict_is : r.verdict ≡ joined_verdict morning noon
  pub joined_by : (m n : Survey) → Surveyed morning m → Surveyed noon n → JoinedBy m n r.account
  pub stands : clear (joined_verdict morning noon) ≡ true → Stands morning noon r.account

abbrev pub place_by : ℕ → Survey → ℕ → Place
place_by n survey c = record { file = n; first = get_or survey.first (part 2 c) 0; records = get_or survey.counts (part 2 c) 0 }
