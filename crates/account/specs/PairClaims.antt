-- What request 2026-01 demands of a pair of files, as claims about the definitions `joined_verdict` and `joined_prompts`: each refusal
-- is given exactly when the request says, the first in its order, and a contract's prompts are those of the joined account.
-- Assumes nothing.
use Rattle.std.specs.Prelude.{ℕ, ◌≤◌, ◌<◌, ◌≡◌, true, false, List, [], ◌⊎◌, length, Ok}
use Rattle.record.specs.Layout.{most_contract}
use Rattle.account.specs.Accepted.{listed, part_bytes}
use Rattle.account.specs.Answers.{number_of, record_of}
use Rattle.account.specs.Check.{records_checked, most_records}
use Rattle.exact.specs.Iff.{Iff}
use Rattle.account.specs.Claims.{RecordsGive, FirstRate, Rated}
use Rattle.account.specs.Noon.{clear, mornings_own, joined_verdict, joined_prompts}
use Rattle.account.specs.PartNumbers.{part}
use Rattle.account.specs.Parts.{prompts_of}
use Rattle.account.specs.Records.{records, record_at, record_count}
use Rattle.account.specs.Joined.{account_of}
use Rattle.account.specs.declared.noon.Verdict.{Verdict}

-- a verdict says refusal n and record k of a file: of the morning's, 1, the noon's, 2, or the joined account, 0
pub record Says (v : Verdict) (file n k : ℕ) : Type 0 where
  pub of : v.file ≡ file
  pub number : number_of v.answer ≡ n
  pub place : record_of v.answer ≡ k

-- neither file is refused by 01
pub record BothPass (morning noon : List ℕ) : Type 0 where
  pub first : records_checked morning ≡ Ok tt
  pub second : records_checked noon ≡ Ok tt

-- "the noon file has kind 5, at its first such record"; or kind 6
pub record FirstSpread (noon : List ℕ) (k : ℕ) : Type 0 where
  pub there : k < record_count noon
  pub here : mornings_own (record_at noon k) ≡ true
  pub before : (j : ℕ) → j < k → mornings_own (record_at noon j) ≡ false

pub record NoSpread (noon : List ℕ) : Type 0 where
  pub none : (j : ℕ) → j < record_count noon → mornings_own (record_at noon j) ≡ false

-- "Refusals: each file by 01's 1 to 9, morning first, saying which; then 12 ..; then, naming the joined record count, 13, more than
-- 640 records joined"; 2026-05: then 14 and 15, "naming the joined record"
pub record PairExactly (morning noon : List ℕ) : Type 0 where
  pub of_morning : (n k : ℕ) → 1 ≤ n → n ≤ 9 → Iff (Says (joined_verdict morning noon) 1 n k) (RecordsGive morning n k)
  pub of_noon : (n k : ℕ) → 1 ≤ n → n ≤ 9 → Iff (Says (joined_verdict morning noon) 2 n k) ((records_checked morning ≡ Ok tt) × RecordsGive noon n k)
  pub twelve : (k : ℕ) → Iff (Says (joined_verdict morning noon) 2 12 k) (BothPass morning noon × FirstSpread noon k)
  pub thirteen : (k : ℕ) → Iff (Says (joined_verdict morning noon) 0 13 k)
      (BothPass morning noon × (NoSpread noon × ((most_records < length (account_of morning noon)) × (length (account_of morning noon) ≡ k))))
  pub rates : (n k : ℕ) → 14 ≤ n → n ≤ 15 → Iff (Says (joined_verdict morning noon) 0 n k)
      (BothPass morning noon × (NoSpread noon × ((length (account_of morning noon) ≤ most_records) × FirstRate (account_of morning noon) n k)))
  pub accepted : Iff (Says (joined_verdict morning noon) 0 0 0)
      (BothPass morning noon × (NoSpread noon × ((length (account_of morning noon) ≤ most_records) × Rated (account_of morning noon))))

-- "saying which": a refusal of the morning's file is one of 1 to 9, of the noon file one of these or 12, of the joined account
-- 13, 14 or 15
pub record OfMorning (v : Verdict) : Type 0 where
  pub of : v.file ≡ 1
  pub least : 1 ≤ number_of v.answer
  pub most : number_of v.answer ≤ 9

pub record OfNoon (v : Verdict) : Type 0 where
  pub of : v.file ≡ 2
  pub number : ((1 ≤ number_of v.answer) × (number_of v.answer ≤ 9)) ⊎ (number_of v.answer ≡ 12)

pub record OfJoined (v : Verdict) : Type 0 where
  pub of : v.file ≡ 0
  pub number : (number_of v.answer ≡ 0) ⊎ ((13 ≤ number_of v.answer) × (number_of v.answer ≤ 15))

-- "hand back its prompt records as they stand in whichever file supplies them, an empty part if neither lists it or the pair's
-- records are refused"
pub record PromptsHanded (morning noon : List ℕ) (c : ℕ) : Type 0 where
  -- they are the prompts of that contract in the joined account
  pub joined : clear (joined_verdict morning noon) ≡ true → c ≤ most_contract
      → records (joined_prompts morning noon c) ≡ prompts_of c (account_of morning noon)
  -- as they stand in the noon file if it lists the contract, else in the morning's
  pub from_noon : clear (joined_verdict morning noon) ≡ true → c ≤ most_contract → listed c (records noon) ≡ true
      → joined_prompts morning noon c ≡ part_bytes noon (part 2 c)
  pub from_morning : clear (joined_verdict morning noon) ≡ true → c ≤ most_contract → listed c (records noon) ≡ false
      → listed c (records morning) ≡ true → joined_prompts morning noon c ≡ part_bytes morning (part 2 c)
  -- an empty part
  pub unlisted : listed c (records noon) ≡ false → listed c (records morning) ≡ false → joined_prompts morning noon c ≡ []
  pub refused : clear (joined_verdict morning noon) ≡ false → joined_prompts morning noon c ≡ []
  pub beyond : most_contract < c → joined_prompts morning noon c ≡ []

-- all that is claimed of the check of a pair
pub record PairClaims (morning noon : List ℕ) : Type 0 where
  pub exactly : PairExactly morning noon
  pub saying : OfMorning (joined_verdict morning noon) ⊎ (OfNoon (joined_verdict morning noon) ⊎ OfJoined (joined_verdict morning noon))
  pub prompts : (c : ℕ) → PromptsHanded morning noon c
