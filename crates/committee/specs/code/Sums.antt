-- What the code holds while it goes over a run: what one account adds, and the sums so far.
-- Assumes nothing.
use Rattle.std.specs.Prelude.{ℕ, suc, ◌+◌, ◌*◌, ◌/◌, ◌%◌, ◌^◌, ◌≤◌, ◌<◌, ◌≡◌, Bool, cond, not, ◌&&◌, ◌||◌, List, [], ◌∷◌, ◌++◌, eqb, ltb, ℤ, length, get_or}
use Rattle.account.specs.Check.{most_contracts}
use Rattle.exact.specs.Lists.{one_if}
use Rattle.formulas.specs.Bounds.{longest_figures}
use Rattle.committee.specs.Answered.{Answered}
use Rattle.committee.specs.Committee.{scanning_at, interprompt_at, prompt_at, margin_at, total_number, over_contracts, has_credit, had_credit, is_above, above_risk}
use Rattle.committee.specs.Committee.{over_accepted, accepted_count, refused_count, refusal_count, margin_summed, largest_margin, largest_place, credit_count}
use Rattle.committee.specs.Committee.{above_count}
use Rattle.committee.specs.declared.contracts.Found.{Found}
use Rattle.committee.specs.declared.figures.Account.{Account}
use Rattle.committee.specs.declared.sums.Sums.{Sums}

-- an account's margin, in hundredths: at most 134,000,000,001,000 for each of 640 records, so that a hundred accounts stay below 2^63
abbrev pub most_total : ℕ
most_total = 85760000000640000

-- ---- one account

-- the numbers of an account's figures, within their bounds
pub record Fit (numbers : List ℤ) : Type 0 where
  pub room : length numbers ≡ longest_figures
  pub risk_within : (i : ℕ) → i < most_contracts → scanning_at numbers i + interprompt_at numbers i + prompt_at numbers i < 2 ^ 64
  pub margin_within : (i : ℕ) → i < most_contracts → margin_at numbers i ≤ most_total

pub record FoundAt (numbers : List ℤ) (i : ℕ) (r : Found) : Type 0 where
  pub margin_is : r.margin.0 ≡ margin_at numbers i
  pub credits_are : r.credits ≡ one_if (has_credit numbers i)
  pub above_is : r.above ≡ one_if (is_above numbers i)

pub record FoundIn (numbers : List ℤ) (n : ℕ) (r : Found) : Type 0 where
  pub margin_is : r.margin.0 ≡ over_contracts n (margin_at numbers)
  pub credits_are : r.credits ≡ over_contracts n (λ i. one_if (has_credit numbers i))
  pub above_is : r.above ≡ over_contracts n (λ i. one_if (is_above numbers i))
  pub few : r.above ≤ n

pub record AccountOf (a : Answered) (r : Account) : Type 0 where
  pub refusal_is : r.refusal ≡ a.refusal
  pub margin_is : r.margin.0 ≡ over_accepted total_number a
  pub credit_is : r.credit ≡ over_accepted (λ numbers. one_if (had_credit numbers)) a
  pub above_is : r.above ≡ over_accepted above_risk a
  pub margin_most : r.margin.0 ≤ most_total
  pub credit_most : r.credit ≤ 1
  pub above_most : r.above ≤ most_contracts

-- ---- the sums

pub record SumsOf (run : List Answered) (s : Sums) : Type 0 where
  pub accepted_is : s.accepted ≡ accepted_count run
  pub refused_is : s.refused ≡ refused_count run
  pub refusals_long : length s.refusals ≡ 15
  pub refusals_are : (k : ℕ) → k < 15 → get_or s.refusals k 0 ≡ refusal_count run (suc k)
  pub margin_is : s.margin.0 ≡ margin_summed run
  pub largest_is : s.largest.0 ≡ largest_margin run
  pub place_is : s.place ≡ largest_place run
  pub credits_are : s.credits ≡ credit_count run
  pub above_is : s.above ≡ above_count run

-- no more than so many accounts can come to
pub record Within (n : ℕ) (s : Sums) : Type 0 where
  pub accepted_most : s.accepted ≤ n
  pub refused_most : s.refused ≤ n
  pub refusals_most : (k : ℕ) → get_or s.refusals k 0 ≤ n
  pub margin_most : s.margin.0 ≤ n * most_total
  pub largest_most : s.largest.0 ≤ most_total
  pub place_most : s.place ≤ n
  pub credits_most : s.credits ≤ n
  pub above_most : s.above ≤ n * most_contracts

-- the counts of refusals, with one of a number more
pub record RefusalCounted (counts : List ℕ) (refusal : ℕ) (r : List ℕ) : Type 0 where
  pub as_many : length r ≡ 15
  pub each : (k : ℕ) → k < 15 → get_or r k 0 ≡ get_or counts k 0 + one_if (eqb refusal (suc k))

-- whether an account takes the largest margin over: it is the first accepted one, or its margin is above
abbrev pub leads : Sums → Account → Bool
leads s a = eqb a.refusal 0 && (eqb s.accepted 0 || ltb s.largest.0 a.margin.0)

-- the sums with an account more
pub record AccountAdded (s : Sums) (a : Account) (place : ℕ) (r : Sums) : Type 0 where
  pub accepted_is : r.accepted ≡ s.accepted + one_if (eqb a.refusal 0)
  pub refused_is : r.refused ≡ s.refused + one_if (not (eqb a.refusal 0))
  pub refusals_are : RefusalCounted s.refusals a.refusal r.refusals
  pub margin_is : r.margin.0 ≡ s.margin.0 + a.margin.0
  pub largest_is : r.largest.0 ≡ cond (leads s a) a.margin.0 s.largest.0
  pub place_is : r.place ≡ cond (leads s a) place s.place
  pub credits_are : r.credits ≡ s.credits + a.credit
  pub above_is : r.above ≡ s.above + a.above

-- the committee's numbers from the sums
abbrev pub later_numbers : Sums → List ℕ
later_numbers s =
    s.margin.0
    ∷ s.largest.0
    ∷ s.place
    ∷ s.credits
    ∷ s.above
    ∷ cond (eqb s.accepted 0) 0 (s.margin.0 / s.accepted)
    ∷ cond (eqb s.accepted 0) 0 (s.margin.0 % s.accepted)
    ∷ []

abbrev pub sums_numbers : Sums → List ℕ
sums_numbers s = s.accepted ∷ s.refused ∷ (s.refusals ++ later_numbers s)
