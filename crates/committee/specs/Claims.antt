-- What request 2026-12 asks of the committee's figures, as claims about the definitions.
-- Assumes nothing.
use Rattle.std.specs.Prelude.{ℕ, ◌+◌, ◌*◌, ◌≤◌, ◌<◌, ◌^◌, ◌≡◌, true, List, map, ℤ, pos, length, get_or, take, drop}
use Rattle.exact.specs.Lists.{keep, sum}
use Rattle.account.specs.Answers.{number_of, record_of}
use Rattle.exact.specs.Iff.{Iff}
use Rattle.committee.specs.Answered.{Answered}
use Rattle.committee.specs.Committee.{total_number, is_accepted, accepted_count, refused_count, refusal_counts, summed, margin_summed}
use Rattle.committee.specs.Committee.{largest_margin, largest_place}
use Rattle.committee.specs.Committee.{mean_margin, mean_remainder, committee, most_accounts, committee_numbers, committee_answer, answered_run, after_committee}

-- ---- "Refusals: as 2026-08, 10 being for this answer; 19, more than 100 accounts, first."

pub record Exactly (bytes lengths : List ℕ) (lent : ℕ) : Type 0 where
  pub nineteen : Iff (number_of (committee_answer bytes lengths lent) ≡ 19) (most_accounts < length lengths)
  pub seventeen : Iff (number_of (committee_answer bytes lengths lent) ≡ 17) ((length lengths ≤ most_accounts) × (sum lengths ≡ length bytes → ⊥))
  pub ten : Iff (number_of (committee_answer bytes lengths lent) ≡ 10)
      ((length lengths ≤ most_accounts) × ((sum lengths ≡ length bytes) × (lent < committee_numbers)))
  pub no_record : record_of (committee_answer bytes lengths lent) ≡ 0

-- the answer at the front of the lent numbers, and nothing after it changed
pub record Written (bytes lengths : List ℕ) (lent : List ℤ) : Type 0 where
  pub as_many : length (committee (answered_run bytes lengths)) ≡ committee_numbers
  pub front : take committee_numbers (after_committee bytes lengths lent) ≡ map pos (committee (answered_run bytes lengths))
  pub rest : drop committee_numbers (after_committee bytes lengths lent) ≡ drop committee_numbers lent

-- ---- the numbers

-- the largest margin is that of the account at its place, no accepted account's is above it, and none before holds it
pub record Lowest (run : List Answered) (none : Answered) : Type 0 where
  pub within : largest_place run < length run
  pub accepted : is_accepted (get_or run (largest_place run) none) ≡ true
  pub holds : total_number (get_or run (largest_place run) none).numbers ≡ largest_margin run
  pub most : (i : ℕ) → i < length run → is_accepted (get_or run i none) ≡ true → total_number (get_or run i none).numbers ≤ largest_margin run
  pub before : (i : ℕ) → i < largest_place run → is_accepted (get_or run i none) ≡ true → total_number (get_or run i none).numbers < largest_margin run

-- "the mean margin as whole hundredths and a remainder"
pub record Mean (run : List Answered) : Type 0 where
  pub is : margin_summed run ≡ mean_margin run * accepted_count run + mean_remainder run
  pub below : mean_remainder run < accepted_count run

-- "with none accepted, largest, place, mean and remainder are 0"
pub record NoneAccepted (run : List Answered) : Type 0 where
  pub margin : margin_summed run ≡ 0
  pub largest : largest_margin run ≡ 0
  pub place : largest_place run ≡ 0
  pub mean : mean_margin run ≡ 0
  pub remainder : mean_remainder run ≡ 0

pub record Numbers (run : List Answered) : Type 0 where
  -- every account is counted once
  pub all : accepted_count run + refused_count run ≡ length run
  -- "Refused accounts enter no sum": each sum is that of the accepted accounts alone
  pub summed : (f : List ℤ → ℕ) → summed f run ≡ sum (map (λ a. f a.numbers) (keep is_accepted run))
  pub some : 0 < accepted_count run → Mean run × ((none : Answered) → Lowest run none)
  pub none : accepted_count run ≡ 0 → NoneAccepted run

-- ---- all of it

pub record Claims (bytes lengths : List ℕ) (lent : List ℤ) : Type 0 where
  pub exactly : Exactly bytes lengths (length lent)
  pub refused : (number_of (committee_answer bytes lengths (length lent)) ≡ 0 → ⊥) → after_committee bytes lengths lent ≡ lent
  pub accepted : number_of (committee_answer bytes lengths (length lent)) ≡ 0 → Written bytes lengths lent
  pub numbers : Numbers (answered_run bytes lengths)
  -- each refused account has one of the numbers 1 to 15
  pub refusals : sum (refusal_counts (answered_run bytes lengths)) ≡ refused_count (answered_run bytes lengths)
  -- no number outgrows 64 bits: a hundred margins stay below 2^63
  pub fits : length lengths ≤ most_accounts → margin_summed (answered_run bytes lengths) < 2 ^ 63
