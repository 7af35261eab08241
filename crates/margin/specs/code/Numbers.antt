-- The bounds within which the numbers of an answer are made.
-- Assumes nothing.
use Rattle.std.specs.Prelude.{ℕ, ◌^◌, ◌≤◌, ◌<◌, List, [], ◌∷◌, ◌++◌, map, ℤ, pos, length, get_or, take}
use Rattle.account.specs.Check.{most_contracts, most_prompts, most_spreads}
use Rattle.spread.specs.code.Lent.{spreads_from}
use Rattle.formulas.specs.declared.amount.Amount.{Amount}
use Rattle.formulas.specs.declared.line.Line.{Line}
use Rattle.formulas.specs.Bounds.{most_credits}
use Rattle.formulas.specs.code.Lines.{LineWithin, no_line}
use Rattle.formulas.specs.code.Sums.{interleaved}
use Rattle.margin.specs.Books.{threes}

abbrev pub amount_at : List Amount → ℕ → ℕ
amount_at amounts k = (get_or amounts k (record { 0 = 0 })).0

-- the lines of an accepted account's contracts with their credits
pub record LinesWithin (count : ℕ) (lines : List Line) (credits : List Amount) : Type 0 where
  pub most : count ≤ most_contracts
  pub line_within : (k : ℕ) → k < count → LineWithin (get_or lines k no_line)
  pub credit_within : (k : ℕ) → k < count → amount_at credits k ≤ most_credits

-- the net, used and unused deltas of so many prompts
pub record PromptsLent (count : ℕ) (nets used unused : List ℤ) : Type 0 where
  pub most : count ≤ most_prompts
  pub nets_there : count ≤ length nets
  pub used_there : count ≤ length used
  pub unused_there : count ≤ length unused

-- numbers of spreads that can be written signed
pub record SpreadsSigned (count : ℕ) (firsts seconds : List ℕ) : Type 0 where
  pub most : count ≤ most_spreads
  pub firsts_there : count ≤ length firsts
  pub seconds_there : count ≤ length seconds
  pub first_within : (k : ℕ) → k < count → get_or firsts k 0 < 2 ^ 63
  pub second_within : (k : ℕ) → k < count → get_or seconds k 0 < 2 ^ 63

-- the numbers of a book, by its lent arrays
abbrev pub numbers_in : ℕ → ℕ → List ℤ → List ℕ → List ℕ → List ℤ → List ℤ → ℕ → List ℤ
numbers_in prompts spreads nets first second used unused touches =
    (threes (take prompts nets) (take prompts used) (take prompts unused)
    ++ map pos (interleaved (take spreads (spreads_from first)) (take spreads (spreads_from second)))) ++ (pos touches ∷ [])
