-- "The delta book that shows who paid for what": what each step takes of each prompt.
-- Assumes nothing.
use Rattle.std.specs.Prelude.{Bool, ◌&&◌, List, [], ◌∷◌, ◌++◌, map, ◌≡◌, ℕ, ◌<◌, ℤ, length, get_or}
use Rattle.exact.specs.Lists.{sum_ℤ}
use Rattle.spread.specs.Accepted.{sound_prompts, sound_spread}
use Rattle.spread.specs.Steps.{Market, Open, Taker, formed, after, numbers, used_of}
use Rattle.spread.specs.Demand.{delta_at, added_up, step_use}
use Rattle.spread.specs.declared.Prompts.{Prompts}
use Rattle.spread.specs.declared.Spread.{Spread}

-- what a step by itself uses of each prompt
abbrev pub taken_of : List Taker → List Open → List ℤ
taken_of s ps = used_of (s ∷ []) ps

-- for each step in turn, what it takes of each prompt
abbrev pub takings : List (List Taker) → List Open → List (List ℤ)
takings [] ps = []
takings (s ∷ ss) ps = taken_of s ps ∷ takings ss (after s (formed s ps) ps)

-- the same as one list of numbers
abbrev pub in_one_list : List (List ℤ) → List ℤ
in_one_list [] = []
in_one_list (zs ∷ zss) = zs ++ in_one_list zss

abbrev pub uses_of : List (List Taker) → List Open → List ℤ
uses_of ss ps = in_one_list (takings ss ps)

-- What the takings are, beside the delta book: at each prompt they add up to what is used, and on each tier and market side
-- those of a step add up to what its legs take.
pub record WhoPaid (ss : List (List Taker)) (ps : List Open) : Type 0 where
  pub adds : (k : ℕ) → sum_ℤ (map (λ zs. delta_at zs k) (takings ss ps)) ≡ delta_at (used_of ss ps) k
  pub sums : (m : Market) (t j : ℕ) → j < length ss
      → added_up m t ps (get_or (takings ss ps) j []) ≡ step_use m t (get_or ss j []) (get_or (numbers ss ps) j 0)

-- whether a step can be taken
abbrev pub sound_for : Prompts → Spread → Bool
sound_for p s = sound_prompts p && sound_spread s
