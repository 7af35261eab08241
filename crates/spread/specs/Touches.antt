-- Request 2026-11 of document 02, "how many times some step moved some prompt's unused delta towards zero": "The number equals the
-- count of such takes in 01's steps".
-- Assumes nothing.
use Rattle.std.specs.Prelude.{ℕ, ◌+◌, ◌-◌, ◌*◌, ◌≤◌, Bool, cond, List, [], ◌∷◌, map, ◌≡◌, ltb, ℤ, nat_abs, length}
use Rattle.exact.specs.Lists.{one_if, count, sum}
use Rattle.spread.specs.Accepted.{open_of, steps_of, sound, prompt_places, spread_places}
use Rattle.spread.specs.Steps.{Open, Taker, leg_takes, gives, take_from, formed, after, steps}
use Rattle.spread.specs.Uses.{uses_of}
use Rattle.spread.specs.declared.Prompts.{Prompts}
use Rattle.spread.specs.declared.Spread.{Spread}
use Rattle.spread.specs.declared.Table.{Table}

-- how many prompts a leg takes more than nothing of
abbrev pub leg_touches : Taker → ℕ → List Open → ℕ
leg_touches t wanted [] = 0
leg_touches t wanted (p ∷ ps) = one_if (ltb 0 (gives t wanted p)) + leg_touches t (wanted - gives t wanted p) ps

abbrev pub step_touches : List Taker → ℕ → List Open → ℕ
step_touches [] number ps = 0
step_touches (t ∷ ts) number ps = leg_touches t (leg_takes number t) ps + step_touches ts number (take_from t (leg_takes number t) ps)

abbrev pub touches : List (List Taker) → List Open → ℕ
touches [] ps = 0
touches (s ∷ ss) ps = step_touches s (formed s ps) ps + touches ss (after s (formed s ps) ps)

-- of what is accepted; of what is refused there are none
abbrev pub touches_of : Prompts → Table → ℕ
touches_of p t = cond (sound p t) (touches (steps_of t) (open_of p)) 0

-- "all legs counted over both steps of every spread"
abbrev pub both_steps : List Spread → ℕ
both_steps ss = 2 * sum (map (λ s. s.legs) ss)

-- 32 prompts, and three legs in both steps of each of 32 spreads
abbrev pub most_touches : ℕ
most_touches = prompt_places + 2 * (3 * spread_places)

abbrev pub moved : ℤ → Bool
moved z = ltb 0 (nat_abs z)

-- What the request says of the number, for spreads that are accepted.
pub record Touched (ss : List Spread) (ps : List Open) : Type 0 where
  -- two legs of a step never move one prompt: the takes are the numbers other than 0 among what each step takes of each prompt
  pub moves : touches (steps ss) ps ≡ count moved (uses_of (steps ss) ps)
  -- "never exceeds the book's prompts (contracts in 16) plus all legs counted over both steps of every spread"
  pub bound : touches (steps ss) ps ≤ length ps + both_steps ss
