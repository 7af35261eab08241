-- Demand 3, "For each accepted account and each spread table", as claims about the steps of Steps.antt, each under its words:
-- those of request 2026-03 for which lists it speaks of, and the first words beside them for a table without tenths.
-- `demand3_accepted` of proofs/Demand3.antt proves them of all prompts and spreads that are accepted.
-- Assumes nothing.
use Rattle.std.specs.Prelude.{ℕ, ◌+◌, ◌*◌, ◌≤◌, ◌<◌, ◌≡◌, Bool, true, false, cond, not, ◌&&◌, List, [], ◌∷◌, map, length, get_or, take, eqb, ltb, ℤ, pos, negsuc, ◌+ℤ◌}
use Rattle.exact.specs.Lists.{sum, any}
use Rattle.spread.specs.Steps.{Market, long, short, Open, Taker, on_side, pool, leg_takes, numbers, used_of, unused_of}

-- whether a leg draws on a tier and market side
abbrev pub same_market : Market → Market → Bool
same_market long long = true
same_market long short = false
same_market short long = false
same_market short short = true

abbrev pub draws : Market → ℕ → Taker → Bool
draws m t k = same_market k.market m && eqb t k.tier

-- what a leg, a step and all steps use of a tier and market side, rounded to ten-thousandths
abbrev pub leg_use : Market → ℕ → ℕ → Taker → ℕ
leg_use m t number k = cond (draws m t k) (leg_takes number k) 0

abbrev pub step_use : Market → ℕ → List Taker → ℕ → ℕ
step_use m t ks number = sum (map (leg_use m t number) ks)

abbrev pub total_use : Market → ℕ → List (List Taker) → List ℕ → ℕ
total_use m t [] xs = 0
total_use m t (s ∷ ss) [] = 0
total_use m t (s ∷ ss) (x ∷ xs) = step_use m t s x + total_use m t ss xs

-- what a leg and a step use of it before rounding, in tenths of a ten-thousandth
abbrev pub unrounded : Bool → ℕ → ℕ → ℕ
unrounded false number ratio = 10 * (number * ratio)
unrounded true number ratio = number * ratio

abbrev pub leg_unrounded : Market → ℕ → ℕ → Taker → ℕ
leg_unrounded m t number k = cond (draws m t k) (unrounded k.tenths number k.ratio) 0

abbrev pub step_unrounded : Market → ℕ → List Taker → ℕ → ℕ
step_unrounded m t ks number = sum (map (leg_unrounded m t number) ks)

-- "among all lists of spread amounts, one per step in priority order, none negative, in whole ten-thousandths": "those in which
-- each step's unrounded use is no more than the net delta less the rounded uses of the steps before it", on each tier and side
pub record Feasible (ss : List (List Taker)) (ps : List Open) (xs : List ℕ) : Type 0 where
  pub one_per_step : length xs ≡ length ss
  pub within : (m : Market) (t j : ℕ) → j < length ss
      → step_unrounded m t (get_or ss j []) (get_or xs j 0) + 10 * total_use m t (take j ss) xs ≤ 10 * pool m t ps

-- the first words: "whose total use on each tier and market side is within the net deltas there"
pub record TotalWithin (ss : List (List Taker)) (ps : List Open) (xs : List ℕ) : Type 0 where
  pub one_per_step : length xs ≡ length ss
  pub within : (m : Market) (t : ℕ) → total_use m t ss xs ≤ pool m t ps

-- no ratio of the steps is in tenths
abbrev pub whole_step : List Taker → Bool
whole_step ks = not (any (λ k. k.tenths) ks)

abbrev pub whole_steps : List (List Taker) → Bool
whole_steps [] = true
whole_steps (s ∷ ss) = whole_step s && whole_steps ss

-- "at the first step where another differs"
pub record FirstDifference (xs ys : List ℕ) (k : ℕ) : Type 0 where
  pub before : (j : ℕ) → j < k → get_or xs j 0 ≡ get_or ys j 0
  pub here : get_or xs k 0 ≡ get_or ys k 0 → ⊥

-- "ours is one, and at the first step where another differs, ours is larger": hence ours is the only such list
pub record FirstAmong (one : List ℕ → Type 0) (ours : List ℕ) : Type 0 where
  pub is_one : one ours
  pub larger : (ys : List ℕ) (k : ℕ) → one ys → FirstDifference ours ys k → get_or ys k 0 < get_or ours k 0
  pub only : (xs : List ℕ) → one xs
      → ((ys : List ℕ) (k : ℕ) → one ys → FirstDifference xs ys k → get_or ys k 0 < get_or xs k 0) → xs ≡ ours

-- where no ratio is in tenths the first words name the same lists, and hold
pub record FirstWords (ss : List (List Taker)) (ps : List Open) : Type 0 where
  pub there : (xs : List ℕ) → Feasible ss ps xs → TotalWithin ss ps xs
  pub back : (xs : List ℕ) → TotalWithin ss ps xs → Feasible ss ps xs
  pub first : FirstAmong (TotalWithin ss ps) (numbers ss ps)

-- "neither part has the opposite sign": a part of a long net delta has nothing short, one of a short nothing long
abbrev pub opposite : ℤ → Market
opposite (pos n) = short
opposite (negsuc n) = long

-- the prompts' tiers and net deltas, the latter by place
abbrev pub tier_at : List Open → ℕ → ℕ
tier_at ps k = get_or (map (λ p. p.tier) ps) k 0

abbrev pub net_at : List Open → ℕ → ℤ
net_at ps k = get_or (map (λ p. p.unused) ps) k (pos 0)

abbrev pub delta_at : List ℤ → ℕ → ℤ
delta_at zs k = get_or zs k (pos 0)

-- deltas of the prompts of a tier on a side, added up
abbrev pub added_up : Market → ℕ → List Open → List ℤ → ℕ
added_up m t [] zs = 0
added_up m t (p ∷ ps) [] = 0
added_up m t (p ∷ ps) (z ∷ zs) = cond (eqb p.tier t) (on_side m z) 0 + added_up m t ps zs

pub record Demand3 (ss : List (List Taker)) (ps : List Open) : Type 0 where
  -- "ours is one, and at the first step where another differs, ours is larger"
  pub first : FirstAmong (Feasible ss ps) (numbers ss ps)
  pub first_words : whole_steps ss ≡ true → FirstWords ss ps
  -- rounded as they are, the uses of such a list never take more than a pool has
  pub enough : (xs : List ℕ) → Feasible ss ps xs → (m : Market) (t : ℕ) → total_use m t ss xs ≤ pool m t ps
  -- "At each prompt, used plus unused equals net"
  pub adds : (k : ℕ) → delta_at (used_of ss ps) k +ℤ delta_at (unused_of ss ps) k ≡ net_at ps k
  -- "neither part has the opposite sign"
  pub used_sign : (k : ℕ) → on_side (opposite (net_at ps k)) (delta_at (used_of ss ps) k) ≡ 0
  pub unused_sign : (k : ℕ) → on_side (opposite (net_at ps k)) (delta_at (unused_of ss ps) k) ≡ 0
  -- "earlier dates of a tier and side are used up first"
  pub earlier : (m : Market) (i j : ℕ) → i < j → tier_at ps i ≡ tier_at ps j
      → 0 < on_side m (delta_at (used_of ss ps) j) → on_side m (delta_at (unused_of ss ps) i) ≡ 0
  -- "and used deltas add up to the list's use", "to the rounded uses"
  pub sums : (m : Market) (t : ℕ) → added_up m t ps (used_of ss ps) ≡ total_use m t ss (numbers ss ps)

-- Steps that can be run: at least one leg, no ratio 0, no two legs on one pool.
abbrev pub sound_legs : List Taker → Bool
sound_legs [] = true
sound_legs (k ∷ ks) = ltb 0 k.ratio && (not (any (draws k.market k.tier) ks) && sound_legs ks)

abbrev pub sound_step : List Taker → Bool
sound_step [] = false
sound_step (k ∷ ks) = sound_legs (k ∷ ks)

abbrev pub sound_steps : List (List Taker) → Bool
sound_steps [] = true
sound_steps (s ∷ ss) = sound_step s && sound_steps ss
