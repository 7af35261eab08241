-- The prompts and spreads that are given, and which of them are accepted.
-- Assumes nothing.
use Rattle.std.specs.Prelude.{ℕ, Bool, true, false, not, ◌&&◌, ◌||◌, List, [], ◌∷◌, take, eqb, leb, ltb, nat_abs}
use Rattle.exact.specs.Lists.{any}
use Rattle.spread.specs.Steps.{Open, Taker, legs_in, steps}
use Rattle.spread.specs.declared.Delta.{Delta}
use Rattle.spread.specs.declared.Leg.{Leg}
use Rattle.spread.specs.declared.Spread.{Spread}
use Rattle.spread.specs.declared.Table.{Table}
use Rattle.spread.specs.declared.Prompts.{Prompts}

-- the first `count` prompts, nothing of their net deltas used yet
abbrev pub opens_from : List ℕ → List Delta → List Open
opens_from [] ds = []
opens_from (t ∷ ts) [] = []
opens_from (t ∷ ts) (d ∷ ds) = record { tier = t; unused = d.0 } ∷ opens_from ts ds

abbrev pub open_of : Prompts → List Open
open_of p = take p.count (opens_from p.tier p.net)

-- the first `count` spreads, and their steps
abbrev pub table_spreads : Table → List Spread
table_spreads t = take t.count t.spread

abbrev pub steps_of : Table → List (List Taker)
steps_of t = steps (table_spreads t)

abbrev pub every {ℓ} : {A : Type ℓ} → (A → Bool) → List A → Bool
every p [] = true
every p (x ∷ xs) = p x && every p xs

-- the tiers, 0 to 15
abbrev pub tier_count : ℕ
tier_count = 16

-- the places of the arrays of prompts, and of spreads
abbrev pub prompt_places : ℕ
prompt_places = 32

abbrev pub spread_places : ℕ
spread_places = 32

-- 128 rows of 100,000 lots at a delta of 1.0000
abbrev pub most_delta : ℕ
most_delta = 128000000000

abbrev pub sound_prompt : Open → Bool
sound_prompt p = ltb p.tier tier_count && leb (nat_abs p.unused) most_delta

abbrev pub sound_prompts : Prompts → Bool
sound_prompts p = leb p.count prompt_places && every sound_prompt (open_of p)

-- a tier, a side A or B, a ratio above 0
abbrev pub sound_leg : Leg → Bool
sound_leg l = ltb l.tier tier_count && ((eqb l.side 1 || eqb l.side 2) && ltb 0 l.ratio)

abbrev pub legs_alike : Leg → Leg → Bool
legs_alike l k = eqb l.tier k.tier && eqb l.side k.side

-- each leg is sound, and no two have the same tier and side
abbrev pub sound_legs_of : List Leg → Bool
sound_legs_of [] = false
sound_legs_of (l ∷ []) = sound_leg l
sound_legs_of (l ∷ k ∷ ls) = sound_leg l && (not (any (legs_alike l) (k ∷ ls)) && sound_legs_of (k ∷ ls))

abbrev pub sound_spread : Spread → Bool
sound_spread s = (eqb s.legs 2 || eqb s.legs 3) && sound_legs_of (legs_in s)

-- no ratio of the spread is in tenths
abbrev pub whole : Spread → Bool
whole s = not s.tenths

abbrev pub sound_table : Table → Bool
sound_table t = leb t.count spread_places && every sound_spread (table_spreads t)

abbrev pub sound : Prompts → Table → Bool
sound p t = sound_prompts p && sound_table t
