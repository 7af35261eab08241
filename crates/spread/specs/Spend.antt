-- One spend over the prompts: what each tier and market side is to give in all, earliest prompt first.
-- Assumes nothing.
use Rattle.std.specs.Prelude.{ℕ, ◌-◌, List, [], ◌∷◌, map, ℤ, pos, negsuc}
use Rattle.spread.specs.Steps.{Market, long, short, Open, in_tier, less, minus}

-- the side that a delta lies on
abbrev pub market_of : ℤ → Market
market_of (pos n) = long
market_of (negsuc n) = short

-- each prompt gives what is wanted of its tier and side as far as it goes; the rest is wanted of the later ones
abbrev pub spend : (Market → ℕ → ℕ) → List Open → List Open
spend wanted [] = []
spend wanted (p ∷ ps) = less p (wanted (market_of p.unused) p.tier) ∷ spend (λ m t. wanted m t - in_tier m t p) ps

-- the deltas of prompts, and what a spend uses of them
abbrev pub deltas : List Open → List ℤ
deltas ps = map (λ p. p.unused) ps

abbrev pub used_by : (Market → ℕ → ℕ) → List Open → List ℤ
used_by wanted ps = minus (deltas ps) (deltas (spend wanted ps))
