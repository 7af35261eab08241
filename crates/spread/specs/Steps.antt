-- "Spread steps (002)" of document 01 and request 2026-03 of document 02, read literally: the steps go over the prompts
-- themselves.
-- Deltas, pools and numbers of spreads are in ten-thousandths.
-- Assumes nothing.
use Rattle.std.specs.Prelude.{ℕ, suc, ◌-◌, ◌*◌, ◌/◌, min, Bool, true, false, cond, List, [], ◌∷◌, map, take, eqb, ℤ, pos, negsuc, ◌-ℤ◌}
use Rattle.exact.specs.Lists.{sum, least}
use Rattle.exact.specs.Rounding.{half_up}
pub use Rattle.exact.specs.Signed.{towards_zero}
use Rattle.spread.specs.declared.Leg.{Leg}
use Rattle.spread.specs.declared.Spread.{Spread}

-- The two sides of the market.
pub data Market : Type 0 where
  long short : Market

-- A prompt as a step finds it: its tier, and what of its net delta is unused so far.
pub record Open : Type 0 where
  pub tier : ℕ
  pub unused : ℤ

-- A leg in a step: the pool that it takes from, its ratio, and whether that is in tenths.
pub record Taker : Type 0 where
  pub market : Market
  pub tier : ℕ
  pub ratio : ℕ
  pub tenths : Bool

-- "A tier's long pool is the sum of its positive unused deltas, its short pool that of its negative ones, sign dropped."
abbrev pub on_side : Market → ℤ → ℕ
on_side long (pos n) = n
on_side long (negsuc n) = 0
on_side short (pos n) = 0
on_side short (negsuc n) = suc n

abbrev pub in_tier : Market → ℕ → Open → ℕ
in_tier m t p = cond (eqb p.tier t) (on_side m p.unused) 0

abbrev pub pool : Market → ℕ → List Open → ℕ
pool m t ps = sum (map (in_tier m t) ps)

-- "Each spread, in file order, is two steps: first A legs take long and B legs short, then the reverse."
abbrev pub first_market : ℕ → Market
first_market side = cond (eqb side 1) long short

abbrev pub second_market : ℕ → Market
second_market side = cond (eqb side 1) short long

abbrev pub taker : Bool → (ℕ → Market) → Leg → Taker
taker in_tenths_of market l = record { market = market l.side; tier = l.tier; ratio = l.ratio; tenths = in_tenths_of }

abbrev pub legs_in : Spread → List Leg
legs_in s = take s.legs s.leg

abbrev pub steps : List Spread → List (List Taker)
steps [] = []
steps (s ∷ ss) =
    map (taker s.tenths first_market) (legs_in s) ∷ map (taker s.tenths second_market) (legs_in s) ∷ steps ss

-- "The number formed is the smallest over its legs of pool divided by ratio, whole ten-thousandths, rounded down." Where
-- ratios are tenths, "The number is the smallest of 10 × pool / ratio, rounded down".
abbrev pub room : Bool → ℕ → ℕ → ℕ
room false p ratio = p / ratio
room true p ratio = 10 * p / ratio

abbrev pub room_for : List Open → Taker → ℕ
room_for ps t = room t.tenths (pool t.market t.tier ps) t.ratio

abbrev pub formed : List Taker → List Open → ℕ
formed ts ps = least (map (room_for ps) ts)

-- "Each leg takes number × ratio from the prompts of its tier on that side, earliest day first." Where ratios are tenths,
-- "each leg takes number × ratio / 10, rounded to a ten-thousandth, halves up".
abbrev pub use_of : Bool → ℕ → ℕ → ℕ
use_of false number ratio = number * ratio
use_of true number ratio = half_up (number * ratio) 10

abbrev pub leg_takes : ℕ → Taker → ℕ
leg_takes number t = use_of t.tenths number t.ratio

-- no prompt goes past zero
abbrev pub less : Open → ℕ → Open
less p a = record { tier = p.tier; unused = towards_zero p.unused a }

-- what a prompt gives to a leg that still wants an amount
abbrev pub gives : Taker → ℕ → Open → ℕ
gives t wanted p = min wanted (in_tier t.market t.tier p)

abbrev pub take_from : Taker → ℕ → List Open → List Open
take_from t wanted [] = []
take_from t wanted (p ∷ ps) = less p (gives t wanted p) ∷ take_from t (wanted - gives t wanted p) ps

abbrev pub after : List Taker → ℕ → List Open → List Open
after [] number ps = ps
after (t ∷ ts) number ps = after ts number (take_from t (leg_takes number t) ps)

-- "What one step leaves is handed to the next."
abbrev pub numbers : List (List Taker) → List Open → List ℕ
numbers [] ps = []
numbers (s ∷ ss) ps = formed s ps ∷ numbers ss (after s (formed s ps) ps)

abbrev pub left : List (List Taker) → List Open → List Open
left [] ps = ps
left (s ∷ ss) ps = left ss (after s (formed s ps) ps)

-- "Used and unused carry the sign of the net delta."
abbrev pub unused_of : List (List Taker) → List Open → List ℤ
unused_of ss ps = map (λ p. p.unused) (left ss ps)

abbrev pub minus : List ℤ → List ℤ → List ℤ
minus [] ys = []
minus (x ∷ xs) [] = []
minus (x ∷ xs) (y ∷ ys) = (x -ℤ y) ∷ minus xs ys

abbrev pub used_of : List (List Taker) → List Open → List ℤ
used_of ss ps = minus (map (λ p. p.unused) ps) (unused_of ss ps)

-- the first step of a spread, or the second
abbrev pub market_in : Bool → ℕ → Market
market_in false = first_market
market_in true = second_market

abbrev pub step_of : Bool → Spread → List Taker
step_of second s = map (taker s.tenths (market_in second)) (legs_in s)
