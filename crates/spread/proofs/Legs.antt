-- The legs of a spread, one by one.
-- Assumes nothing.
use Prim.Native.Nat.{ℕ}
use native.Mathlib.Omega.{arith}
use mathlib.Core.Bool.{Bool}
use mathlib.Core.List.{List, [], ◌∷◌, map}
use mathlib.Core.Path.{◌≡◌, refl, ap₂}
use lib.ListN.{length, get_or, take}
use Rattle.spread.specs.Steps.{market_in, step_of, taker}
use Rattle.spread.specs.code.Pools.{leg_at}
use Rattle.spread.specs.declared.Leg.{Leg}
use Rattle.spread.specs.declared.Spread.{Spread}

pub three {ℓ} : {A : Type ℓ} (d : A) (l : List A) → length l ≡ 3 → l ≡ get_or l 0 d ∷ get_or l 1 d ∷ get_or l 2 d ∷ []
three d [] e = absurd (omega arith)
three d (x ∷ []) e = absurd (omega arith)
three d (x ∷ y ∷ []) e = absurd (omega arith)
three d (x ∷ y ∷ z ∷ []) e = refl
three d (x ∷ y ∷ z ∷ w ∷ l) e = absurd (omega arith)

-- the takers of a step, by how many legs the spread has
pub step_legs : (second : Bool) (s : Spread) → length s.leg ≡ 3 → (n : ℕ) → s.legs ≡ n
    → step_of second s ≡ map (taker s.tenths (market_in second)) (take n (leg_at s 0 ∷ leg_at s 1 ∷ leg_at s 2 ∷ []))
step_legs second s l n e = ap₂ (λ (k : ℕ) (ls : List Leg). map (taker s.tenths (market_in second)) (take k ls)) e (three _ s.leg l)
