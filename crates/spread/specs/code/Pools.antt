-- The pools of one step by value: which of the cells they are, and what the step leaves of them.
-- Assumes nothing.
use Rattle.std.specs.Prelude.{ℕ, ◌-◌, ◌≤◌, Bool, cond, List, [], ◌∷◌, ◌≡◌, eqb, length, get_or, set, take}
use Rattle.exact.specs.Lists.{least}
use Rattle.spread.specs.Steps.{Taker, taker, market_in, room, use_of}
use Rattle.spread.specs.code.Cells.{cell_of, pool_in, most_pool}
use Rattle.spread.specs.declared.Leg.{Leg}
use Rattle.spread.specs.declared.Spread.{Spread}
use Rattle.spread.specs.declared.pools.Pools.{Pools}

-- a leg by its place, and in a step
abbrev pub leg_at : Spread → ℕ → Leg
leg_at s k = get_or s.leg k (record { tier = 0; side = 0; ratio = 0 })

abbrev pub taker_at : Bool → Spread → ℕ → Taker
taker_at second s k = taker s.tenths (market_in second) (leg_at s k)

-- the pools of a step in the cells; where there are two legs, the third is as the first
pub record PoolsOf (cells : List ℕ) (second : Bool) (s : Spread) (p : Pools) : Type 0 where
  pub places : length s.leg ≡ 3
  pub one : p.one ≡ pool_in cells (taker_at second s 0)
  pub two : p.two ≡ pool_in cells (taker_at second s 1)
  pub three : p.three ≡ pool_in cells (taker_at second s (cond (eqb s.legs 2) 0 2))

abbrev pub SmallPools : Pools → Type 0
SmallPools p = (p.one ≤ most_pool) × (p.two ≤ most_pool) × (p.three ≤ most_pool)

abbrev pub lowest : Pools → ℕ
lowest p = least (p.one ∷ p.two ∷ p.three ∷ [])

-- the step of Steps.antt, on its pools
abbrev pub room_at : Spread → ℕ → ℕ → ℕ
room_at s k p = room s.tenths p (leg_at s k).ratio

abbrev pub formed_of : Spread → Pools → ℕ
formed_of s p = least (take s.legs (room_at s 0 p.one ∷ room_at s 1 p.two ∷ room_at s 2 p.three ∷ []))

abbrev pub used_at : Spread → ℕ → ℕ → ℕ
used_at s k number = use_of s.tenths number (leg_at s k).ratio

-- a step taken: the number that it forms, and what it leaves of its pools
pub record TakenOf (s : Spread) (had left : Pools) (number : ℕ) : Type 0 where
  pub formed : number ≡ formed_of s had
  pub one : left.one ≡ had.one - used_at s 0 number
  pub two : left.two ≡ had.two - used_at s 1 number
  pub three : left.three ≡ had.three - used_at s 2 number

-- the cells with the pools put where the legs take from
abbrev pub put_back_at : Bool → Spread → ℕ → ℕ → List ℕ → List ℕ
put_back_at second s k p cells = set cells (cell_of (taker_at second s k).market (taker_at second s k).tier) p

abbrev pub put_back_two : Bool → Spread → Pools → List ℕ → List ℕ
put_back_two second s p cells = put_back_at second s 1 p.two (put_back_at second s 0 p.one cells)

abbrev pub put_back_in : Bool → Spread → Pools → List ℕ → List ℕ
put_back_in second s p cells = cond (eqb s.legs 3) (put_back_at second s 2 p.three (put_back_two second s p cells)) (put_back_two second s p cells)
