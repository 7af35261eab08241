-- No pool of accepted prompts, and no number that a step forms of it, outgrows 64 bits.
-- Assumes nothing.
use Prim.Native.Nat.{ℕ, zero, suc, ◌-◌, ◌*◌, ◌≤◌, ◌<◌, ◌^◌}
use native.Mathlib.Nat.{div-le_self, mul-le-mul}
use native.Mathlib.Omega.{arith}
use mathlib.Core.Bool.{Bool, true, false, cond}
use mathlib.Core.List.{List, [], ◌∷◌, map}
use mathlib.Core.Path.{◌≡◌, ap, subst⁻¹}
use lib.Dec.{eqb}
use lib.ListN.{length, get_or, set, take}
use lib.Seq.{take_all}
use Rattle.exact.specs.Lists.{least}
use Rattle.spread.specs.Accepted.{open_of, sound_prompts, prompt_places}
use Rattle.spread.specs.code.Cells.{cell_of, most_pool, most_number, Small, Pooled, pool_in, room_in, formed_in, less_in, after_in, numbers_over, Taken}
use Rattle.spread.specs.code.Pools.{PoolsOf, SmallPools, leg_at, taker_at, room_at, formed_of}
use Rattle.spread.specs.Steps.{Taker, pool, room, leg_takes}
use Rattle.spread.specs.declared.Prompts.{Prompts}
use Rattle.spread.specs.declared.Spread.{Spread}
use Rattle.spread.specs.declared.pools.Pools.{Pools}
use Rattle.spread.proofs.Every.{open_length}
use Rattle.spread.proofs.Gathering.{few, all_sound, pool_most}

pub pooled_small : (p : Prompts) (cells : List ℕ) → length p.tier ≡ prompt_places → length p.net ≡ prompt_places → sound_prompts p ≡ true
    → Pooled cells (open_of p)
    → Small cells
pooled_small p cells lt ln e h m t =
    let n = open_length p lt ln (few p e) in
    let a = ap (pool m t) (take_all prompt_places (open_of p) (omega (arith, n, few p e))) in
    omega (arith, a, h.each m t, pool_most m t prompt_places (open_of p) (all_sound p e))

set_most : (l : List ℕ) (i k v most : ℕ) → get_or l k 0 ≤ most → v ≤ most → get_or (set l i v) k 0 ≤ most
set_most [] i k v most h g = h
set_most (x ∷ l) zero zero v most h g = g
set_most (x ∷ l) zero (suc k) v most h g = h
set_most (x ∷ l) (suc i) zero v most h g = h
set_most (x ∷ l) (suc i) (suc k) v most h g = set_most l i k v most h g

small_less : (number : ℕ) (k : Taker) (cells : List ℕ) → Small cells → Small (less_in number k cells)
small_less number k cells h m t =
    set_most cells (cell_of k.market k.tier) (cell_of m t) (pool_in cells k - leg_takes number k) most_pool (h m t)
    (let own = h k.market k.tier in omega arith)

small_after : (ks : List Taker) (number : ℕ) (cells : List ℕ) → Small cells → Small (after_in ks number cells)
small_after [] number cells h = h
small_after (k ∷ ks) number cells h = small_after ks number (less_in number k cells) (small_less number k cells h)

pub small_taken : (ks : List Taker) (cells left : List ℕ) (number : ℕ) → Taken ks cells left number → Small cells → Small left
small_taken ks cells left number taken h = subst⁻¹ Small taken.leaves (small_after ks (formed_in ks cells) cells h)

pub room_most : (tenths : Bool) (p ratio : ℕ) → p ≤ most_pool → room tenths p ratio ≤ most_number
room_most false p ratio h = let d = div-le_self p ratio in omega arith
room_most true p ratio h = let d = div-le_self (10 * p) ratio in omega arith

pub least_first : (x : ℕ) (xs : List ℕ) → least (x ∷ xs) ≤ x
least_first x [] = omega arith
least_first x (y ∷ ys) = omega arith

formed_small : (ks : List Taker) (cells : List ℕ) → Small cells → formed_in ks cells ≤ most_number
formed_small [] cells h = omega arith
formed_small (k ∷ ks) cells h =
    let a = least_first (room_in cells k) (map (room_in cells) ks) in
    let b = room_most k.tenths (pool_in cells k) k.ratio (h k.market k.tier) in
    omega arith

pub numbers_over_small : (ss : List (List Taker)) (cells : List ℕ) → Small cells → (k : ℕ) → get_or (numbers_over ss cells) k 0 ≤ most_number
numbers_over_small [] cells h k = omega arith
numbers_over_small (s ∷ ss) cells h zero = formed_small s cells h
numbers_over_small (s ∷ ss) cells h (suc k) =
    numbers_over_small ss (after_in s (formed_in s cells) cells) (small_after s (formed_in s cells) cells h) k

-- the same of the pools of a step by value

pub pools_small : (cells : List ℕ) (second : Bool) (s : Spread) (p : Pools) → PoolsOf cells second s p → Small cells → SmallPools p
pools_small cells second s p h small = (at 0 h.one, at 1 h.two, at (cond (eqb s.legs 2) 0 2) h.three)
  where
    at : {n : ℕ} (k : ℕ) → n ≡ pool_in cells (taker_at second s k) → n ≤ most_pool
    at k e = subst⁻¹ (λ (x : ℕ). x ≤ most_pool) e (small (taker_at second s k).market (taker_at second s k).tier)

pub formed_most : (s : Spread) (p : Pools) → SmallPools p → formed_of s p ≤ most_number
formed_most s p h = go s.legs
  where
    go : (n : ℕ) → least (take n (room_at s 0 p.one ∷ room_at s 1 p.two ∷ room_at s 2 p.three ∷ [])) ≤ most_number
    go zero = omega arith
    go (suc n) =
        let a = least_first (room_at s 0 p.one) (take n (room_at s 1 p.two ∷ room_at s 2 p.three ∷ [])) in
        let b = room_most s.tenths p.one (leg_at s 0).ratio h.0 in
        omega arith

pub product_fits : (number ratio : ℕ) → number ≤ most_number → ratio < 65536 → number * ratio < 2 ^ 64
product_fits number ratio h g = let p : number * ratio ≤ most_number * 65535 = mul-le-mul h (below ratio g) in omega arith
  where
    below : (r : ℕ) → r < 65536 → r ≤ 65535
    below r h = omega arith
