-- No step uses or leaves more than the prompts have, or forms more than ten times that; of whole ratios none forms more.
-- Assumes nothing.
use Prim.Native.Nat.{ℕ, zero, suc, ◌-◌, ◌*◌, ◌≤◌, min, zero-le}
use native.Mathlib.Nat.{le_refl, le_trans, div-le_self, add-le-add}
use native.Mathlib.Omega.{arith}
use mathlib.Core.Path.{◌≡◌, ap, ◌∙◌, subst⁻¹}
use mathlib.Core.Bool.{Bool, true, false, cond, ◌||◌, true≢false}
use mathlib.Core.List.{List, [], ◌∷◌, map}
use lib.Dec.{eqb}
use lib.IntN.{ℤ, pos, negsuc, nat_abs}
use lib.ListN.{get_or}
use Rattle.exact.specs.Lists.{any, sum}
use borrow.Author.Tests.{not-true}
use Rattle.exact.proofs.Integers.{abs_towards_zero, taken_sign, abs_sign}
use Rattle.spread.specs.Steps.{Market, long, short, Open, Taker, on_side, in_tier, pool, room, room_for, formed, after, numbers, minus, used_of, unused_of}
use Rattle.spread.specs.Spend.{market_of, spend}
use Rattle.spread.specs.Demand.{step_use, total_use, whole_step, whole_steps}
use Rattle.spread.proofs.Both.{and_left, and_right}
use Rattle.spread.proofs.Spending.{after-spend, left_spend}
use Rattle.spread.proofs.Bounds.{least_first}

-- all deltas together, without their signs
abbrev pub sizes : List Open → ℕ
sizes ps = sum (map (λ p. nat_abs p.unused) ps)

side_most : (m : Market) (z : ℤ) → on_side m z ≤ nat_abs z
side_most long (pos n) = le_refl n
side_most long (negsuc n) = zero-le
side_most short (pos n) = zero-le
side_most short (negsuc n) = le_refl (suc n)

tier_most : (m : Market) (t : ℕ) (p : Open) → in_tier m t p ≤ nat_abs p.unused
tier_most m t p = go (eqb p.tier t)
  where
    go : (b : Bool) → cond b (on_side m p.unused) 0 ≤ nat_abs p.unused
    go true = side_most m p.unused
    go false = zero-le

pub pool_within : (m : Market) (t : ℕ) (ps : List Open) → pool m t ps ≤ sizes ps
pool_within m t [] = zero-le
pool_within m t (p ∷ ps) = add-le-add (tier_most m t p) (pool_within m t ps)

room_within : (tenths : Bool) (p ratio : ℕ) → room tenths p ratio ≤ 10 * p
room_within false p ratio = let d = div-le_self p ratio in omega arith
room_within true p ratio = div-le_self (10 * p) ratio

formed_within : (s : List Taker) (ps : List Open) → formed s ps ≤ 10 * sizes ps
formed_within [] ps = zero-le
formed_within (k ∷ ks) ps =
    let f = least_first (room_for ps k) (map (room_for ps) ks) in
    let r = room_within k.tenths (pool k.market k.tier ps) k.ratio in
    let p = pool_within k.market k.tier ps in
    omega arith

whole_within : (s : List Taker) (ps : List Open) → whole_step s ≡ true → formed s ps ≤ sizes ps
whole_within [] ps e = zero-le
whole_within (k ∷ ks) ps e =
    le_trans (least_first (room_for ps k) (map (room_for ps) ks))
    (le_trans (room_whole k.tenths (not-true (k.tenths || any (λ l. l.tenths) ks) e)) (pool_within k.market k.tier ps))
  where
    room_whole : (b : Bool) → b || any (λ l. l.tenths) ks ≡ false
        → room b (pool k.market k.tier ps) k.ratio ≤ pool k.market k.tier ps
    room_whole true f = absurd (true≢false f)
    room_whole false f = div-le_self (pool k.market k.tier ps) k.ratio

spend_sizes : (w : Market → ℕ → ℕ) (ps : List Open) → sizes (spend w ps) ≤ sizes ps
spend_sizes w [] = zero-le
spend_sizes w (p ∷ ps) =
    let e = abs_towards_zero p.unused (w (market_of p.unused) p.tier) in
    let r = spend_sizes (λ m t. w m t - in_tier m t p) ps in
    omega arith

after_sizes : (s : List Taker) (n : ℕ) (ps : List Open) → sizes (after s n ps) ≤ sizes ps
after_sizes s n ps = subst⁻¹ (λ (qs : List Open). sizes qs ≤ sizes ps) (after-spend s n ps) (spend_sizes (λ m t. step_use m t s n) ps)

-- every number formed
pub number_within : (ss : List (List Taker)) (ps : List Open) (j : ℕ) → get_or (numbers ss ps) j 0 ≤ 10 * sizes ps
number_within [] ps j = zero-le
number_within (s ∷ ss) ps zero = formed_within s ps
number_within (s ∷ ss) ps (suc j) =
    let n = number_within ss (after s (formed s ps) ps) j in
    let a = after_sizes s (formed s ps) ps in
    omega arith

pub whole_number_within : (ss : List (List Taker)) (ps : List Open) (j : ℕ) → whole_steps ss ≡ true → get_or (numbers ss ps) j 0 ≤ sizes ps
whole_number_within [] ps j e = zero-le
whole_number_within (s ∷ ss) ps zero e = whole_within s ps (and_left (whole_step s) (whole_steps ss) e)
whole_number_within (s ∷ ss) ps (suc j) e =
    le_trans (whole_number_within ss (after s (formed s ps) ps) j (and_right (whole_step s) (whole_steps ss) e)) (after_sizes s (formed s ps) ps)

-- what is left and what is used at each prompt
spent_at : (w : Market → ℕ → ℕ) (ps : List Open) (k : ℕ) → nat_abs (get_or (map (λ p. p.unused) (spend w ps)) k (pos 0)) ≤ nat_abs
    (get_or (map (λ p. p.unused) ps) k (pos 0))
spent_at w [] k = zero-le
spent_at w (p ∷ ps) zero = let e = abs_towards_zero p.unused (w (market_of p.unused) p.tier) in omega arith
spent_at w (p ∷ ps) (suc k) = spent_at (λ m t. w m t - in_tier m t p) ps k

taken_at : (w : Market → ℕ → ℕ) (ps : List Open) (k : ℕ)
    → nat_abs (get_or (minus (map (λ p. p.unused) ps) (map (λ p. p.unused) (spend w ps))) k (pos 0)) ≤ nat_abs (get_or (map (λ p. p.unused) ps) k (pos 0))
taken_at w [] k = zero-le
taken_at w (p ∷ ps) zero =
    let a = w (market_of p.unused) p.tier in
    let e = ap nat_abs (taken_sign p.unused a) ∙ abs_sign p.unused (min a (nat_abs p.unused)) in
    omega arith
taken_at w (p ∷ ps) (suc k) = taken_at (λ m t. w m t - in_tier m t p) ps k

pub unused_within : (ss : List (List Taker)) (ps : List Open) (k : ℕ) → nat_abs (get_or (unused_of ss ps) k (pos 0)) ≤ nat_abs
    (get_or (map (λ p. p.unused) ps) k (pos 0))
unused_within ss ps k = rw (left_spend ss ps) (spent_at (λ m t. total_use m t ss (numbers ss ps)) ps k)

pub used_within : (ss : List (List Taker)) (ps : List Open) (k : ℕ) → nat_abs (get_or (used_of ss ps) k (pos 0)) ≤ nat_abs (get_or (map (λ p. p.unused) ps) k (pos 0))
used_within ss ps k = rw (left_spend ss ps) (taken_at (λ m t. total_use m t ss (numbers ss ps)) ps k)

pub size_at : (ps : List Open) (k : ℕ) → nat_abs (get_or (map (λ p. p.unused) ps) k (pos 0)) ≤ sizes ps
size_at [] k = zero-le
size_at (p ∷ ps) zero = omega arith
size_at (p ∷ ps) (suc k) = let h = size_at ps k in omega arith
