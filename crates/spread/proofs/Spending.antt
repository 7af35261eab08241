-- One spend at the end leaves the prompts as the steps leave them, each leg taking by itself: spends add up.
-- Assumes nothing.
use Prim.Native.Nat.{ℕ, zero, suc, ◌+◌, ◌-◌, min}
use native.Mathlib.Nat.{zero-sub}
use native.Mathlib.Omega.{arith}
use mathlib.Core.Bool.{Bool, true, false, cond, ◌&&◌, false≢true}
use mathlib.Core.List.{List, [], ◌∷◌}
use mathlib.Core.Path.{◌≡◌, refl, sym, ◌∙◌, ap, ap₂, fun_ext}
use lib.Dec.{eqb}
use lib.IntN.{ℤ, pos, negsuc, neg_ℤ}
use borrow.Author.Tests.{eqb-true}
use Rattle.exact.proofs.Integers.{towards_zero-none}
use Rattle.spread.specs.Demand.{same_market, draws, leg_use, step_use, total_use}
use Rattle.spread.specs.Spend.{market_of, spend}
use Rattle.spread.specs.Steps.{Market, long, short, Open, Taker, on_side, in_tier, pool, leg_takes, towards_zero, less, gives, take_from, formed, after}
use Rattle.spread.specs.Steps.{numbers, left}
use Rattle.spread.proofs.Both.{and_left, and_right}

-- a delta moved towards zero

pub neg_long : (k : ℕ) → on_side long (neg_ℤ (pos k)) ≡ 0
neg_long zero = refl
neg_long (suc k) = refl

pub neg_short : (k : ℕ) → on_side short (neg_ℤ (pos k)) ≡ k
neg_short zero = refl
neg_short (suc k) = refl

pub side_towards : (f : Market → ℕ) (m : Market) (z : ℤ) → on_side m (towards_zero z (f (market_of z))) ≡ on_side m z - f m
side_towards f long (pos n) = refl
side_towards f long (negsuc n) = neg_long (suc n - f short) ∙ sym (zero-sub (f long))
side_towards f short (pos n) = sym (zero-sub (f short))
side_towards f short (negsuc n) = neg_short (suc n - f short)

module _ (f g : Market → ℕ) where
  after-short : (n k : ℕ) → suc n - f short ≡ k → towards_zero (neg_ℤ (pos k)) (g (market_of (neg_ℤ (pos k)))) ≡ neg_ℤ (pos (suc n - (f short + g short)))
  after-short n zero e = ap pos (zero-sub (g long)) ∙ ap (λ k. neg_ℤ (pos k)) (zero_eq (f short) (g short) n e)
    where
      zero_eq : (a b n : ℕ) → suc n - a ≡ 0 → 0 ≡ suc n - (a + b)
      zero_eq a b n e = omega arith
  after-short n (suc k) e = ap (λ k. neg_ℤ (pos k)) (suc_eq (f short) (g short) n k e)
    where
      suc_eq : (a b n k : ℕ) → suc n - a ≡ suc k → suc k - b ≡ suc n - (a + b)
      suc_eq a b n k e = omega arith

  towards_towards : (z : ℤ) → towards_zero (towards_zero z (f (market_of z))) (g (market_of (towards_zero z (f (market_of z))))) ≡ towards_zero z
      (f (market_of z) + g (market_of z))
  towards_towards (pos n) = ap pos (both (f long) (g long))
    where
      both : (a b : ℕ) → n - a - b ≡ n - (a + b)
      both a b = omega arith
  towards_towards (negsuc n) = after-short n (suc n - f short) refl

-- what a tier and side has after a spend

module _ (w : Market → ℕ → ℕ) where
  pub tier-less : (m : Market) (t : ℕ) (p : Open) → in_tier m t (less p (w (market_of p.unused) p.tier)) ≡ in_tier m t p - w m t
  tier-less m t p = go (eqb p.tier t) refl
    where
      go : (b : Bool) → eqb p.tier t ≡ b → cond b (on_side m (towards_zero p.unused (w (market_of p.unused) p.tier))) 0 ≡ cond b
          (on_side m p.unused) 0 - w m t
      go true e = rw (eqb-true p.tier t e) (side_towards (λ m. w m t) m p.unused)
      go false e = sym (zero-sub (w m t))

pub pool-spend : (w : Market → ℕ → ℕ) (m : Market) (t : ℕ) (ps : List Open) → pool m t (spend w ps) ≡ pool m t ps - w m t
pool-spend w m t [] = sym (zero-sub (w m t))
pool-spend w m t (p ∷ ps) = both (in_tier m t p) (pool m t ps) (w m t) (tier-less w m t p) (pool-spend (λ m t. w m t - in_tier m t p) m t ps)
  where
    both : (i q a : ℕ) {x y : ℕ} → x ≡ i - a → y ≡ q - (a - i) → x + y ≡ i + q - a
    both i q a ex ey = omega arith

pub spend_same : (ps : List Open) {w v : Market → ℕ → ℕ} → ((m : Market) (t : ℕ) → w m t ≡ v m t) → spend w ps ≡ spend v ps
spend_same ps h = ap (λ f. spend f ps) (fun_ext (λ m. fun_ext (λ t. h m t)))

-- spends add up

-- a prompt at another unused delta
at_delta : (p : Open) {y z : ℤ} → y ≡ z → ◌≡◌ {A = Open} (record { tier = p.tier; unused = y }) (record { tier = p.tier; unused = z })
at_delta p e = ap (λ (z : ℤ). record { tier = p.tier; unused = z }) e

pub spend-none : (w : Market → ℕ → ℕ) → ((m : Market) (t : ℕ) → w m t ≡ 0) → (ps : List Open) → spend w ps ≡ ps
spend-none w h [] = refl
spend-none w h (p ∷ ps) =
    ap₂ ◌∷◌
    (at_delta p (ap (towards_zero p.unused) (h (market_of p.unused) p.tier) ∙ towards_zero-none p.unused))
    (spend-none (λ m t. w m t - in_tier m t p) (λ m t. ap (λ a. a - in_tier m t p) (h m t) ∙ zero-sub (in_tier m t p)) ps)

pub spend-spend : (w v : Market → ℕ → ℕ) (ps : List Open) → spend v (spend w ps) ≡ spend (λ m t. w m t + v m t) ps
spend-spend w v [] = refl
spend-spend w v (p ∷ ps) =
    ap₂ ◌∷◌
    (at_delta p (towards_towards (λ m. w m p.tier) (λ m. v m p.tier) p.unused))
    (spend-spend (λ m t. w m t - in_tier m t p) (λ m t. v m t - in_tier m t (less p (w (market_of p.unused) p.tier))) ps
    ∙ spend_same ps (λ m t. rest (w m t) (v m t) (in_tier m t p) (tier-less w m t p)))
  where
    rest : (a b i : ℕ) {j : ℕ} → j ≡ i - a → a - i + (b - j) ≡ a + b - i
    rest a b i e = omega arith

-- a leg takes as a spend does

same_market_lem : (m n : Market) → same_market m n ≡ true → n ≡ m
same_market_lem long long e = refl
same_market_lem long short e = absurd (false≢true e)
same_market_lem short long e = absurd (false≢true e)
same_market_lem short short e = refl

pub draws_market : (m : Market) (t : ℕ) (k : Taker) → draws m t k ≡ true → m ≡ k.market
draws_market m t k e = same_market_lem k.market m (and_left (same_market k.market m) (eqb t k.tier) e)

pub draws-tier : (m : Market) (t : ℕ) (k : Taker) → draws m t k ≡ true → t ≡ k.tier
draws-tier m t k e = eqb-true t k.tier (and_right (same_market k.market m) (eqb t k.tier) e)

as_far : (w n : ℕ) → n - min w n ≡ n - w
as_far w n = omega arith

nothing : (w n : ℕ) → n - min w 0 ≡ n - 0
nothing w n = omega arith

pub wants : (w : ℕ) (m : Market) (z : ℤ) (b : Bool) → towards_zero z (min w (cond b (on_side m z) 0)) ≡ towards_zero z (cond (same_market m (market_of z) && b) w 0)
wants w long (pos n) true = ap pos (as_far w n)
wants w long (pos n) false = ap pos (nothing w n)
wants w long (negsuc n) true = ap (λ k. neg_ℤ (pos k)) (nothing w (suc n))
wants w long (negsuc n) false = ap (λ k. neg_ℤ (pos k)) (nothing w (suc n))
wants w short (pos n) true = ap pos (nothing w n)
wants w short (pos n) false = ap pos (nothing w n)
wants w short (negsuc n) true = ap (λ k. neg_ℤ (pos k)) (as_far w (suc n))
wants w short (negsuc n) false = ap (λ k. neg_ℤ (pos k)) (nothing w (suc n))

pub take-spend : (k : Taker) (w : ℕ) (ps : List Open) → take_from k w ps ≡ spend (λ m t. cond (draws m t k) w 0) ps
take-spend k w [] = refl
take-spend k w (p ∷ ps) =
    ap₂ ◌∷◌ (at_delta p (wants w k.market p.unused (eqb p.tier k.tier)))
    (take-spend k (w - gives k w p) ps ∙ spend_same ps (λ m t. rest m t (draws m t k) refl))
  where
    rest : (m : Market) (t : ℕ) (b : Bool) → draws m t k ≡ b → cond b (w - gives k w p) 0 ≡ cond b w 0 - in_tier m t p
    rest m t true e = rw (draws_market m t k e, draws-tier m t k e) (go w (in_tier k.market k.tier p))
      where
        go : (a i : ℕ) → a - min a i ≡ a - i
        go a i = omega arith
    rest m t false e = sym (zero-sub (in_tier m t p))

pub after-spend : (ks : List Taker) (n : ℕ) (ps : List Open) → after ks n ps ≡ spend (λ m t. step_use m t ks n) ps
after-spend [] n ps = sym (spend-none (λ m t. 0) (λ m t. refl) ps)
after-spend (k ∷ ks) n ps =
    after-spend ks n (take_from k (leg_takes n k) ps)
    ∙ ap (spend (λ m t. step_use m t ks n)) (take-spend k (leg_takes n k) ps)
    ∙ spend-spend (λ m t. leg_use m t n k) (λ m t. step_use m t ks n) ps

pub left_spend : (ss : List (List Taker)) (ps : List Open) → left ss ps ≡ spend (λ m t. total_use m t ss (numbers ss ps)) ps
left_spend [] ps = sym (spend-none (λ m t. 0) (λ m t. refl) ps)
left_spend (s ∷ ss) ps =
    left_spend ss (after s (formed s ps) ps)
    ∙ ap (spend (λ m t. total_use m t ss (numbers ss (after s (formed s ps) ps)))) (after-spend s (formed s ps) ps)
    ∙ spend-spend (λ m t. step_use m t s (formed s ps)) (λ m t. total_use m t ss (numbers ss (after s (formed s ps) ps))) ps

pub pool-after : (m : Market) (t : ℕ) (s : List Taker) (n : ℕ) (ps : List Open) → pool m t (after s n ps) ≡ pool m t ps - step_use m t s n
pool-after m t s n ps = ap (pool m t) (after-spend s n ps) ∙ pool-spend (λ m t. step_use m t s n) m t ps
