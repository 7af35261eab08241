-- What a spend uses of each prompt: the two parts of a net delta, in order of days, and their sums.
-- Assumes nothing.
use Prim.Native.Nat.{ℕ, zero, suc, ◌+◌, ◌-◌, ◌≤◌, ◌<◌, min}
use native.Mathlib.Omega.{arith}
use mathlib.Core.Bool.{Bool, true, false, cond}
use mathlib.Core.List.{List, [], ◌∷◌}
use mathlib.Core.Path.{◌≡◌, refl, sym, ◌∙◌, ap, subst}
use lib.Dec.{eqb}
use lib.IntN.{ℤ, pos, nat_abs, negsuc, ◌+ℤ◌, ◌-ℤ◌, -ℤ-+ℤ_cancel}
use borrow.Author.Tests.{eq-eqb}
use Rattle.exact.proofs.Integers.{taken_sign}
use Rattle.exact.specs.Signed.{with_sign_of}
use Rattle.spread.specs.Demand.{opposite, tier_at, net_at, delta_at, added_up}
use Rattle.spread.specs.Spend.{market_of, spend, deltas, used_by}
use Rattle.spread.specs.Steps.{Market, long, short, Open, on_side, in_tier, pool, towards_zero}
use Rattle.spread.proofs.Spending.{neg_long, neg_short, side_towards, pool-spend}

side_part : (f : Market → ℕ) (m : Market) (z : ℤ) → on_side m (with_sign_of z (min (f (market_of z)) (nat_abs z))) ≡ min (f m) (on_side m z)
side_part f long (pos n) = refl
side_part f long (negsuc n) = neg_long (min (f short) (suc n)) ∙ omega arith
side_part f short (pos n) = omega arith
side_part f short (negsuc n) = neg_short (min (f short) (suc n))

side_used : (f : Market → ℕ) (m : Market) (z : ℤ) → on_side m (z -ℤ towards_zero z (f (market_of z))) ≡ min (f m) (on_side m z)
side_used f m z = ap (on_side m) (taken_sign z (f (market_of z))) ∙ side_part f m z

none-opposite : (z : ℤ) → on_side (opposite z) z ≡ 0
none-opposite (pos n) = refl
none-opposite (negsuc n) = refl

-- used and unused are two parts of the net delta, neither of the opposite sign

pub parts_add : (w : Market → ℕ → ℕ) (ps : List Open) (k : ℕ) → delta_at (used_by w ps) k +ℤ delta_at (deltas (spend w ps)) k ≡ net_at ps k
parts_add w [] k = refl
parts_add w (p ∷ ps) zero = -ℤ-+ℤ_cancel p.unused (towards_zero p.unused (w (market_of p.unused) p.tier))
parts_add w (p ∷ ps) (suc k) = parts_add (λ m t. w m t - in_tier m t p) ps k

pub used_sign_lem : (w : Market → ℕ → ℕ) (ps : List Open) (k : ℕ) → on_side (opposite (net_at ps k)) (delta_at (used_by w ps) k) ≡ 0
used_sign_lem w [] k = refl
used_sign_lem w (p ∷ ps) zero =
    none (opposite p.unused) (side_used (λ m. w m p.tier) (opposite p.unused) p.unused) (none-opposite p.unused)
  where
    none : (m : Market) {x : ℕ} → x ≡ min (w m p.tier) (on_side m p.unused) → on_side m p.unused ≡ 0 → x ≡ 0
    none m e z = omega arith
used_sign_lem w (p ∷ ps) (suc k) = used_sign_lem (λ m t. w m t - in_tier m t p) ps k

pub unused_sign_lem : (w : Market → ℕ → ℕ) (ps : List Open) (k : ℕ) → on_side (opposite (net_at ps k)) (delta_at (deltas (spend w ps)) k) ≡ 0
unused_sign_lem w [] k = refl
unused_sign_lem w (p ∷ ps) zero =
    none (opposite p.unused) (side_towards (λ m. w m p.tier) (opposite p.unused) p.unused) (none-opposite p.unused)
  where
    none : (m : Market) {x : ℕ} → x ≡ on_side m p.unused - w m p.tier → on_side m p.unused ≡ 0 → x ≡ 0
    none m e z = omega arith
unused_sign_lem w (p ∷ ps) (suc k) = unused_sign_lem (λ m t. w m t - in_tier m t p) ps k

-- a prompt is touched only when every earlier one of its tier and side is used up

none_of_none : (m : Market) → on_side m (pos 0) ≡ 0
none_of_none long = refl
none_of_none short = refl

wanted_there : (w : Market → ℕ → ℕ) (ps : List Open) (m : Market) (j : ℕ) → 0 < on_side m (delta_at (used_by w ps) j) → 0 < w m (tier_at ps j)
wanted_there w [] m j h = let z = none_of_none m in absurd (omega arith)
wanted_there w (p ∷ ps) m zero h = let e = side_used (λ m. w m p.tier) m p.unused in omega arith
wanted_there w (p ∷ ps) m (suc j) h = let g = wanted_there (λ m t. w m t - in_tier m t p) ps m j h in omega arith

pub earlier_first : (w : Market → ℕ → ℕ) (ps : List Open) (m : Market) (i j : ℕ) → i < j → tier_at ps i ≡ tier_at ps j
    → 0 < on_side m (delta_at (used_by w ps) j) → on_side m (delta_at (deltas (spend w ps)) i) ≡ 0
earlier_first w [] m i j l e h = none_of_none m
earlier_first w (p ∷ ps) m i zero l e h = absurd (omega arith)
earlier_first w (p ∷ ps) m zero (suc j) l e h =
    used_up (w m p.tier) (on_side m p.unused) (side_towards (λ m. w m p.tier) m p.unused) wanted
  where
    own : in_tier m p.tier p ≡ on_side m p.unused
    own = rw (eq-eqb p.tier p.tier refl)

    wanted : 0 < w m p.tier - on_side m p.unused
    wanted =
        rw own at
        (subst (λ (t : ℕ). 0 < w m t - in_tier m t p) (sym e) (wanted_there (λ m t. w m t - in_tier m t p) ps m j h))

    used_up : (a x : ℕ) {y : ℕ} → y ≡ x - a → 0 < a - x → y ≡ 0
    used_up a x e h = omega arith
earlier_first w (p ∷ ps) m (suc i) (suc j) l e h = earlier_first (λ m t. w m t - in_tier m t p) ps m i j (omega arith) e h

-- used deltas of a tier and side add up to what was wanted of it

used_and_left : (w : Market → ℕ → ℕ) (m : Market) (t : ℕ) (ps : List Open) → added_up m t ps (used_by w ps) + pool m t (spend w ps) ≡ pool m t ps
used_and_left w m t [] = refl
used_and_left w m t (p ∷ ps) = let rest = used_and_left (λ m t. w m t - in_tier m t p) m t ps in let own = here in omega arith
  where
    here : cond (eqb p.tier t) (on_side m (p.unused -ℤ towards_zero p.unused (w (market_of p.unused) p.tier))) 0
        + cond (eqb p.tier t) (on_side m (towards_zero p.unused (w (market_of p.unused) p.tier))) 0
        ≡ cond (eqb p.tier t) (on_side m p.unused) 0
    here = go (eqb p.tier t)
      where
        go : (b : Bool) → cond b (on_side m (p.unused -ℤ towards_zero p.unused (w (market_of p.unused) p.tier))) 0
            + cond b (on_side m (towards_zero p.unused (w (market_of p.unused) p.tier))) 0 ≡ cond b (on_side m p.unused) 0
        go true = let a = side_used (λ m. w m p.tier) m p.unused in let b = side_towards (λ m. w m p.tier) m p.unused in omega arith
        go false = refl

pub used_adds : (w : Market → ℕ → ℕ) (m : Market) (t : ℕ) (ps : List Open) → w m t ≤ pool m t ps → added_up m t ps (used_by w ps) ≡ w m t
used_adds w m t ps h = let a = used_and_left w m t ps in let b = pool-spend w m t ps in omega arith
