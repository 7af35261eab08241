-- The steps on the cells are the steps on the prompts: two tiers and sides have one cell only if they are the same.
-- Assumes nothing.
use Prim.Native.Nat.{ℕ, ◌+◌, ◌-◌, ◌*◌, ◌≤◌, ◌<◌}
use native.Mathlib.Nat.{sub-zero}
use native.Mathlib.Omega.{arith}
use mathlib.Core.Bool.{Bool, true, false, cond, ◌&&◌, beq, and-false}
use mathlib.Core.List.{List, [], ◌∷◌, map}
use mathlib.Core.Path.{◌≡◌, refl, sym, ◌∙◌, ap, ap₂, subst, fun_ext}
use lib.Dec.{eqb, ltb}
use lib.ListN.{length, get_or, set, length-set, get_or-eq_default}
use lib.Seq.{get_or-set_same, get_or-set_other, set_out}
use borrow.Author.Tests.{eqb-true, eqb-false, eq-eqb, ne_eqb, ltb-true, ltb-false, lt-ltb, le-ltb}
use Rattle.exact.specs.Lists.{least}
use Rattle.spread.specs.code.Cells.{parity, cell_of, short_if, cell_at, Pooled, formed_in, less_in, after_in, numbers_over, left_in, pool_count}
use Rattle.spread.specs.Steps.{market_in, Market, long, short, Open, Taker, pool, room, leg_takes, take_from, formed, after, numbers, left}
use Rattle.spread.specs.Demand.{same_market, draws}
use Rattle.spread.specs.declared.Leg.{Leg}
use Rattle.spread.proofs.Spending.{draws_market, draws-tier, take-spend, pool-spend}
use Rattle.spread.specs.Accepted.{tier_count}

-- a test is as another that holds exactly when it does
same_test : (a b c d : ℕ) → (a ≡ b → c ≡ d) → (c ≡ d → a ≡ b) → eqb a b ≡ eqb c d
same_test a b c d f g = go (eqb c d) refl
  where
    go : (t : Bool) → eqb c d ≡ t → eqb a b ≡ t
    go true e = eq-eqb a b (g (eqb-true c d e))
    go false e = ne_eqb a b (λ h. eqb-false c d e (f h))

same_cell : (m n : Market) (t u : ℕ) → eqb (2 * t + parity m) (2 * u + parity n) ≡ same_market n m && eqb t u
same_cell long long t u = same_test (2 * t + 0) (2 * u + 0) t u (λ e. omega arith) (λ e. omega arith)
same_cell long short t u = ne_eqb (2 * t + 0) (2 * u + 1) (λ e. omega arith)
same_cell short long t u = ne_eqb (2 * t + 1) (2 * u + 0) (λ e. omega arith)
same_cell short short t u = same_test (2 * t + 1) (2 * u + 1) t u (λ e. omega arith) (λ e. omega arith)

parity_small : (m : Market) → parity m < 2
parity_small long = omega arith
parity_small short = omega arith

-- where a cell's pool stands: a tier in range, or no pool at all
pub in_range : (m : Market) (t : ℕ) → t < tier_count → cell_of m t ≡ 2 * t + parity m
in_range m t h = rw (lt-ltb t tier_count h)

pub out_of_range : (m : Market) (t : ℕ) → tier_count ≤ t → cell_of m t ≡ pool_count
out_of_range m t h = rw (le-ltb t tier_count h)

pub cell_small : (m : Market) (t : ℕ) → t < tier_count → cell_of m t < pool_count
cell_small m t h = let p = parity_small m in let e = in_range m t h in omega arith

pub cell_most : (m : Market) (t : ℕ) → cell_of m t ≤ pool_count
cell_most m t = go (ltb t tier_count) refl
  where
    go : (b : Bool) → ltb t tier_count ≡ b → cell_of m t ≤ pool_count
    go true e = let s = cell_small m t (ltb-true t tier_count e) in omega arith
    go false e = let o = out_of_range m t (ltb-false t tier_count e) in omega arith

no_cell : (cells : List ℕ) (m : Market) (t : ℕ) → length cells ≡ pool_count → tier_count ≤ t → cell_at cells m t ≡ 0
no_cell cells m t l h = ap (λ (k : ℕ). get_or cells k 0) (out_of_range m t h) ∙ get_or-eq_default cells 0 (omega arith)

pub same_cells : (m n : Market) (t u : ℕ) → u < tier_count → eqb (cell_of m t) (cell_of n u) ≡ same_market n m && eqb t u
same_cells m n t u h = go (ltb t tier_count) refl
  where
    go : (b : Bool) → ltb t tier_count ≡ b → eqb (cell_of m t) (cell_of n u) ≡ same_market n m && eqb t u
    go true e = ap₂ eqb (in_range m t (ltb-true t tier_count e)) (in_range n u h) ∙ same_cell m n t u
    go false e =
        ne_eqb (cell_of m t) (cell_of n u)
        (λ d. let s = cell_small n u h in let o = out_of_range m t (ltb-false t tier_count e) in omega arith)
        ∙ sym (ap (λ b. same_market n m && b) (ne_eqb t u (λ d. let g = ltb-false t tier_count e in omega arith)) ∙ and-false (same_market n m))

-- A legs are short in the second step, B legs in the first
side_short : (b second : Bool) → short_if (beq b second) ≡ cond second (cond b short long) (cond b long short)
side_short true true = refl
side_short true false = refl
side_short false true = refl
side_short false false = refl

pub side_market : (s : ℕ) (second : Bool) → short_if (beq (eqb s 1) second) ≡ market_in second s
side_market s true = side_short (eqb s 1) true
side_market s false = side_short (eqb s 1) false

-- the cell of a leg within the tiers
pub cell_in_step : (l : Leg) (second b : Bool) → l.tier < tier_count → beq (eqb l.side 1) second ≡ b
    → cell_of (market_in second l.side) l.tier ≡ 2 * l.tier + parity (short_if b)
cell_in_step l second b h e =
    ap (λ (m : Market). cell_of m l.tier) (sym (side_market l.side second))
    ∙ in_range (short_if (beq (eqb l.side 1) second)) l.tier h
    ∙ ap (λ (a : Bool). 2 * l.tier + parity (short_if a)) e

-- one cell changed
pub cell_set : (cells : List ℕ) (n : Market) (u v : ℕ) (m : Market) (t : ℕ) → length cells ≡ pool_count → u < tier_count
    → cell_at (set cells (cell_of n u) v) m t ≡ cond (same_market n m && eqb t u) v (cell_at cells m t)
cell_set cells n u v m t l h = go (same_market n m && eqb t u) (same_cells m n t u h)
  where
    go : (b : Bool) → eqb (cell_of m t) (cell_of n u) ≡ b → cell_at (set cells (cell_of n u) v) m t ≡ cond b v (cell_at cells m t)
    go true e =
        ap (λ (k : ℕ). get_or (set cells (cell_of n u) v) k 0) (eqb-true (cell_of m t) (cell_of n u) e)
        ∙ get_or-set_same cells (cell_of n u) v 0 (let s = cell_small n u h in omega arith)
    go false e = get_or-set_other cells (cell_of n u) (cell_of m t) v 0 (eqb-false (cell_of m t) (cell_of n u) e)

-- a pool lowered by an amount
pub cell_less : (cells : List ℕ) (k : Taker) (a : ℕ) (m : Market) (t : ℕ) → length cells ≡ pool_count
    → cell_at (set cells (cell_of k.market k.tier) (cell_at cells k.market k.tier - a)) m t ≡ cell_at cells m t - cond (draws m t k) a 0
cell_less cells k a m t l = go (ltb k.tier tier_count) refl
  where
    own : (b : Bool) → draws m t k ≡ b → cond b (cell_at cells k.market k.tier - a) (cell_at cells m t) ≡ cell_at cells m t - cond b a 0
    own true e = ap₂ (λ n u. cell_at cells n u - a) (sym (draws_market m t k e)) (sym (draws-tier m t k e))
    own false e = sym (sub-zero (cell_at cells m t))

    none : (b : Bool) → draws m t k ≡ b → tier_count ≤ k.tier → cell_at cells m t ≡ cell_at cells m t - cond b a 0
    none true e h = let z = no_cell cells m t l (subst (λ (u : ℕ). tier_count ≤ u) (sym (draws-tier m t k e)) h) in omega arith
    none false e h = sym (sub-zero (cell_at cells m t))

    go : (b : Bool) → ltb k.tier tier_count ≡ b
        → cell_at (set cells (cell_of k.market k.tier) (cell_at cells k.market k.tier - a)) m t ≡ cell_at cells m t - cond (draws m t k) a 0
    go true e =
        cell_set cells k.market k.tier (cell_at cells k.market k.tier - a) m t l (ltb-true k.tier tier_count e) ∙ own (draws m t k) refl
    go false e =
        ap (λ (l : List ℕ). cell_at l m t)
        (set_out cells (cell_of k.market k.tier) (cell_at cells k.market k.tier - a)
        (let o = out_of_range k.market k.tier (ltb-false k.tier tier_count e) in omega arith))
        ∙ none (draws m t k) refl (ltb-false k.tier tier_count e)

-- the steps, on cells that hold the pools of the prompts

pooled_less : (cells : List ℕ) (ps : List Open) (number : ℕ) (k : Taker) → Pooled cells ps → Pooled (less_in number k cells) (take_from k (leg_takes number k) ps)
pooled_less cells ps number k h =
    record {
      size = length-set cells (cell_of k.market k.tier) (cell_at cells k.market k.tier - leg_takes number k) ∙ h.size;
      each = λ m t.
          cell_less cells k (leg_takes number k) m t h.size
          ∙ ap (λ (x : ℕ). x - cond (draws m t k) (leg_takes number k) 0) (h.each m t)
          ∙ sym (ap (pool m t) (take-spend k (leg_takes number k) ps) ∙ pool-spend (λ m t. cond (draws m t k) (leg_takes number k) 0) m t ps);
    }

pooled_after : (ks : List Taker) (number : ℕ) (cells : List ℕ) (ps : List Open) → Pooled cells ps → Pooled (after_in ks number cells) (after ks number ps)
pooled_after [] number cells ps h = h
pooled_after (k ∷ ks) number cells ps h =
    pooled_after ks number (less_in number k cells) (take_from k (leg_takes number k) ps) (pooled_less cells ps number k h)

pooled_formed : (ks : List Taker) (cells : List ℕ) (ps : List Open) → Pooled cells ps → formed_in ks cells ≡ formed ks ps
pooled_formed ks cells ps h =
    ap (λ (f : Taker → ℕ). least (map f ks)) (fun_ext (λ (k : Taker). ap (λ (p : ℕ). room k.tenths p k.ratio) (h.each k.market k.tier)))

pooled_step : (ks : List Taker) (cells : List ℕ) (ps : List Open) → Pooled cells ps → Pooled (after_in ks (formed_in ks cells) cells) (after ks (formed ks ps) ps)
pooled_step ks cells ps h =
    subst (λ (n : ℕ). Pooled (after_in ks (formed_in ks cells) cells) (after ks n ps)) (pooled_formed ks cells ps h)
    (pooled_after ks (formed_in ks cells) cells ps h)

pub pooled_numbers : (ss : List (List Taker)) (cells : List ℕ) (ps : List Open) → Pooled cells ps → numbers_over ss cells ≡ numbers ss ps
pooled_numbers [] cells ps h = refl
pooled_numbers (s ∷ ss) cells ps h =
    ap₂ ◌∷◌ (pooled_formed s cells ps h)
    (pooled_numbers ss (after_in s (formed_in s cells) cells) (after s (formed s ps) ps) (pooled_step s cells ps h))

pub pooled_left : (ss : List (List Taker)) (cells : List ℕ) (ps : List Open) → Pooled cells ps → Pooled (left_in ss cells) (left ss ps)
pooled_left [] cells ps h = h
pooled_left (s ∷ ss) cells ps h = pooled_left ss (after_in s (formed_in s cells) cells) (after s (formed s ps) ps) (pooled_step s cells ps h)
