-- The prompts that are given, in range as they are accepted, and their pools, one prompt after the other.
-- Assumes nothing.
use Prim.Native.Nat.{ℕ, zero, suc, ◌+◌, ◌*◌, ◌≤◌, ◌<◌, ◌^◌}
use native.Mathlib.Numerals.{add-one}
use native.Mathlib.Omega.{arith}
use mathlib.Core.Bool.{Bool, true, false, cond, ◌&&◌}
use mathlib.Core.List.{List, [], ◌∷◌, ◌++◌}
use mathlib.Core.Path.{◌≡◌, refl, sym, ◌∙◌, ap, ap₂, subst}
use lib.Dec.{eqb, leb, ltb}
use lib.IntN.{ℤ, pos, negsuc, nat_abs}
use lib.ListN.{length, get_or, set, take, replicate, length-set, length-replicate}
use lib.Seq.{take-suc, get_or-take, length-take-le}
use borrow.Author.Tests.{ltb-true, leb-true}
use Rattle.exact.specs.Signed.{negative}
use Rattle.exact.proofs.Tests.{eqb_turned}
use Rattle.spread.specs.Accepted.{open_of, every, most_delta, sound_prompt, sound_prompts, tier_count, prompt_places, table_spreads, sound_spread, sound_table}
use Rattle.spread.specs.Accepted.{spread_places}
use Rattle.spread.specs.code.Cells.{short_if, cell_of, cell_at, Pooled, pool_count}
use Rattle.spread.specs.Demand.{same_market, draws}
use Rattle.spread.specs.Spend.{market_of}
use Rattle.spread.specs.Steps.{Market, long, short, Open, Taker, on_side, in_tier, pool}
use Rattle.spread.specs.declared.Delta.{Delta}
use Rattle.spread.specs.declared.Prompts.{Prompts}
use Rattle.spread.proofs.Both.{and_left, and_right}
use Rattle.spread.proofs.Every.{every_at, open_length, open_at}
use Rattle.spread.proofs.Filling.{get_d_same}
use Rattle.spread.proofs.Pooling.{cell_small, cell_set}
use Rattle.spread.proofs.Spending.{draws_market, draws-tier}
use Rattle.spread.specs.declared.Table.{Table}
use Rattle.spread.specs.declared.Spread.{Spread}

-- the side of a delta

pub side_market : (z : ℤ) → short_if (negative z) ≡ market_of z
side_market (pos n) = refl
side_market (negsuc n) = refl

-- a prompt as a leg on its own pool
abbrev pub own : Open → Taker
own p = record { market = market_of p.unused; tier = p.tier; ratio = 1; tenths = false }

on_own_side : (m : Market) (z : ℤ) (b : Bool) → cond b (on_side m z) 0 ≡ cond (same_market (market_of z) m && b) (nat_abs z) 0
on_own_side long (pos n) b = refl
on_own_side long (negsuc n) true = refl
on_own_side long (negsuc n) false = refl
on_own_side short (pos n) true = refl
on_own_side short (pos n) false = refl
on_own_side short (negsuc n) b = refl

pub in_own-pool : (m : Market) (t : ℕ) (p : Open) → in_tier m t p ≡ cond (draws m t (own p)) (nat_abs p.unused) 0
in_own-pool m t p =
    ap (λ (b : Bool). cond b (on_side m p.unused) 0) (eqb_turned p.tier t) ∙ on_own_side m p.unused (eqb t p.tier)

-- every prompt that is accepted has a tier in range and a size within the most

pub tier-sound : (p : Open) → sound_prompt p ≡ true → p.tier < tier_count
tier-sound p e = ltb-true p.tier tier_count (and_left (ltb p.tier tier_count) (leb (nat_abs p.unused) most_delta) e)

pub size_sound : (p : Open) → sound_prompt p ≡ true → nat_abs p.unused ≤ 128000000000
size_sound p e = leb-true (nat_abs p.unused) most_delta (and_right (ltb p.tier tier_count) (leb (nat_abs p.unused) most_delta) e)

in_tier_most : (m : Market) (t : ℕ) (p : Open) → sound_prompt p ≡ true → in_tier m t p ≤ 128000000000
in_tier_most m t p e = let s = size_sound p e in let i = in_own-pool m t p in let g = go (draws m t (own p)) in omega arith
  where
    go : (b : Bool) → cond b (nat_abs p.unused) 0 ≤ nat_abs p.unused
    go true = omega arith
    go false = omega arith

pub pool_most : (m : Market) (t : ℕ) (i : ℕ) (ps : List Open) → every sound_prompt ps ≡ true → pool m t (take i ps) ≤ i * 128000000000
pool_most m t zero ps e = omega arith
pool_most m t (suc i) [] e = omega arith
pool_most m t (suc i) (p ∷ ps) e =
    let a = in_tier_most m t p (and_left (sound_prompt p) (every sound_prompt ps) e) in
    let b = pool_most m t i ps (and_right (sound_prompt p) (every sound_prompt ps) e) in
    omega arith

-- the prompts that are accepted

pub few : (p : Prompts) → sound_prompts p ≡ true → p.count ≤ prompt_places
few p e = leb-true p.count prompt_places (and_left (leb p.count prompt_places) (every sound_prompt (open_of p)) e)

pub few_in_table : (t : Table) → sound_table t ≡ true → t.count ≤ spread_places
few_in_table t e = leb-true t.count spread_places (and_left (leb t.count spread_places) (every sound_spread (table_spreads t)) e)

pub sound_in_table : (t : Table) → length t.spread ≡ spread_places → sound_table t ≡ true → (i : ℕ) (d : Spread) → i < t.count
    → sound_spread (get_or t.spread i d) ≡ true
sound_in_table t len e i d h =
    let n = length-take-le t.count t.spread (omega (arith, len, few_in_table t e)) in
    subst (λ (s : Spread). sound_spread s ≡ true) (get_or-take t.count t.spread i d h)
    (every_at sound_spread (table_spreads t) i d (and_right (leb t.count spread_places) (every sound_spread (table_spreads t)) e) (omega (arith, n)))

pub all_sound : (p : Prompts) → sound_prompts p ≡ true → every sound_prompt (open_of p) ≡ true
all_sound p e = and_right (leb p.count prompt_places) (every sound_prompt (open_of p)) e

-- a prompt as the code finds it: its net delta, and the cell of its tier and side

abbrev pub nothing : Open
nothing = record { tier = 0; unused = pos 0 }

pub record Placed (ps : List Open) (k : ℕ) (z : ℤ) (cell : ℕ) : Type 0 where
  pub place : k < length ps
  pub net : z ≡ (get_or ps k nothing).unused
  pub own : cell ≡ cell_of (market_of (get_or ps k nothing).unused) (get_or ps k nothing).tier
  pub tiered : (get_or ps k nothing).tier < tier_count
  pub most : nat_abs (get_or ps k nothing).unused ≤ most_delta

abbrev pub no_delta : Delta
no_delta = record { 0 = pos 0 }

abbrev pub net_of : Prompts → ℕ → ℤ
net_of p i = (get_or p.net i no_delta).0

pub placed : (p : Prompts) (i cell : ℕ) → length p.tier ≡ prompt_places → length p.net ≡ prompt_places → sound_prompts p ≡ true → i < p.count
    → cell ≡ cell_of (market_of (net_of p i)) (get_or p.tier i 0)
    → Placed (open_of p) i (net_of p i) cell
placed p i cell lt ln e h own =
    let at = open_at p i 0 no_delta nothing lt ln (few p e) h in
    let l = open_length p lt ln (few p e) in
    let s = every_at sound_prompt (open_of p) i nothing (all_sound p e) (omega arith) in
    record {
      place = omega arith;
      net = sym (ap (λ (q : Open). q.unused) at);
      own = own ∙ sym (ap (λ (q : Open). cell_of (market_of q.unused) q.tier) at);
      tiered = tier-sound (get_or (open_of p) i nothing) s;
      most = size_sound (get_or (open_of p) i nothing) s;
    }

pub placed_within : (ps : List Open) (i : ℕ) (z : ℤ) (cell : ℕ) → Placed ps i z cell → cell < pool_count
placed_within ps i z cell g =
    subst (λ (k : ℕ). k < pool_count) (sym g.own) (cell_small (market_of (get_or ps i nothing).unused) (get_or ps i nothing).tier g.tiered)

-- the pools of the prompts, one prompt after the other

pub pooled_none : (ps : List Open) → Pooled (replicate pool_count 0) (take 0 ps)
pooled_none ps = let z : ℕ = 0 in record { size = length-replicate pool_count z; each = λ m t. get_d_same pool_count z (cell_of m t) }

pool_snoc : (m : Market) (t : ℕ) (ps : List Open) (p : Open) → pool m t (ps ++ (p ∷ [])) ≡ pool m t ps + in_tier m t p
pool_snoc m t [] p = omega arith
pool_snoc m t (q ∷ ps) p = let e = pool_snoc m t ps p in omega arith

grown_cell : (cells : List ℕ) (p : Open) (m : Market) (t : ℕ) (b : Bool) → draws m t (own p) ≡ b
    → cond b (cell_at cells (market_of p.unused) p.tier + nat_abs p.unused) (cell_at cells m t) ≡ cell_at cells m t + cond b (nat_abs p.unused) 0
grown_cell cells p m t true e =
    ap₂ (λ (n : Market) (u : ℕ). cell_at cells n u + nat_abs p.unused) (sym (draws_market m t (own p) e)) (sym (draws-tier m t (own p) e))
grown_cell cells p m t false e = omega arith

pub pooled_next : (cells : List ℕ) (ps : List Open) (i : ℕ) (d : Open) → i < length ps → (get_or ps i d).tier < tier_count → Pooled cells (take i ps)
    → Pooled
    (set cells (cell_of (market_of (get_or ps i d).unused) (get_or ps i d).tier)
    (cell_at cells (market_of (get_or ps i d).unused) (get_or ps i d).tier + nat_abs (get_or ps i d).unused))
    (take (i + 1) ps)
pooled_next cells ps i d h g r =
    record {
      size = length-set cells (cell_of (market_of p.unused) p.tier) (cell_at cells (market_of p.unused) p.tier + nat_abs p.unused) ∙ r.size;
      each = λ m t.
          cell_set cells (market_of p.unused) p.tier (cell_at cells (market_of p.unused) p.tier + nat_abs p.unused) m t r.size g
          ∙ grown_cell cells p m t (draws m t (own p)) refl
          ∙ ap₂ ◌+◌ (r.each m t) (sym (in_own-pool m t p))
          ∙ sym (ap (pool m t) (ap (λ (k : ℕ). take k ps) (add-one i) ∙ take-suc ps i d h) ∙ pool_snoc m t (take i ps) p);
    }
  where
    p : Open
    p = get_or ps i d

module _ (p : Prompts) (i : ℕ) (z : ℤ) (cell : ℕ) (g : Placed (open_of p) i z cell) (cells : List ℕ) (r : Pooled cells (take i (open_of p))) where
  q : Open
  q = get_or (open_of p) i nothing

  pub pools_fit : sound_prompts p ≡ true → i < prompt_places → get_or cells cell 0 + nat_abs z < 2 ^ 64
  unfolding q
  pools_fit sound h =
      let a = ap (λ (k : ℕ). get_or cells k 0) g.own ∙ r.each (market_of q.unused) q.tier in
      let b = pool_most (market_of q.unused) q.tier i (open_of p) (all_sound p sound) in
      let s = g.most in
      let e = ap nat_abs g.net in
      omega arith

  pub pools_next : (more : List ℕ) → more ≡ set cells cell (get_or cells cell 0 + nat_abs z) → Pooled more (take (i + 1) (open_of p))
  unfolding q
  pools_next more e =
      subst (λ (l : List ℕ). Pooled l (take (i + 1) (open_of p)))
      (sym (e ∙ (λ j. set cells (g.own j) (get_or cells (g.own j) 0 + nat_abs (g.net j)))))
      (pooled_next cells (open_of p) i nothing g.place g.tiered r)
