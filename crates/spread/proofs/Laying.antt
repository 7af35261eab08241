-- Each prompt's cell and size, one prompt after the other, and for each cell the place of its first prompt.
-- Assumes nothing.
use Prim.Native.Nat.{ℕ, ◌+◌, ◌≤◌, ◌<◌, min}
use native.Mathlib.Omega.{arith}
use mathlib.Core.Bool.{Bool, true, false, cond}
use mathlib.Core.List.{List}
use mathlib.Core.Path.{◌≡◌, refl, sym, ◌∙◌, ap, ap₂, subst}
use lib.Dec.{eqb, ltb}
use lib.IntN.{ℤ, nat_abs}
use lib.ListN.{length, get_or, set, replicate, length-set, length-replicate}
use lib.Seq.{get_or-set_same, get_or-set_other}
use borrow.Author.Tests.{eqb-true, eqb-false, ltb-true, ltb-false}
use Rattle.exact.proofs.Tests.{eqb_turned}
use Rattle.spread.specs.code.Cells.{cell_of, pool_count}
use Rattle.spread.specs.code.Passing.{Begun, SameAs, Laid}
use Rattle.spread.specs.Spend.{market_of}
use Rattle.spread.specs.Steps.{Open}
use Rattle.spread.specs.Accepted.{prompt_places}
use Rattle.spread.proofs.Filling.{get_d_same}
use Rattle.spread.proofs.Gathering.{in_own-pool, nothing, Placed, placed_within}
use Rattle.spread.proofs.Passing.{laid_each}
use Rattle.spread.proofs.Pooling.{same_cells}

-- i prompts are laid
pub record Laying (ps : List Open) (i : ℕ) (cs xs at : List ℕ) : Type 0 where
  pub pools : length cs ≡ prompt_places
  pub sizes : length xs ≡ prompt_places
  pub places : length at ≡ pool_count + 1
  pub each : (k : ℕ) → k < i → (get_or cs k 0 < pool_count) × SameAs (get_or ps k nothing) (get_or cs k 0) (get_or xs k 0)
  pub beyond : (k : ℕ) → i ≤ k → get_or xs k 0 ≡ 0
  pub first : (k : ℕ) → k < i → get_or at (get_or cs k 0) 0 ≤ k

pub laying_none : (ps : List Open) (cs xs at : List ℕ) → length cs ≡ prompt_places → xs ≡ replicate prompt_places 0 → length at ≡ pool_count + 1
    → Laying ps 0 cs xs at
laying_none ps cs xs at lc e la =
    let z : ℕ = 0 in
    record {
      pools = lc;
      sizes = ap length e ∙ length-replicate prompt_places z;
      places = la;
      each = λ k h. absurd (omega arith);
      beyond = λ k h. ap (λ (l : List ℕ). get_or l k 0) e ∙ get_d_same prompt_places z k;
      first = λ k h. absurd (omega arith);
    }

module _ (ps : List Open) (i : ℕ) (z : ℤ) (cell : ℕ) (g : Placed ps i z cell) (cs xs at : List ℕ) (h : i < prompt_places) (r : Laying ps i cs xs at) where
  p : Open
  p = get_or ps i nothing

  own_size : SameAs p cell (nat_abs z)
  unfolding p
  own_size m t =
      in_own-pool m t p
      ∙ ap₂ (λ (b : Bool) (n : ℕ). cond b n 0)
      (sym (same_cells m (market_of p.unused) t p.tier g.tiered) ∙ eqb_turned (cell_of m t) (cell_of (market_of p.unused) p.tier)
      ∙ ap (λ (c : ℕ). eqb c (cell_of m t)) (sym g.own))
      (ap nat_abs (sym g.net))

  pub laying_next : Laying ps (i + 1) (set cs i cell) (set xs i (nat_abs z)) (set at cell (min (get_or at cell 0) i))
  unfolding p
  laying_next =
      record {
        pools = length-set cs i cell ∙ r.pools;
        sizes = length-set xs i (nat_abs z) ∙ r.sizes;
        places = length-set at cell (min (get_or at cell 0) i) ∙ r.places;
        each = λ k l. each_next k l (eqb k i) refl;
        beyond = λ k l. get_or-set_other xs i k (nat_abs z) 0 (λ e. absurd (omega arith)) ∙ r.beyond k (omega arith);
        first = λ k l. first_next k l (eqb k i) refl;
      }
    where
      within : cell < pool_count
      within = placed_within ps i z cell g

      new_cell : get_or (set cs i cell) i 0 ≡ cell
      new_cell = get_or-set_same cs i cell 0 (omega (arith, r.pools, h))

      new_size : get_or (set xs i (nat_abs z)) i 0 ≡ nat_abs z
      new_size = get_or-set_same xs i (nat_abs z) 0 (omega (arith, r.sizes, h))

      each_next : (k : ℕ) → k < i + 1 → (b : Bool) → eqb k i ≡ b
          → (get_or (set cs i cell) k 0 < pool_count) × SameAs (get_or ps k nothing) (get_or (set cs i cell) k 0) (get_or (set xs i (nat_abs z)) k 0)
      each_next k l true e =
          subst (λ (j : ℕ). (get_or (set cs i cell) j 0 < pool_count) × SameAs (get_or ps j nothing) (get_or (set cs i cell) j 0) (get_or (set xs i (nat_abs z)) j 0))
          (sym (eqb-true k i e)) (
            subst (λ (c : ℕ). c < pool_count) (sym new_cell) within,
            λ m t. own_size m t
                ∙ sym (ap₂ (λ (c x : ℕ). cond (eqb c (cell_of m t)) x 0) new_cell new_size),
          )
      each_next k l false e =
          let d = eqb-false k i e in
          let old = r.each k (omega (arith, l, d)) in
          let ec = get_or-set_other cs i k cell 0 d in
          let ex = get_or-set_other xs i k (nat_abs z) 0 d in
          (subst (λ (c : ℕ). c < pool_count) (sym ec) old.0, λ m t. old.1 m t ∙ sym (ap₂ (λ (c x : ℕ). cond (eqb c (cell_of m t)) x 0) ec ex))

      lower : (c k : ℕ) → (b : Bool) → eqb c cell ≡ b → get_or at c 0 ≤ k → get_or (set at cell (min (get_or at cell 0) i)) c 0 ≤ k
      lower c k true e l =
          let s =
          ap (λ (j : ℕ). get_or (set at cell (min (get_or at cell 0) i)) j 0) (eqb-true c cell e)
          ∙ get_or-set_same at cell (min (get_or at cell 0) i) 0 (omega (arith, r.places, within))
          in
          let q = ap (λ (j : ℕ). get_or at j 0) (eqb-true c cell e) in
          omega (arith, s, q, l)
      lower c k false e l = let s = get_or-set_other at cell c (min (get_or at cell 0) i) 0 (eqb-false c cell e) in omega (arith, s, l)

      first_next : (k : ℕ) → k < i + 1 → (b : Bool) → eqb k i ≡ b → get_or (set at cell (min (get_or at cell 0) i)) (get_or (set cs i cell) k 0) 0 ≤ k
      first_next k l true e =
          let q = ap (λ (j : ℕ). get_or (set cs i cell) j 0) (eqb-true k i e) ∙ new_cell in
          let s =
          ap (λ (c : ℕ). get_or (set at cell (min (get_or at cell 0) i)) c 0) q
          ∙ get_or-set_same at cell (min (get_or at cell 0) i) 0 (omega (arith, r.places, within))
          in
          let t = eqb-true k i e in
          omega (arith, s, t)
      first_next k l false e =
          let d = eqb-false k i e in
          let ec = get_or-set_other cs i k cell 0 d in
          subst (λ (c : ℕ). get_or (set at cell (min (get_or at cell 0) i)) c 0 ≤ k) (sym ec)
          (lower (get_or cs k 0) k (eqb (get_or cs k 0) cell) refl (r.first k (omega (arith, l, d))))

pub laying_all : (ps : List Open) (i : ℕ) (cs xs at : List ℕ) → length ps ≡ i → i ≤ prompt_places → Laying ps i cs xs at → Laid ps cs xs × Begun at cs xs
laying_all ps i cs xs at e h r = (
  laid_each ps cs xs (omega (arith, e, h, r.pools)) (omega (arith, e, h, r.sizes)) (λ k l. r.each k (omega (arith, e, l))) (λ k l. r.beyond k (omega
      (arith, e, l))),
  begun,
)
  where
    begun : Begun at cs xs
    begun cell k l c = go (ltb k i) refl
      where
        go : (b : Bool) → ltb k i ≡ b → get_or xs k 0 ≡ 0
        go true f =
            let s = r.first k (ltb-true k i f) in
            let q = ap (λ (j : ℕ). get_or at j 0) c in
            absurd (omega (arith, s, q, l))
        go false f = r.beyond k (ltb-false k i f)
