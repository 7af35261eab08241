-- Arrays of deltas and of numbers of spreads, and the plain numbers that are lent in their place.
-- Assumes nothing.
use Prim.Native.Nat.{ℕ, zero, suc, ◌≤◌, ◌<◌}
use native.Mathlib.Omega.{arith}
use mathlib.Core.Bool.{Bool, true, cond}
use mathlib.Core.List.{List, [], ◌∷◌, map}
use mathlib.Core.Path.{◌≡◌, refl, sym, ◌∙◌, ap, subst}
use lib.IntN.{ℤ, pos}
use lib.ListN.{length, get_or, set, length-map, get_or-map}
use lib.Seq.{ext_get_or}
use borrow.Author.Tests.{lt-ltb}
use Rattle.spread.specs.Accepted.{open_of, prompt_places, sound_prompts}
use Rattle.spread.specs.Spend.{market_of}
use Rattle.spread.specs.code.Cells.{cell_of}
use Rattle.spread.specs.code.Lent.{deltas_from, deltas_in, spreads_from, prompts_in}
use Rattle.spread.specs.declared.Delta.{Delta}
use Rattle.spread.specs.declared.Prompts.{Prompts}
use Rattle.spread.specs.declared.Spreads.{Spreads}
use Rattle.spread.proofs.Filling.{Filled}
use Rattle.spread.proofs.Gathering.{Placed, net_of, no_delta, placed}

module _ {ℓ} {A B : Type ℓ} (f : A → B) where
  pub map-set : (l : List A) (i : ℕ) (x : A) → map f (set l i x) ≡ set (map f l) i (f x)
  map-set [] i x = refl
  map-set (y ∷ l) zero x = refl
  map-set (y ∷ l) (suc i) x = ap (λ (k : List B). f y ∷ k) (map-set l i x)

  -- an array filled with what another one has
  pub filled-from : (n : ℕ) (d : A) (xs : List A) (i : ℕ) (l : List B) → length xs ≡ n → n ≤ i → Filled n (f d) (λ k. f (get_or xs k d)) i l → l ≡ map f xs
  filled-from n d xs i l e h r =
      ext_get_or (f d) l (map f xs) (r.size ∙ sym (length-map xs f ∙ e))
      (λ k g.
      r.each k
      ∙ ap (λ (b : Bool). cond b (f (get_or xs k d)) (f d)) (lt-ltb k i (let s = r.size in omega arith))
      ∙ sym (get_or-map f xs k d))

pub delta_at_lem : (ds : List Delta) (j : ℕ) → get_or (deltas_in ds) j (pos 0) ≡ (get_or ds j no_delta).0
delta_at_lem ds j = get_or-map (λ (d : Delta). d.0) ds j no_delta

pub deltas_again : (zs : List ℤ) → deltas_in (deltas_from zs) ≡ zs
deltas_again [] = refl
deltas_again (z ∷ zs) = ap (λ (xs : List ℤ). z ∷ xs) (deltas_again zs)

pub deltas_back : (ds : List Delta) → deltas_from (deltas_in ds) ≡ ds
deltas_back [] = refl
deltas_back (d ∷ ds) = ap (λ (l : List Delta). d ∷ l) (deltas_back ds)

pub spreads_back : (ss : List Spreads) → spreads_from (map (λ (s : Spreads). s.0) ss) ≡ ss
spreads_back [] = refl
spreads_back (s ∷ ss) = ap (λ (l : List Spreads). s ∷ l) (spreads_back ss)

-- prompts whose net deltas are copied to plain numbers
pub prompts_back : (p : Prompts) (zs : List ℤ) → zs ≡ deltas_in p.net → prompts_in p.count p.tier zs ≡ p
prompts_back p zs e = let back = ap deltas_from e ∙ deltas_back p.net in λ i. record { count = p.count; tier = p.tier; net = back i }

-- a prompt as the code finds it in lent arrays
pub placed_in : (n : ℕ) (ts : List ℕ) (zs : List ℤ) (i : ℕ) (z : ℤ) (cell : ℕ) → length ts ≡ prompt_places → length zs ≡ prompt_places
    → sound_prompts (prompts_in n ts zs) ≡ true → i < n
    → z ≡ get_or zs i (pos 0)
    → cell ≡ cell_of (market_of z) (get_or ts i 0)
    → Placed (open_of (prompts_in n ts zs)) i z cell
placed_in n ts zs i z cell lt ln e h f own =
    subst (λ (x : ℤ). Placed (open_of (prompts_in n ts zs)) i x cell) net
    (placed (prompts_in n ts zs) i cell lt (length-map zs _ ∙ ln) e h (own ∙ ap (λ (x : ℤ). cell_of (market_of x) (get_or ts i 0)) (sym net)))
  where
    net : net_of (prompts_in n ts zs) i ≡ z
    net = ap (λ (d : Delta). d.0) (get_or-map (λ z. record { 0 = z }) zs i (pos 0)) ∙ sym f
