-- An array that a loop fills from the front: what is filled, and nothing beyond it.
-- Assumes nothing.
use Prim.Native.Nat.{ℕ, zero, suc, ◌+◌, ◌≤◌, ◌<◌}
use native.Mathlib.Omega.{arith}
use mathlib.Core.Bool.{Bool, true, false, cond}
use mathlib.Core.List.{List, [], ◌∷◌, map}
use mathlib.Core.Path.{◌≡◌, refl, sym, ◌∙◌, ap, ap₂}
use lib.Dec.{eqb, ltb}
use lib.ListN.{length, get_or, set, replicate, length-replicate, length-set, take}
use lib.Seq.{get_or-set_same, get_or-set_other}
use borrow.Author.Tests.{eqb-true, eqb-false, lt-ltb, le-ltb, ltb-true, ltb-false}
use Rattle.spread.specs.code.Book.{by_place, delta_entry}
use Rattle.spread.specs.declared.Delta.{Delta}
use lib.IntN.{ℤ}

module _ {ℓ} {A : Type ℓ} where
  pub entries_at : (n : ℕ) (f : ℕ → A) (k : ℕ) (d : A) → k < n → get_or (by_place n f) k d ≡ f k
  unfolding by_place
  entries_at zero f k d h = absurd (omega arith)
  entries_at (suc n) f zero d h = refl
  entries_at (suc n) f (suc k) d h = entries_at n (λ k. f (suc k)) k d (omega arith)

  pub entries_length : (n : ℕ) (f : ℕ → A) → length (by_place n f) ≡ n
  unfolding by_place
  entries_length zero f = refl
  entries_length (suc n) f = ap suc (entries_length n (λ k. f (suc k)))

  entries_from : (n : ℕ) (f : ℕ → A) (d : A) (l : List A) → length l ≡ n → ((k : ℕ) → k < n → get_or l k d ≡ f k) → l ≡ by_place n f
  unfolding by_place
  entries_from zero f d [] e h = refl
  entries_from zero f d (x ∷ l) e h = absurd (omega arith)
  entries_from (suc n) f d [] e h = absurd (omega arith)
  entries_from (suc n) f d (x ∷ l) e h =
      ap₂ ◌∷◌ (h 0 (omega arith)) (entries_from n (λ k. f (suc k)) d l (omega arith) (λ k g. h (suc k) (omega arith)))

  pub get_d_same : (n : ℕ) (z : A) (k : ℕ) → get_or (replicate n z) k z ≡ z
  get_d_same zero z k = refl
  get_d_same (suc n) z zero = refl
  get_d_same (suc n) z (suc k) = get_d_same n z k

  pub record Filled (n : ℕ) (z : A) (f : ℕ → A) (i : ℕ) (l : List A) : Type ℓ where
    pub size : length l ≡ n
    pub each : (k : ℕ) → get_or l k z ≡ cond (ltb k i) (f k) z

  pub filled_none : (n : ℕ) (z : A) (f : ℕ → A) → Filled n z f 0 (replicate n z)
  filled_none n z f =
      record {
        size = length-replicate n z;
        each = λ k. get_d_same n z k ∙ sym (ap (λ (b : Bool). cond b (f k) z) (le-ltb k 0 (omega arith)));
      }

  pub filled_next : (n : ℕ) (z : A) (f : ℕ → A) (i : ℕ) (l : List A) (v : A) → Filled n z f i l → i < n → v ≡ f i → Filled n z f (i + 1) (set l i v)
  filled_next n z f i l v h g e = record { size = length-set l i v ∙ h.size; each = λ k. go k (eqb k i) refl }
    where
      further : (k : ℕ) (b : Bool) → (k ≡ i → ⊥) → ltb k i ≡ b → ltb k (i + 1) ≡ b
      further k true d t = lt-ltb k (i + 1) (let s = ltb-true k i t in omega arith)
      further k false d t = le-ltb k (i + 1) (let s = ltb-false k i t in omega arith)

      go : (k : ℕ) (b : Bool) → eqb k i ≡ b → get_or (set l i v) k z ≡ cond (ltb k (i + 1)) (f k) z
      go k true t =
          ap (λ (j : ℕ). get_or (set l i v) j z) (eqb-true k i t)
          ∙ get_or-set_same l i v z (let s = h.size in omega arith)
          ∙ e
          ∙ sym (ap₂ (λ (b : Bool) (j : ℕ). cond b (f j) z) (lt-ltb k (i + 1) (let s = eqb-true k i t in omega arith)) (eqb-true k i t))
      go k false t =
          get_or-set_other l i k v z (eqb-false k i t)
          ∙ h.each k
          ∙ sym (ap (λ (b : Bool). cond b (f k) z) (further k (ltb k i) (eqb-false k i t) refl))

  pub filled_all : (n : ℕ) (z : A) (f : ℕ → A) (i : ℕ) (l : List A) → Filled n z f i l → ((k : ℕ) → i ≤ k → f k ≡ z) → l ≡ by_place n f
  filled_all n z f i l h beyond = entries_from n f z l h.size (λ k g. h.each k ∙ go k (ltb k i) refl)
    where
      go : (k : ℕ) (b : Bool) → ltb k i ≡ b → cond b (f k) z ≡ f k
      go k true t = refl
      go k false t = sym (beyond k (ltb-false k i t))

-- as many deltas as there are, read back from an array with room for them
pub take-deltas : (zs : List ℤ) (n m : ℕ) → length zs ≡ n → n ≤ m → take n (map (λ (d : Delta). d.0) (by_place m (delta_entry zs))) ≡ zs
unfolding by_place
take-deltas [] zero m e h = refl
take-deltas [] (suc n) m e h = absurd (omega arith)
take-deltas (z ∷ zs) zero m e h = absurd (omega arith)
take-deltas (z ∷ zs) (suc n) zero e h = absurd (omega arith)
take-deltas (z ∷ zs) (suc n) (suc m) e h = ap (λ (xs : List ℤ). z ∷ xs) (take-deltas zs n m (omega arith) (omega arith))
