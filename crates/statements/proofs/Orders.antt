-- Sums over records in another order, and what of an account its rows do not enter.
-- Assumes nothing.
use Prim.Native.Nat.{ℕ, suc, ◌+◌}
use native.Mathlib.Omega.{arith}
use mathlib.Core.Path.{◌≡◌, refl, sym, ap, ap₂, ◌∙◌}
use mathlib.Core.Bool.{Bool, true, false, cond, not, ◌&&◌, false≢true}
use mathlib.Core.List.Permᴰ
use mathlib.Core.List.{List, [], ◌∷◌, map}
use borrow.Author.Tests.{eqb-true}
use lib.Dec.{eqb}
use lib.ListN.{length}
use lib.IntN.{ℤ, pos, ◌+ℤ◌, +ℤ_idl, +ℤ_assoc, +ℤ_comm}
use Rattle.exact.specs.Lists.{cons_if, keep, sum, sum_ℤ}
use Rattle.record.specs.Layout.{Record, kind, contract}
use Rattle.account.specs.Parts.{of_kind, of_contract}
use Rattle.statements.specs.Statements.{Rearranged, no_row, other_records}

-- ---- a sum does not depend on the order

swapped : (a b s : ℤ) → a +ℤ (b +ℤ s) ≡ b +ℤ (a +ℤ s)
swapped a b s = sym (+ℤ_assoc a b s) ∙ ap (λ (z : ℤ). z +ℤ s) (+ℤ_comm a b) ∙ +ℤ_assoc b a s

pub sum_ℤ_order : (f : Record → ℤ) {xs ys : List Record} → Rearranged xs ys → sum_ℤ (map f xs) ≡ sum_ℤ (map f ys)
sum_ℤ_order f Permᴰ.nil = refl
sum_ℤ_order f (Permᴰ.cons e d) = ap₂ ◌+ℤ◌ (ap f e) (sum_ℤ_order f d)
sum_ℤ_order f (Permᴰ.swap {a} {b} {a'} {b'} {l} e d) =
    swapped (f a) (f b) (sum_ℤ (map f l)) ∙ ap₂ ◌+ℤ◌ (ap f d) (ap (λ (z : ℤ). z +ℤ sum_ℤ (map f l)) (ap f e))
sum_ℤ_order f (Permᴰ.trans d e) = sum_ℤ_order f d ∙ sum_ℤ_order f e

pub sum_order : (f : Record → ℕ) {xs ys : List Record} → Rearranged xs ys → sum (map f xs) ≡ sum (map f ys)
sum_order f Permᴰ.nil = refl
sum_order f (Permᴰ.cons e d) = ap₂ ◌+◌ (ap f e) (sum_order f d)
sum_order f (Permᴰ.swap {a} {b} {a'} {b'} {l} e d) =
    let h = ap f e in
    let k = ap f d in
    omega (arith, h, k)
sum_order f (Permᴰ.trans d e) = sum_order f d ∙ sum_order f e

pub length_order : {xs ys : List Record} → Rearranged xs ys → length xs ≡ length ys
length_order Permᴰ.nil = refl
length_order (Permᴰ.cons e d) = ap suc (length_order d)
length_order (Permᴰ.swap e d) = refl
length_order (Permᴰ.trans d e) = length_order d ∙ length_order e

-- a sum over those that pass a test is one over all, in which the others are 0
pub kept_sum : (f : Record → ℤ) (p : Record → Bool) (xs : List Record)
    → sum_ℤ (map f (keep p xs)) ≡ sum_ℤ (map (λ x. cond (p x) (f x) (pos 0)) xs)
kept_sum f p [] = refl
kept_sum f p (x ∷ xs) = go (p x) (kept_sum f p xs)
  where
    go : (t : Bool) {z : ℤ} → sum_ℤ (map f (keep p xs)) ≡ z → sum_ℤ (map f (cons_if t x (keep p xs))) ≡ cond t (f x) (pos 0) +ℤ z
    go true e = ap (λ (y : ℤ). f x +ℤ y) e
    go false {z} e = e ∙ sym (+ℤ_idl z)

-- ---- what passes a test that no row passes is found among the other records

module _ (p : Record → Bool) (h : (r : Record) → p r ≡ true → no_row r ≡ true) where
  pub among_others : (xs : List Record) → keep p xs ≡ keep p (other_records xs)
  among_others [] = refl
  among_others (x ∷ xs) = go (p x) (no_row x) refl refl (among_others xs)
    where
      go : (t u : Bool) → p x ≡ t → no_row x ≡ u → keep p xs ≡ keep p (other_records xs)
          → cons_if t x (keep p xs) ≡ keep p (cons_if u x (other_records xs))
      go true true e d rest = ap (λ (s : Bool). cons_if s x (keep p xs)) (sym e) ∙ ap (cons_if (p x) x) rest
      go true false e d rest = absurd (false≢true (sym d ∙ h x e))
      go false true e d rest = rest ∙ ap (λ (s : Bool). cons_if s x (keep p (other_records xs))) (sym e)
      go false false e d rest = rest

pub other_kind : (n : ℕ) → eqb n 3 ≡ false → (r : Record) → of_kind n r ≡ true → no_row r ≡ true
other_kind n d r e = ap (λ (k : ℕ). not (eqb k 3)) (eqb-true (kind r) n e) ∙ ap not d

pub other_contract : (n c : ℕ) → eqb n 3 ≡ false → (r : Record) → of_contract n c r ≡ true → no_row r ≡ true
other_contract n c d r e = go (of_kind n r) refl e
  where
    go : (t : Bool) → of_kind n r ≡ t → t && eqb (contract r) c ≡ true → no_row r ≡ true
    go true k q = other_kind n d r k
    go false k q = absurd (false≢true q)
