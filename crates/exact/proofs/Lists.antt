-- Laws of lists: over `++`, over `map`, at an index, and bounds. What the library has is not said again: `length-append`,
-- `length-map`, `length-take`, `length-drop`, `take-append-drop` of lib.ListN, `ext_get_or`, `drop-cons`, `take-suc`, `get_or-take`,
-- `get_or-drop` of lib.Seq, `append_assoc`, `map-append`, `map-map` of mathlib.Core.List.
-- Assumes nothing.
use mathlib.Core.Path.{◌≡◌, refl, sym, ◌∙◌, ap, ap₂}
use mathlib.Core.Bool.{Bool, true, false, ◌||◌, or_assoc, or-true, false≢true}
use mathlib.Core.List.{List, [], ◌∷◌, ◌++◌, map}
use Prim.Native.Nat.{ℕ, zero, suc, ◌+◌, ◌*◌, ◌≤◌, ◌<◌, zero-le}
use native.Mathlib.Nat.{le_of_suc-le-suc, not-suc-le-zero}
use native.Mathlib.Omega.{arith}
use lib.IntN.{ℤ, pos, nat_abs, ◌+ℤ◌, +ℤ_idl, +ℤ_idr, +ℤ_assoc}
use lib.ListN.{length, get_or, take}
use lib.Seq.{take-suc}
use Rattle.exact.specs.Lists.{cons_if, keep, any, one_if, count, sum, sum_ℤ}
use Rattle.exact.proofs.Integers.{abs_add, sums_cross}

-- ---- over `++`

module _ {ℓ} {A : Type ℓ} where
  cons_if_append : (t : Bool) (x : A) (xs ys : List A) → cons_if t x (xs ++ ys) ≡ cons_if t x xs ++ ys
  cons_if_append true x xs ys = refl
  cons_if_append false x xs ys = refl

  pub keep_append : (p : A → Bool) (xs ys : List A) → keep p (xs ++ ys) ≡ keep p xs ++ keep p ys
  keep_append p [] ys = refl
  keep_append p (x ∷ xs) ys = ap (cons_if (p x) x) (keep_append p xs ys) ∙ cons_if_append (p x) x (keep p xs) (keep p ys)

  pub any_append : (p : A → Bool) (xs ys : List A) → any p (xs ++ ys) ≡ (any p xs || any p ys)
  any_append p [] ys = refl
  any_append p (x ∷ xs) ys = ap (λ (t : Bool). p x || t) (any_append p xs ys) ∙ sym (or_assoc (p x) (any p xs) (any p ys))

  pub count_append : (p : A → Bool) (xs ys : List A) → count p (xs ++ ys) ≡ count p xs + count p ys
  count_append p [] ys = omega arith
  count_append p (x ∷ xs) ys = omega (arith, count_append p xs ys)

pub sum_append : (xs ys : List ℕ) → sum (xs ++ ys) ≡ sum xs + sum ys
sum_append [] ys = omega arith
sum_append (x ∷ xs) ys = omega (arith, sum_append xs ys)

pub sum_ℤ_append : (xs ys : List ℤ) → sum_ℤ (xs ++ ys) ≡ sum_ℤ xs +ℤ sum_ℤ ys
sum_ℤ_append [] ys = sym (+ℤ_idl (sum_ℤ ys))
sum_ℤ_append (x ∷ xs) ys = ap (λ (z : ℤ). x +ℤ z) (sum_ℤ_append xs ys) ∙ sym (+ℤ_assoc x (sum_ℤ xs) (sum_ℤ ys))

-- ---- one element more, for a loop that goes up

pub sum_ℤ-take-suc : (xs : List ℤ) (k : ℕ) → k < length xs → sum_ℤ (take (suc k) xs) ≡ sum_ℤ (take k xs) +ℤ get_or xs k (pos 0)
sum_ℤ-take-suc xs k h =
    ap sum_ℤ (take-suc xs k (pos 0) h)
    ∙ sum_ℤ_append (take k xs) (get_or xs k (pos 0) ∷ [])
    ∙ ap (λ (z : ℤ). sum_ℤ (take k xs) +ℤ z) (+ℤ_idr (get_or xs k (pos 0)))

-- ---- over `map`

module _ {ℓ ℓ'} {A : Type ℓ} {B : Type ℓ'} (f : A → B) where
  pub map-take : (n : ℕ) (xs : List A) → map f (take n xs) ≡ take n (map f xs)
  map-take zero xs = refl
  map-take (suc n) [] = refl
  map-take (suc n) (x ∷ xs) = ap (λ (zs : List B). f x ∷ zs) (map-take n xs)

  -- within the list, whatever the two values past the end
  pub get_d_map : (xs : List A) (k : ℕ) (d : A) (e : B) → k < length xs → get_or (map f xs) k e ≡ f (get_or xs k d)
  get_d_map [] k d e h = absurd (not-suc-le-zero h)
  get_d_map (x ∷ xs) zero d e h = refl
  get_d_map (x ∷ xs) (suc k) d e h = get_d_map xs k d e (le_of_suc-le-suc h)

module _ {ℓ} {A : Type ℓ} where
  -- equal at each element
  pub map_same {ℓ'} : {B : Type ℓ'} (f g : A → B) → ((x : A) → f x ≡ g x) → (xs : List A) → map f xs ≡ map g xs
  map_same f g e [] = refl
  map_same f g e (x ∷ xs) = ap₂ (λ y ys. y ∷ ys) (e x) (map_same f g e xs)

  pub sum-map_add : (f g : A → ℕ) (xs : List A) → sum (map (λ x. f x + g x) xs) ≡ sum (map f xs) + sum (map g xs)
  sum-map_add f g [] = refl
  sum-map_add f g (x ∷ xs) = omega (arith, sum-map_add f g xs)

  pub sum-map_le : (f g : A → ℕ) → ((x : A) → f x ≤ g x) → (xs : List A) → sum (map f xs) ≤ sum (map g xs)
  sum-map_le f g h [] = zero-le
  sum-map_le f g h (x ∷ xs) = omega (arith, h x, sum-map_le f g h xs)

  pub sum_ℤ-map_add : (f g : A → ℤ) (xs : List A) → sum_ℤ (map (λ x. f x +ℤ g x) xs) ≡ sum_ℤ (map f xs) +ℤ sum_ℤ (map g xs)
  sum_ℤ-map_add f g [] = refl
  sum_ℤ-map_add f g (x ∷ xs) = ap (λ (z : ℤ). f x +ℤ g x +ℤ z) (sum_ℤ-map_add f g xs) ∙ sums_cross (f x) (g x) (sum_ℤ (map f xs)) (sum_ℤ (map g xs))

-- ---- bounds

pub abs_sum : (xs : List ℤ) → nat_abs (sum_ℤ xs) ≤ sum (map nat_abs xs)
abs_sum [] = zero-le
abs_sum (x ∷ xs) = omega (arith, abs_add x (sum_ℤ xs), abs_sum xs)

-- each element at most b: the sum at most b for each
pub sum_bound : (b : ℕ) (xs : List ℕ) → ((k : ℕ) → k < length xs → get_or xs k 0 ≤ b) → sum xs ≤ length xs * b
sum_bound b [] h = zero-le
sum_bound b (x ∷ xs) h = omega (arith, h 0 (omega arith), sum_bound b xs (λ k l. h (suc k) (omega arith)))

pub sum_at : (xs : List ℕ) (k : ℕ) → k < length xs → get_or xs k 0 ≤ sum xs
sum_at [] k h = zero-le
sum_at (x ∷ xs) zero h = omega arith
sum_at (x ∷ xs) (suc k) h = omega (arith, sum_at xs k (le_of_suc-le-suc h))

pub sum-take : (n : ℕ) (xs : List ℕ) → sum (take n xs) ≤ sum xs
sum-take zero xs = zero-le
sum-take (suc n) [] = zero-le
sum-take (suc n) (x ∷ xs) = omega (arith, sum-take n xs)

module _ {ℓ} {A : Type ℓ} where
  pub count_le : (p : A → Bool) (xs : List A) → count p xs ≤ length xs
  count_le p [] = zero-le
  count_le p (x ∷ xs) = go (p x) (count_le p xs)
    where
      go : (t : Bool) → count p xs ≤ length xs → one_if t + count p xs ≤ suc (length xs)
      go true h = omega arith
      go false h = omega arith

  pub length-keep : (p : A → Bool) (xs : List A) → length (keep p xs) ≡ count p xs
  length-keep p [] = refl
  length-keep p (x ∷ xs) = go (p x) (length-keep p xs)
    where
      go : (t : Bool) → length (keep p xs) ≡ count p xs → length (cons_if t x (keep p xs)) ≡ one_if t + count p xs
      go true h = omega arith
      go false h = omega arith

  -- ---- any: exactly where an element passes

  pub any_at : (p : A → Bool) (xs : List A) (k : ℕ) (d : A) → k < length xs → p (get_or xs k d) ≡ true → any p xs ≡ true
  any_at p [] k d h e = absurd (not-suc-le-zero h)
  any_at p (x ∷ xs) zero d h e = ap (λ (t : Bool). t || any p xs) e
  any_at p (x ∷ xs) (suc k) d h e = ap (λ (t : Bool). p x || t) (any_at p xs k d (le_of_suc-le-suc h) e) ∙ or-true (p x)

  pub record Passes (p : A → Bool) (xs : List A) (d : A) : Type 0 where
    pub place : ℕ
    pub within : place < length xs
    pub passes : p (get_or xs place d) ≡ true

  pub any_true : (p : A → Bool) (xs : List A) (d : A) → any p xs ≡ true → Passes p xs d
  any_true p [] d e = absurd (false≢true e)
  any_true p (x ∷ xs) d e = go (p x) refl (any_true p xs d) e
    where
      later : Passes p xs d → Passes p (x ∷ xs) d
      later r = record { place = suc r.place; within = omega (arith, r.within); passes = r.passes }

      go : (t : Bool) → p x ≡ t → (any p xs ≡ true → Passes p xs d) → (t || any p xs) ≡ true → Passes p (x ∷ xs) d
      go true h rest e = record { place = 0; within = omega arith; passes = h }
      go false h rest e = later (rest e)

-- a number that a list holds
pub record Held {ℓ} {A : Type ℓ} (xs : List A) (d x : A) : Type ℓ where
  pub place : ℕ
  pub within : place < length xs
  pub holds : get_or xs place d ≡ x
