-- What holds of every record of a part, and how many there can be, from what holds of each record as the check meets it.
-- Assumes nothing.
use Prim.Native.Nat.{ℕ, zero, suc, ◌≤◌, ◌<◌}
use mathlib.Core.Path.{◌≡◌, refl, ap, subst⁻¹, ◌∙◌}
use mathlib.Core.Bool.{Bool, true, false}
use mathlib.Core.List.{List, [], ◌∷◌, ◌++◌}
use lib.ListN.{length}
use native.Mathlib.Omega.{arith}
use Rattle.exact.specs.Lists.{cons_if, keep, any, count}
use Rattle.exact.proofs.Lists.{keep_append, any_append}
use Rattle.record.specs.Layout.{Record}
use Rattle.record.proofs.Within.{neither}
use Rattle.account.specs.Accepted.{Each}
use Rattle.account.specs.Records.{cut, record_at, earlier}
use Rattle.account.proofs.Earlier.{cut_more, count-earlier}
use Rattle.account.proofs.Legs.{or_off}
use Rattle.account.proofs.Lists.{counts_one, counts_not}

pub every_append : (P : Record → Type 0) (xs ys : List Record) → Each P xs → Each P ys → Each P (xs ++ ys)
every_append P [] ys a b = b
every_append P (x ∷ xs) ys a b = (a.0, every_append P xs ys a.1 b)

pub every_weaker : {P Q : Record → Type 0} (xs : List Record) → ((r : Record) → P r → Q r) → Each P xs → Each Q xs
every_weaker [] f a = tt
every_weaker (x ∷ xs) f a = (f x a.0, every_weaker xs f a.1)

pub every_of_kept : (P : Record → Type 0) (p : Record → Bool) (xs : List Record) → Each P xs → Each P (keep p xs)
every_of_kept P p [] h = tt
every_of_kept P p (x ∷ xs) h = go (p x) (every_of_kept P p xs h.1)
  where
    go : (t : Bool) → Each P (keep p xs) → Each P (cons_if t x (keep p xs))
    go true rest = (h.0, rest)
    go false rest = rest

pub every-none : (p : Record → Bool) (xs : List Record) → any p xs ≡ false → Each (λ r. p r ≡ false) xs
every-none p [] e = tt
every-none p (x ∷ xs) e = let t = neither (p x) (any p xs) e in (t.0, every-none p xs t.1)

module _ (P : Record → Type 0) (p : Record → Bool) (file : List ℕ) where
  pub every_kept :
      (n : ℕ) → ((k : ℕ) → k < n → p (record_at file k) ≡ true → P (record_at file k)) → Each P (keep p (cut n file))
  every_kept zero f = tt
  every_kept (suc n) f =
      let r = record_at file n in
      subst⁻¹ (λ (rs : List Record). Each P (keep p rs)) (cut_more n file)
      (subst⁻¹ (Each P) (keep_append p (cut n file) (r ∷ []))
      (every_append P (keep p (cut n file)) (keep p (r ∷ [])) (every_kept n (λ k h. f k (omega arith)))
      (one (p r) refl)))
    where
      one : (t : Bool) → p (record_at file n) ≡ t → Each P (keep p (record_at file n ∷ []))
      one true e =
          subst⁻¹ (λ (b : Bool). Each P (cons_if b (record_at file n) [])) e (f n (omega arith) e, tt)
      one false e = subst⁻¹ (λ (b : Bool). Each P (cons_if b (record_at file n) [])) e tt

module _ (p : Record → Bool) (file : List ℕ) (most : ℕ) where
  pub few :
      (n : ℕ) → ((k : ℕ) → k < n → p (record_at file k) ≡ true → count p (earlier file k) < most)
      → count p (cut n file) ≤ most
  few zero f = omega arith
  few (suc n) f = go (p (record_at file n)) refl (few n (λ k h. f k (omega arith)))
    where
      go : (t : Bool) → p (record_at file n) ≡ t → count p (cut n file) ≤ most → count p (cut (suc n) file) ≤ most
      go true e h =
          omega (
            arith,
            f n (omega arith) e,
            count-earlier p file n,
            ap (count p) (cut_more n file),
            counts_one p
                (cut n file) (record_at file n) e,
          )
      go false e h =
          omega (arith, ap (count p) (cut_more n file), counts_not p (cut n file) (record_at file n) e)

pub none_passes : (p : Record → Bool) (file : List ℕ) (n : ℕ) → ((k : ℕ) → k < n → p (record_at file k) ≡ false) → any p (cut n file) ≡ false
none_passes p file zero f = refl
none_passes p file (suc n) f =
    ap (any p) (cut_more n file) ∙ any_append p (cut n file) (record_at file n ∷ [])
    ∙ or_off (none_passes p file n (λ k h. f k (omega arith))) (or_off (f n (omega arith)) refl)

pub length_kept : (p : Record → Bool) (xs : List Record) → length (keep p xs) ≡ count p xs
length_kept p [] = refl
length_kept p (x ∷ xs) = go (p x) refl (length_kept p xs)
  where
    go : (t : Bool) → p x ≡ t → length (keep p xs) ≡ count p xs → length (keep p (x ∷ xs)) ≡ count p (x ∷ xs)
    go true e h = rw e (omega arith)
    go false e h = rw e (omega arith)
