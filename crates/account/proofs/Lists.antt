-- Lists of records: what passes a test, counted, kept and placed, with one record more at the end.
-- Assumes nothing.
use Prim.Native.Nat.{ℕ, zero, suc, ◌+◌, ◌-◌, ◌≤◌, ◌<◌}
use mathlib.Core.Path.{◌≡◌, refl, sym, ap, ◌∙◌}
use mathlib.Core.Bool.{Bool, true, false, not, ◌&&◌, ◌||◌}
use mathlib.Core.List.{List, [], ◌∷◌, ◌++◌, append-nil}
use lib.ListN.{length, take, drop, length-append, length-drop}
use lib.Seq.{take_all, take-append-le, drop-append-le, drop-append_seam}
use lib.Dec.{eqb}
use native.Mathlib.Omega.{arith}
use native.Mathlib.Numerals.{add-one}
use borrow.Author.Tests.{eq-eqb, ne_eqb}
use Rattle.exact.specs.Lists.{cons_if, keep, any, one_if, count}
use Rattle.exact.proofs.Lists.{keep_append, count_append}
use Rattle.record.specs.Layout.{Record}
use Rattle.record.proofs.Within.{never}
use Rattle.account.specs.Accepted.{Each}
use Rattle.account.specs.Parts.{place_of, start_of}

module _ (p : Record → Bool) where
  pub none_counted : (xs : List Record) → eqb (count p xs) 0 ≡ not (any p xs)
  none_counted [] = refl
  none_counted (x ∷ xs) = go (p x) refl (none_counted xs)
    where
      go :
          (t : Bool) → p x ≡ t → eqb (count p xs) 0 ≡ not (any p xs)
          → eqb (count p (x ∷ xs)) 0 ≡ not (any p (x ∷ xs))
      go true e h = rw e (ne_eqb (1 + count p xs) 0 (λ z. omega arith))
      go false e h =
          let z : 0 + count p xs ≡ count p xs = omega arith in
          rw (e, z) h

  pub any_keep : (q : Record → Bool) (xs : List Record) → any q (keep p xs) ≡ any (λ x. p x && q x) xs
  any_keep q [] = refl
  any_keep q (x ∷ xs) = go (p x) refl (any_keep q xs)
    where
      go :
          (t : Bool) → p x ≡ t → any q (keep p xs) ≡ any (λ y. p y && q y) xs
          → any q (keep p (x ∷ xs)) ≡ any (λ y. p y && q y) (x ∷ xs)
      go true e h = rw (e, h)
      go false e h = rw (e, h)

  pub any_kept : (xs : List Record) → any p xs ≡ any (λ x. true) (keep p xs)
  any_kept [] = refl
  any_kept (x ∷ xs) = go (p x) (any_kept xs)
    where
      go : (t : Bool) → any p xs ≡ any (λ y. true) (keep p xs) → t || any p xs ≡ any (λ y. true) (cons_if t x (keep p xs))
      go true h = refl
      go false h = h

  -- ---- the place of the first
  pub place_kept : (xs ys : List Record) → 0 < count p xs → place_of p (xs ++ ys) ≡ place_of p xs
  place_kept [] ys h = absurd_lt h
    where
      absurd_lt : 0 < 0 → place_of p ys ≡ 0
      absurd_lt z = omega arith
  place_kept (x ∷ xs) ys h = go (p x) refl (place_kept xs ys)
    where
      go :
          (t : Bool) → p x ≡ t → (0 < count p xs → place_of p (xs ++ ys) ≡ place_of p xs)
          → place_of p (x ∷ xs ++ ys) ≡ place_of p (x ∷ xs)
      go true e f = rw e
      go false e f =
          let some : 0 < one_if false + count p xs = rw e at h in
          rw (e, f (omega arith))

  pub place_end : (xs : List Record) (r : Record) → count p xs ≡ 0 → p r ≡ true → place_of p (xs ++ r ∷ []) ≡ length xs
  place_end [] r z t = rw t
  place_end (x ∷ xs) r z t = go (p x) refl (λ h. place_end xs r h t)
    where
      go :
          (t : Bool) → p x ≡ t → (count p xs ≡ 0 → place_of p (xs ++ r ∷ []) ≡ length xs)
          → place_of p (x ∷ xs ++ r ∷ []) ≡ suc (length xs)
      go true e f =
          let one : 1 + count p xs ≡ 0 = rw e at z in
          omega arith
      go false e f =
          let none : 0 + count p xs ≡ 0 = rw e at z in
          rw (e, f (omega arith)) (add-one (length xs))

  -- ---- where those that pass begin
  start_some : (xs : List Record) → 0 < count p xs → start_of p xs ≡ place_of p xs
  start_some xs h = rw (ne_eqb (count p xs) 0 (λ z. omega arith))

  start_none : (xs : List Record) → count p xs ≡ 0 → start_of p xs ≡ 0
  start_none xs h = rw (eq-eqb (count p xs) 0 h)

  module _ (xs : List Record) (r : Record) where
    pub counts_not : p r ≡ false → count p (xs ++ r ∷ []) ≡ count p xs
    counts_not t =
        let e : one_if (p r) ≡ 0 = rw t in
        omega (arith, count_append p xs (r ∷ []))

    pub counts_one : p r ≡ true → count p (xs ++ r ∷ []) ≡ count p xs + 1
    counts_one t =
        let e : one_if (p r) ≡ 1 = rw t in
        omega (arith, count_append p xs (r ∷ []))

    pub keeps_not : p r ≡ false → keep p (xs ++ r ∷ []) ≡ keep p xs
    keeps_not t =
        keep_append p xs (r ∷ []) ∙ ap (λ (b : Bool). keep p xs ++ cons_if b r []) t ∙ append-nil (keep p xs)

    pub keeps_one : p r ≡ true → keep p (xs ++ r ∷ []) ≡ keep p xs ++ r ∷ []
    keeps_one t = keep_append p xs (r ∷ []) ∙ ap (λ (b : Bool). keep p xs ++ cons_if b r []) t

    pub starts_same_not : p r ≡ false → start_of p (xs ++ r ∷ []) ≡ start_of p xs
    starts_same_not t = go (count p xs) refl
      where
        go : (n : ℕ) → count p xs ≡ n → start_of p (xs ++ r ∷ []) ≡ start_of p xs
        go zero e = start_none (xs ++ r ∷ []) (counts_not t ∙ e) ∙ sym (start_none xs e)
        go (suc n) e =
            start_some (xs ++ r ∷ []) (omega (arith, counts_not t)) ∙ place_kept xs (r ∷ []) (omega arith)
            ∙ sym (start_some xs (omega arith))

    pub starts_same : p r ≡ true → 0 < count p xs → start_of p (xs ++ r ∷ []) ≡ start_of p xs
    starts_same t h =
        start_some (xs ++ r ∷ []) (omega (arith, counts_one t)) ∙ place_kept xs (r ∷ []) h ∙ sym (start_some xs h)

    pub starts_here : p r ≡ true → count p xs ≡ 0 → start_of p (xs ++ r ∷ []) ≡ length xs
    starts_here t h = start_some (xs ++ r ∷ []) (omega (arith, counts_one t)) ∙ place_end xs r h t

-- ---- a part that stands in one stretch
pub record Stretch (p : Record → Bool) (xs : List Record) : Type 0 where
  pub within : start_of p xs + count p xs ≤ length xs
  pub kept : keep p xs ≡ take (count p xs) (drop (start_of p xs) xs)

part_same : (l : List Record) {n m s t : ℕ} → n ≡ m → s ≡ t → take n (drop s l) ≡ take m (drop t l)
part_same l a b = rw (a, b)

part_before : (n s : ℕ) (xs ys : List Record) → s + n ≤ length xs → take n (drop s (xs ++ ys)) ≡ take n (drop s xs)
part_before n s xs ys h =
    let l : length (drop s xs) ≡ length xs - s = length-drop s xs in
    rw (drop-append-le s xs ys (omega arith)) (take-append-le n (drop s xs) ys (omega arith))

part_end :
    (n s : ℕ) (xs : List Record) (r : Record) → s + n ≡ length xs
    → take (n + 1) (drop s (xs ++ r ∷ [])) ≡ take n (drop s xs) ++ r ∷ []
part_end n s xs r h =
    let l : length (drop s xs) ≡ length xs - s = length-drop s xs in
    let m : length (drop s xs ++ r ∷ []) ≡ length (drop s xs) + 1 = length-append (drop s xs) (r ∷ []) in
    rw (
      drop-append-le s xs (r ∷ []) (omega arith),
      take_all (n + 1) (drop s xs ++ r ∷ []) (omega arith),
      take_all n
          (drop s xs) (omega arith),
    )

module _ (p : Record → Bool) (xs : List Record) (r : Record) (old : Stretch p xs) where
  -- a record of another part
  pub stretch_skip : p r ≡ false → Stretch p (xs ++ r ∷ [])
  stretch_skip t =
      let n = counts_not p xs r t in
      let s = starts_same_not p xs r t in
      let w = old.within in
      record {
        within = omega (arith, length-append xs (r ∷ []));
        kept =
            keep_append p xs (r ∷ []) ∙ rw t (append-nil (keep p xs)) ∙ old.kept
            ∙ sym (part_before (count p xs) (start_of p xs) xs (r ∷ []) old.within)
            ∙ sym (part_same (xs ++ r ∷ []) n s);
      }

  -- a record of the part, which so far reaches to the end
  pub stretch-latest :
      p r ≡ true → (0 < count p xs → start_of p xs + count p xs ≡ length xs)
      → start_of p (xs ++ r ∷ []) + count p (xs ++ r ∷ []) ≡ length (xs ++ r ∷ [])
  stretch-latest t latest = go (count p xs) refl
    where
      go :
          (n : ℕ) → count p xs ≡ n
          → start_of p (xs ++ r ∷ []) + count p (xs ++ r ∷ []) ≡ length (xs ++ r ∷ [])
      go zero e = omega (arith, starts_here p xs r t e, counts_one p xs r t, length-append xs (r ∷ []))
      go (suc n) e =
          let some : 0 < count p xs = omega arith in
          omega (arith, starts_same p xs r t some, counts_one p xs r t, length-append xs (r ∷ []), latest some)

  pub stretch_grow : p r ≡ true → (0 < count p xs → start_of p xs + count p xs ≡ length xs) → Stretch p (xs ++ r ∷ [])
  stretch_grow t latest =
      let w = stretch-latest t latest in
      record { within = omega arith; kept = go (count p xs) refl }
    where
      one_more_lem : keep p (xs ++ r ∷ []) ≡ keep p xs ++ r ∷ []
      one_more_lem = keep_append p xs (r ∷ []) ∙ rw t

      go :
          (n : ℕ) → count p xs ≡ n
          → keep p (xs ++ r ∷ []) ≡ take (count p (xs ++ r ∷ [])) (drop (start_of p (xs ++ r ∷ [])) (xs ++ r ∷ []))
      go zero e =
          let none : keep p xs ≡ [] = old.kept ∙ ap (λ (n : ℕ). take n (drop (start_of p xs) xs)) e in
          let size : count p (xs ++ r ∷ []) ≡ 1 = omega (arith, counts_one p xs r t) in
          one_more_lem ∙ rw none (ap (take 1) (sym (drop-append_seam xs (r ∷ []))))
          ∙ sym (part_same (xs ++ r ∷ []) size (starts_here p xs r t e))
      go (suc n) e =
          let some : 0 < count p xs = omega arith in
          one_more_lem ∙ ap (λ (l : List Record). l ++ r ∷ []) old.kept
          ∙ sym (part_end (count p xs) (start_of p xs) xs r (latest some))
          ∙ sym (part_same (xs ++ r ∷ []) (counts_one p xs r t) (starts_same p xs r t some))

-- ---- every record of what is kept
pub every_both : (P Q : Record → Type 0) (xs : List Record) → Each P xs → Each Q xs → Each (λ r. P r × Q r) xs
every_both P Q [] a b = tt
every_both P Q (x ∷ xs) a b = ((a.0, b.0), every_both P Q xs a.1 b.1)

module _ (p : Record → Bool) where
  pub kept_pass : (xs : List Record) → Each (λ r. p r ≡ true) (keep p xs)
  kept_pass [] = tt
  kept_pass (x ∷ xs) = go (p x) refl (kept_pass xs)
    where
      go : (t : Bool) → p x ≡ t → Each (λ r. p r ≡ true) (keep p xs) → Each (λ r. p r ≡ true) (cons_if t x (keep p xs))
      go true e h = (e, h)
      go false e h = h

  pub keep_all : (xs : List Record) → Each (λ r. p r ≡ true) xs → keep p xs ≡ xs
  keep_all [] h = refl
  keep_all (x ∷ xs) h = rw (h.0, keep_all xs h.1)

  pub keep-none : (xs : List Record) → Each (λ r. p r ≡ false) xs → keep p xs ≡ []
  keep-none [] h = refl
  keep-none (x ∷ xs) h = rw h.0 (keep-none xs h.1)

  -- a stricter test keeps some of them
  pub every_stricter :
      (P : Record → Type 0) (q : Record → Bool) → ((r : Record) → q r ≡ true → p r ≡ true) → (xs : List Record)
      → Each P (keep p xs) → Each P (keep q xs)
  every_stricter P q f [] h = tt
  every_stricter P q f (x ∷ xs) h = go (p x) refl (q x) refl h (every_stricter P q f xs)
    where
      go :
          (s : Bool) → p x ≡ s → (t : Bool) → q x ≡ t → Each P (cons_if s x (keep p xs))
          → (Each P (keep p xs) → Each P (keep q xs)) → Each P (cons_if t x (keep q xs))
      go true d true e h rest = (h.0, rest h.1)
      go true d false e h rest = rest h.1
      go false d true e h rest = absurd (never (sym d ∙ f x e))
      go false d false e h rest = rest h
