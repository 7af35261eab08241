-- The one place of a row's day, and that its delta is added there alone.
-- Assumes nothing.
use mathlib.Core.Path.{◌≡◌, refl, sym, ◌∙◌, ap}
use mathlib.Core.Bool.{Bool, true, false, cond}
use mathlib.Core.List.{List, [], ◌∷◌}
use Prim.Native.Nat.{ℕ, zero, suc, ◌+◌, ◌≤◌, ◌<◌}
use native.Mathlib.Omega.{arith}
use lib.Dec.{eqb, ltb}
use lib.IntN.{ℤ, pos, ◌+ℤ◌, +ℤ_idr}
use lib.ListN.{length, get_or, set, length-set}
use lib.Seq.{get_or-set_same, get_or-set_other}
use borrow.Author.Tests.{eq-eqb, ne_eqb, eqb-true, eqb-false, ltb-true, ltb-false}
use Rattle.exact.specs.Lists.{count, one_if}
use Rattle.account.specs.Parts.{on_day}
use Rattle.record.specs.Layout.{Record, day}
use Rattle.formulas.specs.declared.rows.Days.{Days}
use Rattle.formulas.specs.code.Position.{Added, DaysOf, FirstPlace, OnePlace, Guessed, RowsPlaced, OneDay, adds_on}

-- one day more that is another
pub passed_one : (days : List ℕ) (j d : ℕ) → ((k : ℕ) → k < j → get_or days k 0 ≡ d → ⊥) → (get_or days j 0 ≡ d → ⊥) → (k : ℕ)
    → k < j + 1 → get_or days k 0 ≡ d → ⊥
passed_one days j d earlier here k h = go (ltb k j) refl
  where
    go : (t : Bool) → ltb k j ≡ t → get_or days k 0 ≡ d → ⊥
    go true e = λ same. earlier k (ltb-true k j e) same
    go false e =
        λ same.
        let at : k ≡ j = let far = ltb-false k j e in omega arith in
        here (ap (λ (i : ℕ). get_or days i 0) (sym at) ∙ same)

-- a day that has a place is found there
pub found_first : (days : List ℕ) (n d r : ℕ) → OnePlace n days d → FirstPlace days n d r → (r < n) × (get_or days r 0 ≡ d)
found_first days n d r one f = go (ltb r n) refl
  where
    go : (t : Bool) → ltb r n ≡ t → (r < n) × (get_or days r 0 ≡ d)
    go true e = (ltb-true r n e, f.here (ltb-true r n e))
    go false e = absurd (f.others one.place (let far = ltb-false r n e in let near = one.within in omega arith) one.here)

-- one guess more
pub guessed_more : (n j : ℕ) → j < n → (guess : List ℕ) (i : ℕ) → Guessed n guess → Guessed n (set guess i j)
guessed_more n j h guess i g some = go guess i (g some)
  where
    go : (xs : List ℕ) (i : ℕ) → ((k : ℕ) → get_or xs k 0 < n) → (k : ℕ) → get_or (set xs i j) k 0 < n
    go [] i e k = e k
    go (x ∷ xs) zero e zero = h
    go (x ∷ xs) zero e (suc k) = e (suc k)
    go (x ∷ xs) (suc i) e zero = e 0
    go (x ∷ xs) (suc i) e (suc k) = go xs i (λ m. e (suc m)) k

-- what a row adds at the one place of its day
module _ (n : ℕ) (days : List ℕ) (d : ℕ) (one : OnePlace n days d) (more : ℤ) (xs : List ℤ) where
  pub added_once : (j : ℕ) (z : ℤ) → n ≤ length xs → (j < n) × (get_or days j 0 ≡ d) → z ≡ get_or xs j (pos 0) +ℤ more
      → Added n (adds_on days d more) xs (set xs j z)
  added_once j z room at e =
      record {
        as_many = length-set xs j z;
        added = λ k h. each k h (eqb k j) refl;
        others = λ k h. get_or-set_other xs j k z (pos 0) (λ q. let near = at.0 in omega arith);
      }
    where
      each : (k : ℕ) → k < n → (t : Bool) → eqb k j ≡ t → get_or (set xs j z) k (pos 0) ≡ get_or xs k (pos 0) +ℤ adds_on days d more k
      each k h true q =
          let same : k ≡ j = eqb-true k j q in
          ap (λ (i : ℕ). get_or (set xs j z) i (pos 0)) same
          ∙ get_or-set_same xs j z (pos 0) (let near = at.0 in omega arith)
          ∙ e
          ∙ ap (λ (i : ℕ). get_or xs i (pos 0) +ℤ more) (sym same)
          ∙ ap (λ (t : Bool). get_or xs k (pos 0) +ℤ cond t more (pos 0))
          (sym (eq-eqb d (get_or days k 0) (sym (ap (λ (i : ℕ). get_or days i 0) same ∙ at.1))))
      each k h false q =
          let apart : k ≡ j → ⊥ = eqb-false k j q in
          get_or-set_other xs j k z (pos 0) apart
          ∙ sym (+ℤ_idr (get_or xs k (pos 0)))
          ∙ ap (λ (t : Bool). get_or xs k (pos 0) +ℤ cond t more (pos 0))
          (sym (ne_eqb d (get_or days k 0) (λ r. apart (one.only k h (sym r) ∙ sym (one.only j at.0 at.1)))))

-- ---- the days of prompts

none_on : (d : ℕ) (ps : List Record) → count (on_day d) ps ≡ 0 → (k : ℕ) → k < length ps → day (get_or ps k []) ≡ d → ⊥
none_on d [] e k h q = omega arith
none_on d (p ∷ ps) e zero h q = let here : one_if (on_day d p) ≡ 1 = ap one_if (eq-eqb (day p) d q) in omega arith
none_on d (p ∷ ps) e (suc k) h q = none_on d ps (omega arith) k (omega arith) q

-- the one prompt of a day
record OneOn (d : ℕ) (ps : List Record) : Type 0 where
  place : ℕ
  within : place < length ps
  here : day (get_or ps place []) ≡ d
  only : (k : ℕ) → k < length ps → day (get_or ps k []) ≡ d → k ≡ place

one_on : (d : ℕ) (ps : List Record) → count (on_day d) ps ≡ 1 → OneOn d ps
one_on d [] e = absurd (omega arith)
one_on d (p ∷ ps) e = go (on_day d p) refl (one_on d ps)
  where
    first : one_if (on_day d p) ≡ 1 → (k : ℕ) → k < suc (length ps) → day (get_or (p ∷ ps) k []) ≡ d → k ≡ 0
    first o zero h q = refl
    first o (suc k) h q = absurd (none_on d ps (omega arith) k (omega arith) q)

    later : on_day d p ≡ false → (rest : OneOn d ps) → (k : ℕ) → k < suc (length ps) → day (get_or (p ∷ ps) k []) ≡ d → k ≡ suc rest.place
    later o rest zero h q = absurd (eqb-false (day p) d o q)
    later o rest (suc k) h q = ap suc (rest.only k (omega arith) q)

    go : (t : Bool) → on_day d p ≡ t → (count (on_day d) ps ≡ 1 → OneOn d ps) → OneOn d (p ∷ ps)
    go true o others = record { place = 0; within = omega arith; here = eqb-true (day p) d o; only = first (ap one_if o) }
    go false o others =
        let none : one_if (on_day d p) ≡ 0 = ap one_if o in
        let rest = others (omega arith) in
        record { place = suc rest.place; within = let near = rest.within in omega arith; here = rest.here; only = later o rest }

pub rows_placed : (prompts rows : List Record) (d : Days) → DaysOf prompts d → OneDay prompts rows → RowsPlaced d.count d.day rows
rows_placed prompts rows d known on k h =
    let one = one_on (day (get_or rows k [])) prompts (on k h) in
    record {
      place = one.place;
      within = omega (arith, one.within, known.count_is);
      here = known.day_is one.place one.within ∙ one.here;
      only = λ j l q. let near : j < length prompts = omega (arith, known.count_is) in one.only j near (sym (known.day_is j near) ∙ q);
    }
