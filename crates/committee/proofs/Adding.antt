-- A run with an account more: its counts and sums, the largest margin, and the lowest place that holds it.
-- Assumes nothing.
use Prim.Native.Nat.{ℕ, suc, ◌+◌, ◌<◌, max}
use native.Mathlib.Omega.{arith}
use mathlib.Core.Path.{◌≡◌, refl, sym, ap, ◌∙◌}
use mathlib.Core.Bool.{Bool, true, false, cond, ◌&&◌, ◌||◌, or-true, false≢true}
use mathlib.Core.List.{List, [], ◌∷◌, ◌++◌}
use borrow.Author.Tests.{eqb-true, eqb-false, eq-eqb, ne_eqb, ltb-true, ltb-false}
use lib.Dec.{eqb, ltb}
use lib.IntN.{ℤ}
use lib.ListN.{length}
use Rattle.exact.specs.Lists.{one_if, count, any}
use Rattle.exact.proofs.Lists.{count_append}
use Rattle.committee.specs.Answered.{Answered}
use Rattle.committee.specs.Committee.{total_number, is_accepted, accepted_count, over_accepted, summed, largest_margin, holds}
use Rattle.committee.specs.Committee.{lowest_place, unless_none, largest_place}

-- ---- counts and sums
module _ (p : Answered → Bool) (run : List Answered) (a : Answered) where
  pub count_next : count p (run ++ (a ∷ [])) ≡ count p run + one_if (p a)
  count_next = let e = count_append p run (a ∷ []) in omega arith

pub summed_next : (f : List ℤ → ℕ) (run : List Answered) (a : Answered) → summed f (run ++ (a ∷ [])) ≡ summed f run + over_accepted f a
summed_next f [] a = omega arith
summed_next f (x ∷ run) a = let rest = summed_next f run a in omega arith

pub largest_next : (run : List Answered) (a : Answered) → largest_margin (run ++ (a ∷ [])) ≡ max (largest_margin run) (over_accepted total_number a)
largest_next [] a = omega arith
largest_next (x ∷ run) a = let rest = largest_next run a in omega arith

-- ---- one account: what it adds, by whether it is accepted
pub none_of : (f : List ℤ → ℕ) (a : Answered) → is_accepted a ≡ false → over_accepted f a ≡ 0
none_of f a e = ap (λ (t : Bool). cond t (f a.numbers) 0) e

pub all_of : (f : List ℤ → ℕ) (a : Answered) → is_accepted a ≡ true → over_accepted f a ≡ f a.numbers
all_of f a e = ap (λ (t : Bool). cond t (f a.numbers) 0) e

holds_not : (m : ℕ) (a : Answered) → is_accepted a ≡ false → holds m a ≡ false
holds_not m a e = ap (λ (t : Bool). t && eqb (total_number a.numbers) m) e

holds_if : (m : ℕ) (a : Answered) → is_accepted a ≡ true → over_accepted total_number a ≡ m → holds m a ≡ true
holds_if m a e h =
    ap (λ (t : Bool). t && eqb (total_number a.numbers) m) e ∙ eq-eqb (total_number a.numbers) m (sym (all_of total_number a e) ∙ h)

holds_other : (m : ℕ) (a : Answered) → (over_accepted total_number a ≡ m → ⊥) → holds m a ≡ false
holds_other m a d = go (is_accepted a) refl
  where
    go : (t : Bool) → is_accepted a ≡ t → holds m a ≡ false
    go true e =
        ap (λ (t : Bool). t && eqb (total_number a.numbers) m) e ∙ ne_eqb (total_number a.numbers) m (λ z. d (all_of total_number a e ∙ z))
    go false e = holds_not m a e

-- ---- who holds the largest margin
both_false : (x y : Bool) → x ≡ false → y ≡ false → (x || y) ≡ false
both_false x y e f = ap (λ (t : Bool). t || y) e ∙ f

none_more : (x n : ℕ) → x + n ≡ 0 → (x ≡ 0) × (n ≡ 0)
none_more x n e = (omega arith, omega arith)

pub not_accepted : (t : Bool) → one_if t ≡ 0 → t ≡ false
not_accepted true e = absurd (omega arith)
not_accepted false e = refl

pub none-largest : (run : List Answered) → accepted_count run ≡ 0 → largest_margin run ≡ 0
none-largest [] e = refl
none-largest (x ∷ run) e =
    let two = none_more (one_if (is_accepted x)) (accepted_count run) e in
    let first = none_of total_number x (not_accepted (is_accepted x) two.0) in
    let rest = none-largest run two.1 in
    omega arith

none-holds : (m : ℕ) (run : List Answered) → accepted_count run ≡ 0 → any (holds m) run ≡ false
none-holds m [] e = refl
none-holds m (x ∷ run) e =
    let two = none_more (one_if (is_accepted x)) (accepted_count run) e in
    both_false (holds m x) (any (holds m) run) (holds_not m x (not_accepted (is_accepted x) two.0)) (none-holds m run two.1)

above_holds : (m : ℕ) (run : List Answered) → largest_margin run < m → any (holds m) run ≡ false
above_holds m [] h = refl
above_holds m (x ∷ run) h =
    both_false (holds m x) (any (holds m) run) (holds_other m x (λ e. omega arith)) (above_holds m run (omega arith))

pub some_holds : (run : List Answered) → (accepted_count run ≡ 0 → ⊥) → any (holds (largest_margin run)) run ≡ true
some_holds [] d = absurd (d refl)
some_holds (x ∷ run) d =
    go (is_accepted x) refl (eqb (accepted_count run) 0) refl (ltb (over_accepted total_number x) (largest_margin run)) refl (some_holds run)
  where
    first : holds (max (over_accepted total_number x) (largest_margin run)) x ≡ true → any (holds (largest_margin (x ∷ run))) (x ∷ run) ≡ true
    first e = ap (λ (t : Bool). t || any (holds (largest_margin (x ∷ run))) run) e

    later : max (over_accepted total_number x) (largest_margin run) ≡ largest_margin run → any (holds (largest_margin run)) run ≡ true
        → any (holds (largest_margin (x ∷ run))) (x ∷ run) ≡ true
    later e h =
        ap (λ (n : ℕ). holds n x || any (holds n) run) e ∙ ap (λ (t : Bool). holds (largest_margin run) x || t) h ∙ or-true (holds (largest_margin run) x)

    go : (t : Bool) → is_accepted x ≡ t → (u : Bool) → eqb (accepted_count run) 0 ≡ u → (v : Bool) → ltb (over_accepted total_number x) (largest_margin run) ≡ v
        → ((accepted_count run ≡ 0 → ⊥) → any (holds (largest_margin run)) run ≡ true) → any (holds (largest_margin (x ∷ run))) (x ∷ run) ≡ true
    go false e u f v g rest =
        let one = ap one_if e in
        later (let z = none_of total_number x e in omega arith) (rest (λ z. d (omega arith)))
    go true e true f v g rest =
        let none = none-largest run (eqb-true (accepted_count run) 0 f) in
        first (holds_if _ x e (omega arith))
    go true e false f true g rest =
        let l = ltb-true (over_accepted total_number x) (largest_margin run) g in
        later (omega arith) (rest (eqb-false (accepted_count run) 0 f))
    go true e false f false g rest =
        let l = ltb-false (over_accepted total_number x) (largest_margin run) g in
        first (holds_if _ x e (omega arith))

-- ---- the lowest place
place_same : (p : Answered → Bool) (run more : List Answered) → any p run ≡ true → lowest_place p (run ++ more) ≡ lowest_place p run
place_same p [] more h = absurd (false≢true h)
place_same p (x ∷ run) more h = go (p x) h (place_same p run more)
  where
    go : (t : Bool) → (t || any p run) ≡ true → (any p run ≡ true → lowest_place p (run ++ more) ≡ lowest_place p run)
        → cond t 0 (suc (lowest_place p (run ++ more))) ≡ cond t 0 (suc (lowest_place p run))
    go true e rest = refl
    go false e rest = ap suc (rest e)

place_past : (p : Answered → Bool) (run : List Answered) (a : Answered) → any p run ≡ false → p a ≡ true → lowest_place p (run ++ (a ∷ [])) ≡ length run
place_past p [] a h e = ap (λ (t : Bool). cond t 0 1) e
place_past p (x ∷ run) a h e = go (p x) h (place_past p run a)
  where
    go : (t : Bool) → (t || any p run) ≡ false → (any p run ≡ false → p a ≡ true → lowest_place p (run ++ (a ∷ [])) ≡ length run)
        → cond t 0 (suc (lowest_place p (run ++ (a ∷ [])))) ≡ suc (length run)
    go true f rest = absurd (false≢true (sym f))
    go false f rest = ap suc (rest f e)

pub unless_none_lem : (run : List Answered) (n : ℕ) → accepted_count run ≡ 0 → unless_none run n ≡ 0
unless_none_lem run n e = ap (λ (t : Bool). cond t 0 n) (eq-eqb (accepted_count run) 0 e)

pub unless_some : (run : List Answered) (n : ℕ) → (accepted_count run ≡ 0 → ⊥) → unless_none run n ≡ n
unless_some run n d = ap (λ (t : Bool). cond t 0 n) (ne_eqb (accepted_count run) 0 d)

-- ---- the account takes the largest margin over, or not
module _ (run : List Answered) (a : Answered) where
  abbrev pub longer : List Answered
  longer = run ++ (a ∷ [])

  abbrev pub takes_over : Bool
  takes_over = is_accepted a && (eqb (accepted_count run) 0 || ltb (largest_margin run) (over_accepted total_number a))

  pub record Largest (t : Bool) : Type 0 where
    pub largest_is : largest_margin longer ≡ cond t (over_accepted total_number a) (largest_margin run)
    pub place_is : largest_place longer ≡ cond t (length run) (largest_place run)

  -- it does
  over : is_accepted a ≡ true → largest_margin longer ≡ over_accepted total_number a → any (holds (over_accepted total_number a)) run ≡ false → Largest true
  over e l h =
      let one = ap one_if e in
      let counted = count_next is_accepted run a in
      record {
        largest_is = l;
        place_is =
            unless_some longer (lowest_place (holds (largest_margin longer)) longer) (λ z. omega arith)
            ∙ ap (λ (m : ℕ). lowest_place (holds m) longer) l
            ∙ place_past (holds (over_accepted total_number a)) run a h (holds_if (over_accepted total_number a) a e refl);
      }

  -- it does not
  kept : largest_margin longer ≡ largest_margin run → (accepted_count run ≡ 0 → is_accepted a ≡ false) → Largest false
  kept l only = go (eqb (accepted_count run) 0) refl
    where
      go : (u : Bool) → eqb (accepted_count run) 0 ≡ u → Largest false
      go true f =
          let z = eqb-true (accepted_count run) 0 f in
          let counted = count_next is_accepted run a in
          let none = ap one_if (only z) in
          record {
            largest_is = l;
            place_is =
                unless_none_lem longer (lowest_place (holds (largest_margin longer)) longer) (omega arith)
                ∙ sym (unless_none_lem run (lowest_place (holds (largest_margin run)) run) z);
          }
      go false f =
          let d = eqb-false (accepted_count run) 0 f in
          let counted = count_next is_accepted run a in
          record {
            largest_is = l;
            place_is =
                unless_some longer (lowest_place (holds (largest_margin longer)) longer) (λ z. d (omega arith))
                ∙ ap (λ (m : ℕ). lowest_place (holds m) longer) l
                ∙ place_same (holds (largest_margin run)) run (a ∷ []) (some_holds run d)
                ∙ sym (unless_some run (lowest_place (holds (largest_margin run)) run) d);
          }

  pub taken : Largest takes_over
  taken = go (is_accepted a) refl (eqb (accepted_count run) 0) refl (ltb (largest_margin run) (over_accepted total_number a)) refl
    where
      go : (t : Bool) → is_accepted a ≡ t → (u : Bool) → eqb (accepted_count run) 0 ≡ u → (v : Bool) → ltb (largest_margin run) (over_accepted total_number a) ≡ v
          → Largest (t && (u || v))
      go false e u f v g =
          let none = none_of total_number a e in
          let l = largest_next run a in
          kept (omega arith) (λ z. e)
      go true e true f v g =
          let z = eqb-true (accepted_count run) 0 f in
          let none = none-largest run z in
          let l = largest_next run a in
          over e (omega arith) (none-holds (over_accepted total_number a) run z)
      go true e false f true g =
          let h = ltb-true (largest_margin run) (over_accepted total_number a) g in
          let l = largest_next run a in
          over e (omega arith) (above_holds (over_accepted total_number a) run h)
      go true e false f false g =
          let h = ltb-false (largest_margin run) (over_accepted total_number a) g in
          let l = largest_next run a in
          kept (omega arith) (λ z. absurd (eqb-false (accepted_count run) 0 f z))
