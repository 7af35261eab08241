-- A leg that goes on where the one before it on the same cell stopped takes what it takes from the first prompt on: those before are
-- used up. And the lists of cells and sizes are the prompts, leg after leg and step after step.
-- Assumes nothing.
use Prim.Native.Nat.{ℕ, zero, suc, ◌+◌, ◌-◌, ◌≤◌, ◌<◌, min}
use native.Mathlib.Nat.{sub-zero, zero-add, zero-sub}
use native.Mathlib.Omega.{arith}
use mathlib.Core.Bool.{Bool, true, false, cond, ◌&&◌}
use mathlib.Core.List.{List, [], ◌∷◌, map}
use mathlib.Core.Path.{◌≡◌, refl, sym, ◌∙◌, ap, ap₂, subst}
use lib.Dec.{eqb, ltb}
use lib.IntN.{ℤ}
use lib.ListN.{length, get_or, set, take, length-set, get_or-eq_default}
use lib.Seq.{get_or-set_same, get_or-set_other, set_out, take-nil}
use borrow.Author.Tests.{eqb-true, eqb-false, eq-eqb, ne_eqb, ltb-true, ltb-false, lt-ltb}
use Rattle.exact.specs.Lists.{one_if}
use Rattle.exact.proofs.Tests.{one_at_most}
use Rattle.spread.specs.code.Cells.{cell_of, pool_count}
use Rattle.spread.specs.Steps.{market_in, step_of, Market, Open, Taker, in_tier, taker, use_of, less, gives, leg_takes, take_from, after}
use Rattle.spread.specs.Demand.{draws}
use Rattle.spread.specs.code.Passing.{gives_in, sizes_in, touches_in, sizes_after, step_touches_in, UsedUp, Begun, Ready, Passed, LegTaken, StepTaken, SameAs}
use Rattle.spread.specs.code.Passing.{Laid}
use Rattle.spread.specs.Touches.{leg_touches, step_touches}
use Rattle.spread.specs.declared.Leg.{Leg}
use Rattle.spread.specs.declared.Spread.{Spread}
use Rattle.spread.specs.Accepted.{tier_count, prompt_places}
use Rattle.spread.proofs.Gathering.{nothing}
use Rattle.spread.proofs.Nothing.{use_none}
use Rattle.spread.proofs.Pooling.{out_of_range, same_cells}
use Rattle.spread.proofs.Spending.{draws-tier, tier-less, wants}

-- a prompt that is used up, or stands on another cell, gives nothing
gives_none : (cell w c x : ℕ) → (c ≡ cell → x ≡ 0) → gives_in cell w c x ≡ 0
gives_none cell w c x h = go (eqb c cell) refl
  where
    go : (b : Bool) → eqb c cell ≡ b → min w (cond b x 0) ≡ 0
    go true e = let z = h (eqb-true c cell e) in omega arith
    go false e = omega arith

first_used : (cell c x place : ℕ) (cs xs : List ℕ) → UsedUp cell (c ∷ cs) (x ∷ xs) (suc place) → c ≡ cell → x ≡ 0
first_used cell c x place cs xs h e = h 0 (omega arith) e

others_used : (cell c x place : ℕ) (cs xs : List ℕ) → UsedUp cell (c ∷ cs) (x ∷ xs) (suc place) → UsedUp cell cs xs place
others_used cell c x place cs xs h k l e = h (suc k) (omega arith) e

module _ (cell w c x : ℕ) (cs xs : List ℕ) (z : gives_in cell w c x ≡ 0) where
  sizes_first : sizes_in cell w (c ∷ cs) (x ∷ xs) ≡ x ∷ sizes_in cell w cs xs
  sizes_first = (λ i. (x - z i) ∷ sizes_in cell (w - z i) cs xs) ∙ ap₂ (λ (a b : ℕ). a ∷ sizes_in cell b cs xs) (sub-zero x) (sub-zero w)

  touches_first : touches_in cell w (c ∷ cs) (x ∷ xs) ≡ touches_in cell w cs xs
  touches_first =
      (λ i. one_if (ltb 0 (z i)) + touches_in cell (w - z i) cs xs)
      ∙ zero-add (touches_in cell (w - 0) cs xs)
      ∙ ap (λ (b : ℕ). touches_in cell b cs xs) (sub-zero w)

-- a leg that wants nothing, or whose prompts are all used up

pub record Idle (cell w : ℕ) (cs xs : List ℕ) : Type 0 where
  pub sizes : sizes_in cell w cs xs ≡ xs
  pub touched : touches_in cell w cs xs ≡ 0

idle_first : (cell w c x : ℕ) (cs xs : List ℕ) → gives_in cell w c x ≡ 0 → Idle cell w cs xs → Idle cell w (c ∷ cs) (x ∷ xs)
idle_first cell w c x cs xs z r =
    record {
      sizes = sizes_first cell w c x cs xs z ∙ ap (λ (l : List ℕ). x ∷ l) r.sizes;
      touched = touches_first cell w c x cs xs z ∙ r.touched;
    }

pub idle_none : (cell : ℕ) (cs xs : List ℕ) → Idle cell 0 cs xs
idle_none cell [] xs = record { sizes = refl; touched = refl }
idle_none cell (c ∷ cs) [] = record { sizes = refl; touched = refl }
idle_none cell (c ∷ cs) (x ∷ xs) = idle_first cell 0 c x cs xs (omega arith) (idle_none cell cs xs)

pub idle_used : (cell w place : ℕ) (cs xs : List ℕ) → length cs ≤ place → UsedUp cell cs xs place → Idle cell w cs xs
idle_used cell w place [] xs l h = record { sizes = refl; touched = refl }
idle_used cell w place (c ∷ cs) [] l h = record { sizes = refl; touched = refl }
idle_used cell w zero (c ∷ cs) (x ∷ xs) l h = absurd (omega arith)
idle_used cell w (suc place) (c ∷ cs) (x ∷ xs) l h =
    idle_first cell w c x cs xs (gives_none cell w c x (first_used cell c x place cs xs h))
    (idle_used cell w place cs xs (omega arith) (others_used cell c x place cs xs h))

-- a turn: the prompt at the place gives, and the leg wants the rest

module _ (cell : ℕ) where
  gift : ℕ → List ℕ → List ℕ → ℕ → ℕ
  gift w cs xs k = gives_in cell w (get_or cs k 0) (get_or xs k 0)

  again_none : (w c x : ℕ) → gives_in cell (w - gives_in cell w c x) c (x - gives_in cell w c x) ≡ 0
  again_none w c x = go (eqb c cell)
    where
      go : (b : Bool) → min (w - min w (cond b x 0)) (cond b (x - min w (cond b x 0)) 0) ≡ 0
      go true = omega arith
      go false = omega arith

  record Turned (w : ℕ) (cs xs : List ℕ) (k : ℕ) : Type 0 where
    sizes : sizes_in cell w cs xs ≡ sizes_in cell (w - gift w cs xs k) cs (set xs k (get_or xs k 0 - gift w cs xs k))
    touched : touches_in cell w cs xs ≡ one_if (ltb 0 (gift w cs xs k)) + touches_in cell (w - gift w cs xs k) cs (set xs k (get_or xs k 0 - gift w cs xs k))

  turned : (w : ℕ) (cs xs : List ℕ) (k : ℕ) → k < length cs → k < length xs → UsedUp cell cs xs k → Turned w cs xs k
  unfolding gift
  turned w [] xs k l g h = absurd (omega arith)
  turned w (c ∷ cs) [] k l g h = absurd (omega arith)
  turned w (c ∷ cs) (x ∷ xs) zero l g h =
      let z = again_none w c x in
      let a = gives_in cell w c x in
      record {
        sizes = sym (sizes_first cell (w - a) c (x - a) cs xs z);
        touched = ap (λ (n : ℕ). one_if (ltb 0 a) + n) (sym (touches_first cell (w - a) c (x - a) cs xs z));
      }
  turned w (c ∷ cs) (x ∷ xs) (suc k) l g h =
      let r = turned w cs xs k (omega arith) (omega arith) (others_used cell c x k cs xs h) in
      let rest = w - gift w cs xs k in
      let now = set xs k (get_or xs k 0 - gift w cs xs k) in
      let a = gives_none cell w c x (first_used cell c x k cs xs h) in
      let b = gives_none cell rest c x (first_used cell c x k cs xs h) in
      record {
        sizes = sizes_first cell w c x cs xs a ∙ ap (λ (m : List ℕ). x ∷ m) r.sizes ∙ sym (sizes_first cell rest c x cs now b);
        touched =
            touches_first cell w c x cs xs a
            ∙ r.touched
            ∙ ap (λ (n : ℕ). one_if (ltb 0 (gift w cs xs k)) + n) (sym (touches_first cell rest c x cs now b));
      }

-- at most a take of each prompt

pub one_most : (b : Bool) (n : ℕ) → n ≡ one_if b → n ≤ 1
one_most b n e = let h = one_at_most b in omega arith

pub touches_most : (cell w : ℕ) (cs xs : List ℕ) → touches_in cell w cs xs ≤ length cs
touches_most cell w [] xs = omega arith
touches_most cell w (c ∷ cs) [] = omega arith
touches_most cell w (c ∷ cs) (x ∷ xs) =
    let r = touches_most cell (w - gives_in cell w c x) cs xs in
    let o = one_at_most (ltb 0 (gives_in cell w c x)) in
    omega arith

-- the walk: what is still due of the sizes as they are now

pub record ToPass (cell wanted : ℕ) (cs xs : List ℕ) (due k : ℕ) (now : List ℕ) (touches : ℕ) : Type 0 where
  pub size : length now ≡ length xs
  pub sizes : sizes_in cell wanted cs xs ≡ sizes_in cell due cs now
  pub touched : touches_in cell wanted cs xs ≡ touches + touches_in cell due cs now
  pub used : UsedUp cell cs now k

pub pass_start : (cell wanted : ℕ) (cs xs : List ℕ) (start : ℕ) → UsedUp cell cs xs start → ToPass cell wanted cs xs wanted start xs 0
pass_start cell wanted cs xs start h = record { size = refl; sizes = refl; touched = sym (zero-add (touches_in cell wanted cs xs)); used = h }

pub pass_next : (cell wanted : ℕ) (cs xs : List ℕ) (due k : ℕ) (now : List ℕ) (touches given : ℕ) → k < length cs → length cs ≡ length xs
    → given ≡ gives_in cell due (get_or cs k 0) (get_or now k 0)
    → ToPass cell wanted cs xs due k now touches
    → ToPass cell wanted cs xs (due - given) (k + one_if (ltb 0 (due - given))) (set now k (get_or now k 0 - given)) (touches + one_if (ltb 0 given))
unfolding gift
pass_next cell wanted cs xs due k now touches given l s e r =
    let t = turned cell due cs now k l (omega (arith, l, s, r.size)) r.used in
    record {
      size = length-set now k (get_or now k 0 - given) ∙ r.size;
      sizes = r.sizes ∙ t.sizes ∙ (λ i. sizes_in cell (due - e' i) cs (set now k (get_or now k 0 - e' i)));
      touched =
          r.touched
          ∙ ap (λ (n : ℕ). touches + n) (t.touched ∙ (λ i. one_if (ltb 0 (e' i)) + touches_in cell (due - e' i) cs (set now k (get_or now k 0 - e' i))))
          ∙ regroup touches (one_if (ltb 0 given)) (touches_in cell (due - given) cs (set now k (get_or now k 0 - given)));
      used = used_next (ltb 0 (due - given)) refl;
    }
  where
    e' : gives_in cell due (get_or cs k 0) (get_or now k 0) ≡ given
    e' = sym e

    regroup : (a b c : ℕ) → a + (b + c) ≡ a + b + c
    regroup a b c = omega arith

    earlier : (j : ℕ) → j < k → get_or cs j 0 ≡ cell → get_or (set now k (get_or now k 0 - given)) j 0 ≡ 0
    earlier j h c = get_or-set_other now k j (get_or now k 0 - given) 0 (λ d. absurd (omega (arith, h, d))) ∙ r.used j h c

    all_given : 0 < due - given → get_or cs k 0 ≡ cell → get_or now k 0 - given ≡ 0
    all_given h c =
        let g = e ∙ ap (λ (b : Bool). min due (cond b (get_or now k 0) 0)) (eq-eqb (get_or cs k 0) cell c) in
        omega (arith, h, g)

    used_next : (b : Bool) → ltb 0 (due - given) ≡ b → UsedUp cell cs (set now k (get_or now k 0 - given)) (k + one_if b)
    used_next false f j h c = earlier j (omega (arith, h)) c
    used_next true f j h c = go (eqb j k) refl
      where
        go : (b : Bool) → eqb j k ≡ b → get_or (set now k (get_or now k 0 - given)) j 0 ≡ 0
        go true q =
            ap (λ (i : ℕ). get_or (set now k (get_or now k 0 - given)) i 0) (eqb-true j k q)
            ∙ get_or-set_same now k (get_or now k 0 - given) 0 (omega (arith, l, s, r.size))
            ∙ all_given (ltb-true 0 (due - given) f) (ap (λ (i : ℕ). get_or cs i 0) (sym (eqb-true j k q)) ∙ c)
        go false q = earlier j (let d = eqb-false j k q in omega (arith, h, d)) c

-- the same with the results of the calls
pub pass_turn : (cell wanted : ℕ) (cs xs : List ℕ) (due k : ℕ) (now : List ℕ) (touches given place one : ℕ) → k < length cs → length cs ≡ length xs
    → given ≡ gives_in cell due (get_or cs k 0) (get_or now k 0)
    → place ≡ k + one_if (ltb 0 (due - given))
    → one ≡ one_if (ltb 0 given)
    → ToPass cell wanted cs xs due k now touches
    → ToPass cell wanted cs xs (due - given) place (set now k (get_or now k 0 - given)) (touches + one)
pass_turn cell wanted cs xs due k now touches given place one l s e ep eo r =
    subst (λ (n : ℕ). ToPass cell wanted cs xs (due - given) n (set now k (get_or now k 0 - given)) (touches + one)) (sym ep)
    (subst (λ (n : ℕ). ToPass cell wanted cs xs (due - given) (k + one_if (ltb 0 (due - given))) (set now k (get_or now k 0 - given)) (touches + n)) (sym eo)
    (pass_next cell wanted cs xs due k now touches given l s e r))

pub gives_most : (cell due c x : ℕ) {given : ℕ} → given ≡ gives_in cell due c x → (given ≤ due) × (given ≤ x)
gives_most cell due c x {given} e = go (eqb c cell) e
  where
    go : (b : Bool) → given ≡ min due (cond b x 0) → (given ≤ due) × (given ≤ x)
    go true f = (omega arith, omega arith)
    go false f = (omega arith, omega arith)

pub turn_less : (due k given place : ℕ) → 0 < due → k < prompt_places → place ≡ k + one_if (ltb 0 (due - given))
    → due - given + (prompt_places - place) < due + (prompt_places - k)
turn_less due k given place h l e = go (ltb 0 (due - given)) refl e
  where
    go : (b : Bool) → ltb 0 (due - given) ≡ b → place ≡ k + one_if b → due - given + (prompt_places - place) < due + (prompt_places - k)
    go true f p = omega arith
    go false f p = let z = ltb-false 0 (due - given) f in omega arith

pub touches_few : (cell wanted : ℕ) (cs xs : List ℕ) (due k : ℕ) (now : List ℕ) (touches : ℕ) → ToPass cell wanted cs xs due k now touches → touches ≤ length cs
touches_few cell wanted cs xs due k now touches r = let m = touches_most cell wanted cs xs in let e = r.touched in omega arith

pub pass_end : (cell wanted : ℕ) (cs xs : List ℕ) (due k : ℕ) (now : List ℕ) (touches : ℕ) → (ltb 0 due && ltb k (length cs)) ≡ false
    → ToPass cell wanted cs xs due k now touches → Passed cell wanted cs xs now k touches
pass_end cell wanted cs xs due k now touches e r =
    let i = idle (ltb 0 due) refl e in
    record {
      sizes = sym (r.sizes ∙ i.sizes);
      touched = sym (r.touched ∙ ap (λ (n : ℕ). touches + n) i.touched ∙ none touches);
      begun = r.used;
    }
  where
    none : (n : ℕ) → n + 0 ≡ n
    none n = omega arith

    idle : (b : Bool) → ltb 0 due ≡ b → (b && ltb k (length cs)) ≡ false → Idle cell due cs now
    idle true f g = idle_used cell due k cs now (ltb-false k (length cs) g) r.used
    idle false f g =
        let z : due ≡ 0 = let d = ltb-false 0 due f in omega arith in
        subst (λ (d : ℕ). Idle cell d cs now) (sym z) (idle_none cell cs now)

pub sizes_length : (cell w : ℕ) (cs xs : List ℕ) → length (sizes_in cell w cs xs) ≡ length xs
sizes_length cell w [] xs = refl
sizes_length cell w (c ∷ cs) [] = refl
sizes_length cell w (c ∷ cs) (x ∷ xs) = ap suc (sizes_length cell (w - gives_in cell w c x) cs xs)

-- sizes only fall
sizes_fall : (cell w : ℕ) (cs xs : List ℕ) (k : ℕ) → get_or (sizes_in cell w cs xs) k 0 ≤ get_or xs k 0
sizes_fall cell w [] xs k = omega arith
sizes_fall cell w (c ∷ cs) [] k = omega arith
sizes_fall cell w (c ∷ cs) (x ∷ xs) zero = omega arith
sizes_fall cell w (c ∷ cs) (x ∷ xs) (suc k) = sizes_fall cell (w - gives_in cell w c x) cs xs k

-- the places kept, after a leg
pub begun_next : (at cs xs ys : List ℕ) (cell wanted place touches : ℕ) → Begun at cs xs → Passed cell wanted cs xs ys place touches
    → Begun (set at cell place) cs ys
begun_next at cs xs ys cell wanted place touches h p d = go (eqb d cell) refl
  where
    fallen : UsedUp d cs ys (get_or at d 0)
    fallen k l c =
        let z = h d k l c in
        let f = sizes_fall cell wanted cs xs k in
        let s = ap (λ (zs : List ℕ). get_or zs k 0) p.sizes in
        omega arith

    put : (b : Bool) → ltb cell (length at) ≡ b → UsedUp cell cs ys (get_or (set at cell place) cell 0)
    put true f =
        subst (UsedUp cell cs ys) (sym (get_or-set_same at cell place 0 (ltb-true cell (length at) f))) p.begun
    put false f =
        subst (UsedUp cell cs ys) (sym (ap (λ (l : List ℕ). get_or l cell 0) (set_out at cell place (ltb-false cell (length at) f))
        ∙ get_or-eq_default at 0 (ltb-false cell (length at) f)))
        (λ k l c. absurd (omega arith))

    go : (b : Bool) → eqb d cell ≡ b → UsedUp d cs ys (get_or (set at cell place) d 0)
    go true e = subst (λ (c : ℕ). UsedUp c cs ys (get_or (set at cell place) c 0)) (sym (eqb-true d cell e)) (put (ltb cell (length at)) refl)
    go false e = subst (UsedUp d cs ys) (sym (get_or-set_other at cell d place 0 (eqb-false d cell e))) fallen

-- a leg's promise, from its walk
pub leg_taken : (at cs xs ys : List ℕ) (cell own wanted place touches : ℕ) → cell ≡ own → Ready at cs xs → Passed cell wanted cs xs ys place touches
    → LegTaken own wanted cs xs ys (set at cell place) touches
leg_taken at cs xs ys cell own wanted place touches e r p =
    let few = touches_most cell wanted cs xs in
    record {
      sizes = p.sizes ∙ ap (λ (c : ℕ). sizes_in c wanted cs xs) e;
      touched = p.touched ∙ ap (λ (c : ℕ). touches_in c wanted cs xs) e;
      few = omega (arith, few, p.touched, r.pools);
      ready =
          record {
            places = length-set at cell place ∙ r.places;
            pools = r.pools;
            sizes = ap length p.sizes ∙ sizes_length cell wanted cs xs ∙ r.sizes;
            begun = begun_next at cs xs ys cell wanted place touches r.begun p;
          };
    }

-- the legs of a spread, one by one: one that the spread does not have wants nothing

module _ (f : Leg → Taker) (number : ℕ) (cs : List ℕ) where
  abbrev OneLeg : Bool → Leg → List ℕ → List ℕ → ℕ → Type 0
  OneLeg b x xs ys t =
      (ys ≡ sizes_in (cell_of (f x).market (f x).tier) (cond b (leg_takes number (f x)) 0) cs xs)
      × (t ≡ touches_in (cell_of (f x).market (f x).tier) (cond b (leg_takes number (f x)) 0) cs xs)

  absent : (x : Leg) (xs ys : List ℕ) (t : ℕ) → OneLeg false x xs ys t → (ys ≡ xs) × (t ≡ 0)
  absent x xs ys t h =
      let i = idle_none (cell_of (f x).market (f x).tier) cs xs in
      (h.0 ∙ i.sizes, h.1 ∙ i.touched)

  All : List Taker → List ℕ → List ℕ → ℕ → Type 0
  All ks xs ys t = (ys ≡ sizes_after ks number cs xs) × (t ≡ step_touches_in ks number cs xs)

  three_legs : (x y z : Leg) (legs : ℕ) (x₀ x₁ x₂ x₃ : List ℕ) (a b c : ℕ)
      → OneLeg (ltb 0 legs) x x₀ x₁ a → OneLeg (ltb 1 legs) y x₁ x₂ b → OneLeg (ltb 2 legs) z x₂ x₃ c
      → All (map f (take legs (x ∷ y ∷ z ∷ []))) x₀ x₃ (a + b + c)
  unfolding All
  three_legs x y z zero x₀ x₁ x₂ x₃ a b c h₁ h₂ h₃ =
      let l₁ = absent x x₀ x₁ a h₁ in
      let l₂ = absent y x₁ x₂ b h₂ in
      let l₃ = absent z x₂ x₃ c h₃ in
      (l₃.0 ∙ l₂.0 ∙ l₁.0, omega arith)
  three_legs x y z (suc zero) x₀ x₁ x₂ x₃ a b c h₁ h₂ h₃ =
      let l₂ = absent y x₁ x₂ b h₂ in
      let l₃ = absent z x₂ x₃ c h₃ in
      let t = h₁.1 in
      (l₃.0 ∙ l₂.0 ∙ h₁.0, omega arith)
  three_legs x y z (suc (suc zero)) x₀ x₁ x₂ x₃ a b c h₁ h₂ h₃ =
      let l₃ = absent z x₂ x₃ c h₃ in
      let t = h₁.1 in
      let u = h₂.1 ∙ ap (λ (l : List ℕ). touches_in (cell_of (f y).market (f y).tier) (leg_takes number (f y)) cs l) h₁.0 in
      (l₃.0 ∙ h₂.0 ∙ ap (sizes_in (cell_of (f y).market (f y).tier) (leg_takes number (f y)) cs) h₁.0, omega arith)
  three_legs x y z (suc (suc (suc n))) x₀ x₁ x₂ x₃ a b c h₁ h₂ h₃ =
      let there : (k : ℕ) → k < suc (suc (suc n)) → ltb k (suc (suc (suc n))) ≡ true = λ k l. lt-ltb k (suc (suc (suc n))) l in
      let g₁ = subst (λ (d : Bool). OneLeg d x x₀ x₁ a) (there 0 (omega arith)) h₁ in
      let g₂ = subst (λ (d : Bool). OneLeg d y x₁ x₂ b) (there 1 (omega arith)) h₂ in
      let g₃ = subst (λ (d : Bool). OneLeg d z x₂ x₃ c) (there 2 (omega arith)) h₃ in
      let second : List ℕ → List ℕ = λ l. sizes_in (cell_of (f y).market (f y).tier) (leg_takes number (f y)) cs l in
      let e₂ : x₂ ≡ second (sizes_in (cell_of (f x).market (f x).tier) (leg_takes number (f x)) cs x₀) = g₂.0 ∙ ap second g₁.0 in
      let t = g₁.1 in
      let u = g₂.1 ∙ ap (λ (l : List ℕ). touches_in (cell_of (f y).market (f y).tier) (leg_takes number (f y)) cs l) g₁.0 in
      let v = g₃.1 ∙ ap (λ (l : List ℕ). touches_in (cell_of (f z).market (f z).tier) (leg_takes number (f z)) cs l) e₂ in
      subst (λ (l : List Leg). All (map f (x ∷ y ∷ z ∷ l)) x₀ x₃ (a + b + c)) (sym (take-nil n))
      (g₃.0 ∙ ap (sizes_in (cell_of (f z).market (f z).tier) (leg_takes number (f z)) cs) e₂, omega (arith, t, u, v))

-- a step that forms nothing

idle_sizes : (ks : List Taker) (cs xs : List ℕ) → sizes_after ks 0 cs xs ≡ xs
idle_sizes [] cs xs = refl
idle_sizes (k ∷ ks) cs xs =
    let cell = cell_of k.market k.tier in
    ap (λ (w : ℕ). sizes_after ks 0 cs (sizes_in cell w cs xs)) (use_none k.tenths k.ratio)
    ∙ ap (sizes_after ks 0 cs) (idle_none cell cs xs).sizes
    ∙ idle_sizes ks cs xs

idle_touches : (ks : List Taker) (cs xs : List ℕ) → step_touches_in ks 0 cs xs ≡ 0
idle_touches [] cs xs = refl
idle_touches (k ∷ ks) cs xs =
    let cell = cell_of k.market k.tier in
    ap (λ (w : ℕ). touches_in cell w cs xs + step_touches_in ks 0 cs (sizes_in cell w cs xs)) (use_none k.tenths k.ratio)
    ∙ ap₂ (λ (a : ℕ) (l : List ℕ). a + step_touches_in ks 0 cs l) (idle_none cell cs xs).touched (idle_none cell cs xs).sizes
    ∙ zero-add (step_touches_in ks 0 cs xs)
    ∙ idle_touches ks cs xs

pub step_idle : (ks : List Taker) (number : ℕ) (cs xs at : List ℕ) → number ≡ 0 → Ready at cs xs → StepTaken ks number cs xs xs at 0
step_idle ks number cs xs at e ready =
    record {
      sizes = sym (ap (λ (n : ℕ). sizes_after ks n cs xs) e ∙ idle_sizes ks cs xs);
      touched = sym (ap (λ (n : ℕ). step_touches_in ks n cs xs) e ∙ idle_touches ks cs xs);
      few = omega arith;
      ready = ready;
    }

-- a step's promise, from its legs
pub step_taken : (second : Bool) (s : Spread) (x y z : Leg) → s.leg ≡ x ∷ y ∷ z ∷ [] → (number : ℕ) (cs x₀ x₁ x₂ x₃ a₁ a₂ a₃ : List ℕ) (t₁ t₂ t₃ w₁ w₂ w₃ : ℕ)
    → w₁ ≡ cond (ltb 0 s.legs) (use_of s.tenths number x.ratio) 0
    → w₂ ≡ cond (ltb 1 s.legs) (use_of s.tenths number y.ratio) 0
    → w₃ ≡ cond (ltb 2 s.legs) (use_of s.tenths number z.ratio) 0
    → LegTaken (cell_of (market_in second x.side) x.tier) w₁ cs x₀ x₁ a₁ t₁
    → LegTaken (cell_of (market_in second y.side) y.tier) w₂ cs x₁ x₂ a₂ t₂
    → LegTaken (cell_of (market_in second z.side) z.tier) w₃ cs x₂ x₃ a₃ t₃
    → StepTaken (step_of second s) number cs x₀ x₃ a₃ (t₁ + t₂ + t₃)
unfolding All
step_taken second s x y z legs number cs x₀ x₁ x₂ x₃ a₁ a₂ a₃ t₁ t₂ t₃ w₁ w₂ w₃ e₁ e₂ e₃ l₁ l₂ l₃ =
    let f = taker s.tenths (market_in second) in
    let all =
    three_legs f number cs x y z s.legs x₀ x₁ x₂ x₃ t₁ t₂ t₃ (
      l₁.sizes ∙ ap (λ (w : ℕ). sizes_in (cell_of (market_in second x.side) x.tier) w cs x₀) e₁,
      l₁.touched
          ∙ ap (λ (w : ℕ). touches_in (cell_of (market_in second x.side) x.tier) w cs x₀) e₁,
    ) (
      l₂.sizes ∙ ap (λ (w : ℕ). sizes_in (cell_of (market_in second y.side) y.tier) w cs x₁) e₂,
      l₂.touched
          ∙ ap (λ (w : ℕ). touches_in (cell_of (market_in second y.side) y.tier) w cs x₁) e₂,
    ) (
      l₃.sizes ∙ ap (λ (w : ℕ). sizes_in (cell_of (market_in second z.side) z.tier) w cs x₂) e₃,
      l₃.touched
          ∙ ap (λ (w : ℕ). touches_in (cell_of (market_in second z.side) z.tier) w cs x₂) e₃,
    )
    in
    record {
      sizes = all.0 ∙ sym (ap (λ (l : List Leg). sizes_after (map f (take s.legs l)) number cs x₀) legs);
      touched = all.1 ∙ sym (ap (λ (l : List Leg). step_touches_in (map f (take s.legs l)) number cs x₀) legs);
      few = omega (arith, l₁.few, l₂.few, l₃.few);
      ready = l₃.ready;
    }

-- ---- the lists are the prompts

-- a leg draws on a prompt's cell exactly if it is its own
draws_cell : (k : Taker) (m : Market) (t c : ℕ) → c < pool_count → c ≡ cell_of m t → draws m t k ≡ eqb c (cell_of k.market k.tier)
draws_cell k m t c l e = go (ltb k.tier tier_count) refl
  where
    none : (b : Bool) → draws m t k ≡ b → tier_count ≤ k.tier → b ≡ false
    none true f g =
        let o = out_of_range m t (subst (λ (u : ℕ). tier_count ≤ u) (sym (draws-tier m t k f)) g) in
        absurd (omega arith)
    none false f g = refl

    go : (b : Bool) → ltb k.tier tier_count ≡ b → draws m t k ≡ eqb c (cell_of k.market k.tier)
    go true f = sym (ap (λ (d : ℕ). eqb d (cell_of k.market k.tier)) e ∙ same_cells m k.market t k.tier (ltb-true k.tier tier_count f))
    go false f =
        none (draws m t k) refl (ltb-false k.tier tier_count f)
        ∙ sym (ne_eqb c (cell_of k.market k.tier) (λ d. let o = out_of_range k.market k.tier (ltb-false k.tier tier_count f) in omega arith))

module _ (k : Taker) where
  gives_same : (w : ℕ) (p : Open) (c x : ℕ) → SameAs p c x → gives k w p ≡ gives_in (cell_of k.market k.tier) w c x
  gives_same w p c x h = ap (min w) (h k.market k.tier)

  less_same : (w : ℕ) (p : Open) (c x : ℕ) → c < pool_count → SameAs p c x
      → SameAs (less p (gives k w p)) c (x - gives_in (cell_of k.market k.tier) w c x)
  less_same w p c x l h m t =
      ap (λ (z : ℤ). in_tier m t (record { tier = p.tier; unused = z })) (wants w k.market p.unused (eqb p.tier k.tier))
      ∙ tier-less (λ m t. cond (draws m t k) w 0) m t p
      ∙ ap (λ (i : ℕ). i - cond (draws m t k) w 0) (h m t)
      ∙ go (eqb c (cell_of m t)) refl
    where
      same : (b : Bool) → x - cond b w 0 ≡ x - min w (cond b x 0)
      same true = omega arith
      same false = omega arith

      go : (b : Bool) → eqb c (cell_of m t) ≡ b
          → cond b x 0 - cond (draws m t k) w 0 ≡ cond b (x - gives_in (cell_of k.market k.tier) w c x) 0
      go true e =
          ap (λ (d : Bool). x - cond d w 0) (draws_cell k m t c l (eqb-true c (cell_of m t) e))
          ∙ same (eqb c (cell_of k.market k.tier))
      go false e = zero-sub (cond (draws m t k) w 0)

-- a leg, and what it leaves of the prompts
leg_same : (k : Taker) (w : ℕ) (ps : List Open) (cs xs : List ℕ) → Laid ps cs xs
    → (leg_touches k w ps ≡ touches_in (cell_of k.market k.tier) w cs xs) × Laid (take_from k w ps) cs (sizes_in (cell_of k.market k.tier) w cs xs)
leg_same k w [] cs xs h =
    let i = idle_used (cell_of k.market k.tier) w (length cs) cs xs (omega arith) (λ j l e. h j) in
    (sym i.touched, λ j. ap (λ (l : List ℕ). get_or l j 0) i.sizes ∙ h j)
leg_same k w (p ∷ ps) [] xs h = absurd h
leg_same k w (p ∷ ps) (c ∷ cs) [] h = absurd h
leg_same k w (p ∷ ps) (c ∷ cs) (x ∷ xs) h =
    let g = gives_same k w p c x h.1 in
    let r = leg_same k (w - gives k w p) ps cs xs h.2 in (
      ap₂ ◌+◌ (ap (λ (n : ℕ). one_if (ltb 0 n)) g) (r.0 ∙ ap (λ (n : ℕ). touches_in (cell_of k.market k.tier) (w - n) cs xs) g),
      (
        h.0,
        less_same k w p c x h.0 h.1,
        subst (λ (n : ℕ). Laid (take_from k (w - gives k w p) ps) cs (sizes_in (cell_of k.market k.tier) (w - n) cs xs)) g r.1,
      ),
    )

pub step_same : (ks : List Taker) (n : ℕ) (ps : List Open) (cs xs : List ℕ) → Laid ps cs xs
    → (step_touches ks n ps ≡ step_touches_in ks n cs xs) × Laid (after ks n ps) cs (sizes_after ks n cs xs)
step_same [] n ps cs xs h = (refl, h)
step_same (k ∷ ks) n ps cs xs h =
    let a = leg_same k (leg_takes n k) ps cs xs h in
    let b = step_same ks n (take_from k (leg_takes n k) ps) cs (sizes_in (cell_of k.market k.tier) (leg_takes n k) cs xs) a.1 in
    (ap₂ ◌+◌ a.0 b.0, b.1)

-- prompt by prompt
pub laid_each : (ps : List Open) (cs xs : List ℕ) → length ps ≤ length cs → length ps ≤ length xs
    → ((k : ℕ) → k < length ps → (get_or cs k 0 < pool_count) × SameAs (get_or ps k nothing) (get_or cs k 0) (get_or xs k 0))
    → ((k : ℕ) → length ps ≤ k → get_or xs k 0 ≡ 0)
    → Laid ps cs xs
laid_each [] cs xs l g h z = λ k. z k (omega arith)
laid_each (p ∷ ps) [] xs l g h z = absurd (omega arith)
laid_each (p ∷ ps) (c ∷ cs) [] l g h z = absurd (omega arith)
laid_each (p ∷ ps) (c ∷ cs) (x ∷ xs) l g h z =
    let here = h 0 (omega arith) in
    (here.0, here.1, laid_each ps cs xs (omega arith) (omega arith) (λ k b. h (suc k) (omega arith)) (λ k b. z (suc k) (omega arith)))
