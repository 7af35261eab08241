-- Nothing that the steps of a table without tenths leave open could have been paired: what a step still formed could be added to its
-- number, and the list would be one of demand 3's and larger than ours.
-- Assumes nothing.
use Prim.Native.Nat.{ℕ, zero, suc, ◌+◌, ◌-◌, ◌*◌, ◌≤◌, ◌<◌}
use native.Mathlib.Nat.{add-mul, zero-mul}
use native.Mathlib.Omega.{arith}
use mathlib.Core.Bool.{Bool, true, false, cond, not, ◌&&◌, ◌||◌, false≢true}
use mathlib.Core.List.{List, [], ◌∷◌}
use mathlib.Core.Path.{◌≡◌, refl, sym, ap, ap₂, ◌∙◌}
use lib.ListN.{length, get_or, replicate}
use Rattle.exact.specs.Lists.{any}
use Rattle.spread.specs.Again.{NothingToPair}
use Rattle.spread.specs.Demand.{TotalWithin, FirstAmong, draws, leg_use, step_use, total_use, whole_step, whole_steps, sound_step, sound_steps}
use Rattle.spread.specs.Steps.{Market, Open, Taker, pool, use_of, formed, after, numbers, left}
use Rattle.spread.proofs.Both.{and_left, and_right}
use Rattle.spread.proofs.Demand3.{demand3}
use Rattle.spread.proofs.Spending.{spend-none, after-spend, left_spend, pool-spend}

-- ---- uses add up

-- a leg with a whole ratio uses its number times the ratio
whole_use : (m : Market) (t x : ℕ) (k : Taker) → k.tenths ≡ false → leg_use m t x k ≡ cond (draws m t k) (x * k.ratio) 0
whole_use m t x k e = ap (λ (b : Bool). cond (draws m t k) (use_of b x k.ratio) 0) e

-- the first leg of a step without tenths, and the others
whole_first : (k : Taker) (ks : List Taker) → whole_step (k ∷ ks) ≡ true → (k.tenths ≡ false) × (whole_step ks ≡ true)
whole_first k ks = go k.tenths
  where
    go : (b : Bool) → not (b || any (λ x. x.tenths) ks) ≡ true → (b ≡ false) × (whole_step ks ≡ true)
    go true e = absurd (false≢true e)
    go false e = (refl, e)

leg_adds : (m : Market) (t x y : ℕ) (k : Taker) → k.tenths ≡ false → leg_use m t (x + y) k ≡ leg_use m t x k + leg_use m t y k
leg_adds m t x y k e = whole_use m t (x + y) k e ∙ go (draws m t k) ∙ ap₂ ◌+◌ (sym (whole_use m t x k e)) (sym (whole_use m t y k e))
  where
    go : (b : Bool) → cond b ((x + y) * k.ratio) 0 ≡ cond b (x * k.ratio) 0 + cond b (y * k.ratio) 0
    go true = add-mul x y k.ratio
    go false = refl

step_adds : (m : Market) (t : ℕ) (ks : List Taker) (x y : ℕ) → whole_step ks ≡ true → step_use m t ks (x + y) ≡ step_use m t ks x + step_use m t ks y
step_adds m t [] x y e = refl
step_adds m t (k ∷ ks) x y e =
    let w = whole_first k ks e in
    let a = leg_adds m t x y k w.0 in
    let r = step_adds m t ks x y w.1 in
    omega (arith, a, r)

step_none : (m : Market) (t : ℕ) (ks : List Taker) → whole_step ks ≡ true → step_use m t ks 0 ≡ 0
step_none m t [] e = refl
step_none m t (k ∷ ks) e =
    let w = whole_first k ks e in
    ap (λ (n : ℕ). n + step_use m t ks 0) (whole_use m t 0 k w.0) ∙ go (draws m t k) (step_none m t ks w.1)
  where
    go : (b : Bool) → step_use m t ks 0 ≡ 0 → cond b (0 * k.ratio) 0 + step_use m t ks 0 ≡ 0
    go true h = omega (arith, h, zero-mul k.ratio)
    go false h = omega (arith, h)

-- ---- a list with more at one step

more : List ℕ → ℕ → ℕ → List ℕ
more [] j y = []
more (x ∷ xs) zero y = (x + y) ∷ xs
more (x ∷ xs) (suc j) y = x ∷ more xs j y

more_length : (xs : List ℕ) (j y : ℕ) → length (more xs j y) ≡ length xs
unfolding more
more_length [] j y = refl
more_length (x ∷ xs) zero y = refl
more_length (x ∷ xs) (suc j) y = ap suc (more_length xs j y)

more_before : (xs : List ℕ) (j y i : ℕ) → i < j → get_or xs i 0 ≡ get_or (more xs j y) i 0
unfolding more
more_before [] j y i h = refl
more_before (x ∷ xs) zero y i h = absurd (omega arith)
more_before (x ∷ xs) (suc j) y zero h = refl
more_before (x ∷ xs) (suc j) y (suc i) h = more_before xs j y i (omega arith)

more_here : (xs : List ℕ) (j y : ℕ) → j < length xs → get_or (more xs j y) j 0 ≡ get_or xs j 0 + y
unfolding more
more_here [] j y h = absurd (omega arith)
more_here (x ∷ xs) zero y h = refl
more_here (x ∷ xs) (suc j) y h = more_here xs j y (omega arith)

more_use : (m : Market) (t : ℕ) (ss : List (List Taker)) (xs : List ℕ) (j y : ℕ) → whole_steps ss ≡ true → length xs ≡ length ss → j < length ss
    → total_use m t ss (more xs j y) ≡ total_use m t ss xs + step_use m t (get_or ss j []) y
unfolding more
more_use m t [] xs j y e l h = absurd (omega arith)
more_use m t (s ∷ ss) [] j y e l h = absurd (omega arith)
more_use m t (s ∷ ss) (x ∷ xs) zero y e l h = omega (arith, step_adds m t s x y (and_left (whole_step s) (whole_steps ss) e))
more_use m t (s ∷ ss) (x ∷ xs) (suc j) y e l h = omega (arith, more_use m t ss xs j y (and_right (whole_step s) (whole_steps ss) e) (omega arith) (omega arith))

-- ---- what is left

sound_at_lem : (ss : List (List Taker)) (j : ℕ) → sound_steps ss ≡ true → j < length ss → sound_step (get_or ss j []) ≡ true
sound_at_lem [] j e h = absurd (omega arith)
sound_at_lem (s ∷ ss) zero e h = and_left (sound_step s) (sound_steps ss) e
sound_at_lem (s ∷ ss) (suc j) e h = sound_at_lem ss j (and_right (sound_step s) (sound_steps ss) e) (omega arith)

whole_at : (ss : List (List Taker)) (j : ℕ) → whole_steps ss ≡ true → j < length ss → whole_step (get_or ss j []) ≡ true
whole_at [] j e h = absurd (omega arith)
whole_at (s ∷ ss) zero e h = and_left (whole_step s) (whole_steps ss) e
whole_at (s ∷ ss) (suc j) e h = whole_at ss j (and_right (whole_step s) (whole_steps ss) e) (omega arith)

-- demand 3 in its first words
first_words_lem : (ss : List (List Taker)) (ps : List Open) → sound_steps ss ≡ true → whole_steps ss ≡ true → FirstAmong (TotalWithin ss ps) (numbers ss ps)
first_words_lem ss ps sound whole = ((demand3 ss ps sound).first_words whole).first

module _ (ss : List (List Taker)) (ps : List Open) (sound : sound_steps ss ≡ true) (whole : whole_steps ss ≡ true) where
  abbrev ours : List ℕ
  ours = numbers ss ps

  -- what a step forms from what is left fits beside what all steps used
  fits : (j : ℕ) → j < length ss → (m : Market) (t : ℕ)
      → total_use m t ss ours + step_use m t (get_or ss j []) (formed (get_or ss j []) (left ss ps)) ≤ pool m t ps
  fits j h m t =
      let s = get_or ss j [] in
      let q = left ss ps in
      let alone : sound_steps (s ∷ []) ≡ true = ap (λ (b : Bool). b && true) (sound_at_lem ss j sound h) in
      let plain : whole_steps (s ∷ []) ≡ true = ap (λ (b : Bool). b && true) (whole_at ss j whole h) in
      let within = (first_words_lem (s ∷ []) q alone plain).is_one.within m t in
      let rest : pool m t q ≡ pool m t ps - total_use m t ss ours = ap (pool m t) (left_spend ss ps) ∙ pool-spend (λ n u. total_use n u ss ours) m t ps in
      let all = (first_words_lem ss ps sound whole).is_one.within m t in
      omega (arith, within, rest, all)

  nothing : (j : ℕ) → j < length ss → formed (get_or ss j []) (left ss ps) ≡ 0
  nothing j h = go (formed (get_or ss j []) (left ss ps)) refl
    where
      feasible : TotalWithin ss ps (more ours j (formed (get_or ss j []) (left ss ps)))
      feasible =
          let one = (first_words_lem ss ps sound whole).is_one.one_per_step in
          record {
            one_per_step = more_length ours j (formed (get_or ss j []) (left ss ps)) ∙ one;
            within =
                λ m t. omega (arith, more_use m t ss ours j (formed (get_or ss j []) (left ss ps)) whole one h, fits j h m t);
          }

      go : (y : ℕ) → formed (get_or ss j []) (left ss ps) ≡ y → formed (get_or ss j []) (left ss ps) ≡ 0
      go zero e = e
      go (suc y) e =
          let one = (first_words_lem ss ps sound whole).is_one.one_per_step in
          let here = more_here ours j (formed (get_or ss j []) (left ss ps)) (omega (arith, one, h)) in
          let less =
          (first_words_lem ss ps sound whole).larger (more ours j (formed (get_or ss j []) (left ss ps))) j feasible
          (record { before = more_before ours j (formed (get_or ss j []) (left ss ps)); here = λ z. omega (arith, z, here, e) })
          in
          absurd (omega (arith, less, here))

-- ---- a table that forms nothing leaves everything

unmoved : (s : List Taker) (ps : List Open) → whole_step s ≡ true → after s 0 ps ≡ ps
unmoved s ps e = after-spend s 0 ps ∙ spend-none (λ m t. step_use m t s 0) (λ m t. step_none m t s e) ps

idle : (ss : List (List Taker)) (ps : List Open) → whole_steps ss ≡ true → ((j : ℕ) → j < length ss → formed (get_or ss j []) ps ≡ 0)
    → (numbers ss ps ≡ replicate (length ss) 0) × (left ss ps ≡ ps)
idle [] ps e h = (refl, refl)
idle (s ∷ ss) ps e h =
    let none = h 0 (omega arith) in
    let same : after s (formed s ps) ps ≡ ps = ap (λ (x : ℕ). after s x ps) none ∙ unmoved s ps (and_left (whole_step s) (whole_steps ss) e) in
    let rest = idle ss ps (and_right (whole_step s) (whole_steps ss) e) (λ j l. h (suc j) (omega arith)) in
    (ap₂ ◌∷◌ none (ap (numbers ss) same ∙ rest.0), ap (left ss) same ∙ rest.1)

pub nothing_to_pair : (ss : List (List Taker)) (ps : List Open) → sound_steps ss ≡ true → whole_steps ss ≡ true → NothingToPair ss ps
nothing_to_pair ss ps sound whole =
    let each = nothing ss ps sound whole in
    let both = idle ss (left ss ps) whole each in
    record { each = each; again = both.0; stays = both.1 }
