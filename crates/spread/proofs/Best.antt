-- Among all feasible lists of numbers ours is the first: feasible said step by step, each step forming the most that fits.
-- Of a number's room and use three laws alone are used: what is within the room fits the pool, what fits is within the room, and
-- rounding takes what fits no further than the pool.
-- Assumes nothing.
use Prim.Native.Nat.{ℕ, zero, suc, ◌+◌, ◌-◌, ◌*◌, ◌≤◌, ◌<◌, min}
use native.Mathlib.Decide.{ℕ_discrete}
use native.Mathlib.Nat.{le-div_iff_mul-le, not-suc-le-zero}
use native.Mathlib.Omega.{arith}
use mathlib.Core.Bool.{Bool, true, false, cond, not, ◌&&◌, ◌||◌, false≢true}
use mathlib.Core.List.{List, [], ◌∷◌}
use mathlib.Core.Logic.{◌⊎◌, inl, inr}
use mathlib.Core.Path.{◌≡◌, refl, sym, ap, ap₂, subst}
use lib.Dec.{ltb}
use lib.ListN.{length, get_or, take}
use borrow.Author.Tests.{eq-eqb, ltb-true, not-true}
use Rattle.exact.specs.Lists.{any}
use Rattle.spread.specs.Demand.{same_market, draws, step_use, total_use, unrounded, leg_unrounded, step_unrounded, FirstDifference, whole_step, whole_steps}
use Rattle.spread.specs.Demand.{sound_legs, sound_step, sound_steps}
use Rattle.spread.specs.Steps.{Market, long, short, Open, Taker, pool, room, room_for, use_of, leg_takes, formed, after, numbers}
use Rattle.spread.proofs.Both.{and_left, and_right}
use Rattle.spread.proofs.Spending.{draws_market, draws-tier, pool-after}

-- A number fits a pool at a ratio: its unrounded use is within the pool. The laws of room and use say that the room is the most
-- that fits, and that what fits stays within the pool when it is rounded; nothing below looks further into either.

abbrev pub Fits : Bool → ℕ → ℕ → ℕ → Type 0
Fits tenths x p ratio = unrounded tenths x ratio ≤ 10 * p

room_fits : (tenths : Bool) (x p ratio : ℕ) → 0 < ratio → x ≤ room tenths p ratio → Fits tenths x p ratio
room_fits false x p ratio h le = let f = (le-div_iff_mul-le h).0 le in omega arith
room_fits true x p ratio h le = (le-div_iff_mul-le h).0 le

fits_room : (tenths : Bool) (x p ratio : ℕ) → 0 < ratio → Fits tenths x p ratio → x ≤ room tenths p ratio
fits_room false x p ratio h le = (le-div_iff_mul-le h).1 (omega arith)
fits_room true x p ratio h le = (le-div_iff_mul-le h).1 le

-- a pool is in whole ten-thousandths, so that halves up reach it at most
rounded_fits : (tenths : Bool) (x p ratio : ℕ) → Fits tenths x p ratio → use_of tenths x ratio ≤ p
rounded_fits false x p ratio le = omega arith
rounded_fits true x p ratio le = omega arith

-- Feasible, step by step: each leg's unrounded use is within what is left of its pool.

abbrev pub Within : List Taker → ℕ → List Open → Type 0
Within [] x ps = Unit {0}
Within (k ∷ ks) x ps = Fits k.tenths x (pool k.market k.tier ps) k.ratio × Within ks x ps

abbrev pub Stepwise : List (List Taker) → List ℕ → List Open → Type 0
Stepwise [] [] ps = Unit {0}
Stepwise [] (x ∷ xs) ps = ⊥
Stepwise (s ∷ ss) [] ps = ⊥
Stepwise (s ∷ ss) (x ∷ xs) ps = Within s x ps × Stepwise ss xs (after s x ps)

-- what a sound step says of its legs

ratio_above : (k : Taker) (ks : List Taker) → sound_legs (k ∷ ks) ≡ true → 0 < k.ratio
ratio_above k ks e = ltb-true 0 k.ratio (and_left (ltb 0 k.ratio) (not (any (draws k.market k.tier) ks) && sound_legs ks) e)

pub alone : (k : Taker) (ks : List Taker) → sound_legs (k ∷ ks) ≡ true → any (draws k.market k.tier) ks ≡ false
alone k ks e =
    not-true (any (draws k.market k.tier) ks)
    (and_left (not (any (draws k.market k.tier) ks)) (sound_legs ks)
    (and_right (ltb 0 k.ratio) (not (any (draws k.market k.tier) ks) && sound_legs ks) e))

pub others : (k : Taker) (ks : List Taker) → sound_legs (k ∷ ks) ≡ true → sound_legs ks ≡ true
others k ks e =
    and_right (not (any (draws k.market k.tier) ks)) (sound_legs ks)
    (and_right (ltb 0 k.ratio) (not (any (draws k.market k.tier) ks) && sound_legs ks) e)

-- the number formed fits, and is the most that does

formed_fits : (x : ℕ) (ks : List Taker) (ps : List Open) → sound_legs ks ≡ true → x ≤ formed ks ps → Within ks x ps
formed_fits x [] ps e h = tt
formed_fits x (k ∷ []) ps e h = (room_fits k.tenths x (pool k.market k.tier ps) k.ratio (ratio_above k [] e) h, tt)
formed_fits x (k ∷ l ∷ ks) ps e h = (
  room_fits k.tenths x (pool k.market k.tier ps) k.ratio (ratio_above k (l ∷ ks) e) (first x (room_for ps k) (formed (l ∷ ks) ps) h),
  formed_fits x (l ∷ ks) ps (others k (l ∷ ks) e) (second x (room_for ps k) (formed (l ∷ ks) ps) h),
)
  where
    first : (x a b : ℕ) → x ≤ min a b → x ≤ a
    first x a b h = omega arith

    second : (x a b : ℕ) → x ≤ min a b → x ≤ b
    second x a b h = omega arith

formed_most : (x : ℕ) (ks : List Taker) (ps : List Open) → sound_step ks ≡ true → Within ks x ps → x ≤ formed ks ps
formed_most x [] ps e w = absurd (false≢true e)
formed_most x (k ∷ []) ps e w = fits_room k.tenths x (pool k.market k.tier ps) k.ratio (ratio_above k [] e) w.0
formed_most x (k ∷ l ∷ ks) ps e w =
    both x (room_for ps k) (formed (l ∷ ks) ps)
    (fits_room k.tenths x (pool k.market k.tier ps) k.ratio (ratio_above k (l ∷ ks) e) w.0)
    (formed_most x (l ∷ ks) ps (others k (l ∷ ks) e) w.1)
  where
    both : (x a b : ℕ) → x ≤ a → x ≤ b → x ≤ min a b
    both x a b h g = omega arith

pub sound_legs_lem : (ks : List Taker) → sound_step ks ≡ true → sound_legs ks ≡ true
sound_legs_lem [] e = refl
sound_legs_lem (k ∷ ks) e = e

-- ours, step by step

pub ours_stepwise : (ss : List (List Taker)) (ps : List Open) → sound_steps ss ≡ true → Stepwise ss (numbers ss ps) ps
ours_stepwise [] ps e = tt
ours_stepwise (s ∷ ss) ps e = (
  formed_fits (formed s ps) s ps (sound_legs_lem s (and_left (sound_step s) (sound_steps ss) e)) (omega arith),
  ours_stepwise ss (after s (formed s ps) ps) (and_right (sound_step s) (sound_steps ss) e),
)

less_than : (x y : ℕ) → y ≤ x → (x ≡ y → ⊥) → y < x
less_than x y h d = omega arith

pub ours_larger : (ss : List (List Taker)) (ps : List Open) (ys : List ℕ) (k : ℕ) → sound_steps ss ≡ true → Stepwise ss ys ps
    → FirstDifference (numbers ss ps) ys k → get_or ys k 0 < get_or (numbers ss ps) k 0
ours_larger [] ps [] k e w d = absurd (d.here refl)
ours_larger [] ps (y ∷ ys) k e w d = absurd w
ours_larger (s ∷ ss) ps [] k e w d = absurd w
ours_larger (s ∷ ss) ps (y ∷ ys) zero e w d = less_than (formed s ps) y (formed_most y s ps (and_left (sound_step s) (sound_steps ss) e) w.0) d.here
ours_larger (s ∷ ss) ps (y ∷ ys) (suc k) e w d =
    ours_larger ss (after s (formed s ps) ps) ys k (and_right (sound_step s) (sound_steps ss) e)
    (subst (λ (x : ℕ). Stepwise ss ys (after s x ps)) (sym (d.before 0 (omega arith))) w.1)
    (record { before = λ j h. d.before (suc j) (omega arith); here = d.here })

-- What one step uses of a pool: before rounding within ten times the pool, rounded within the pool.

module _ (m : Market) (t x : ℕ) where
  pub none_drawn : (ks : List Taker) → any (draws m t) ks ≡ false → (step_use m t ks x ≡ 0) × (step_unrounded m t ks x ≡ 0)
  none_drawn [] e = (refl, refl)
  none_drawn (k ∷ ks) e = go (draws m t k) (none_drawn ks) e
    where
      go : (b : Bool) → (any (draws m t) ks ≡ false → (step_use m t ks x ≡ 0) × (step_unrounded m t ks x ≡ 0)) → b || any (draws m t) ks ≡ false
          → (cond b (leg_takes x k) 0 + step_use m t ks x ≡ 0) × (cond b (unrounded k.tenths x k.ratio) 0 + step_unrounded m t ks x ≡ 0)
      go true rest f = absurd (false≢true (sym f))
      go false rest f = let z = rest f in (omega arith, omega arith)

step_within : (m : Market) (t x : ℕ) (ks : List Taker) (ps : List Open) → sound_legs ks ≡ true → Within ks x ps
    → (step_use m t ks x ≤ pool m t ps) × (step_unrounded m t ks x ≤ 10 * pool m t ps)
step_within m t x [] ps e w = (omega arith, omega arith)
step_within m t x (k ∷ ks) ps e w = go (draws m t k) refl (step_within m t x ks ps (others k ks e) w.1)
  where
    go : (b : Bool) → draws m t k ≡ b → (step_use m t ks x ≤ pool m t ps) × (step_unrounded m t ks x ≤ 10 * pool m t ps)
        → (cond b (leg_takes x k) 0 + step_use m t ks x ≤ pool m t ps)
        × (cond b (unrounded k.tenths x k.ratio) 0 + step_unrounded m t ks x ≤ 10 * pool m t ps)
    go true d rest =
        rw (draws_market m t k d, draws-tier m t k d)
        (let z = none_drawn k.market k.tier x ks (alone k ks e) in
        let h = w.0 in
        let r = rounded_fits k.tenths x (pool k.market k.tier ps) k.ratio w.0 in (omega arith, omega arith))
    go false d rest = (omega arith, omega arith)

-- Step by step and by demand 3's words: the same lists.

pub stepwise_total : (m : Market) (t : ℕ) (ss : List (List Taker)) (xs : List ℕ) (ps : List Open) → sound_steps ss ≡ true → Stepwise ss xs ps
    → total_use m t ss xs ≤ pool m t ps
stepwise_total m t [] xs ps e w = omega arith
stepwise_total m t (s ∷ ss) [] ps e w = absurd w
stepwise_total m t (s ∷ ss) (x ∷ xs) ps e w =
    both (pool m t ps) (step_within m t x s ps (sound_legs_lem s (and_left (sound_step s) (sound_steps ss) e)) w.0).0
    (pool-after m t s x ps) (stepwise_total m t ss xs (after s x ps) (and_right (sound_step s) (sound_steps ss) e) w.1)
  where
    both : (p : ℕ) {a b q : ℕ} → a ≤ p → q ≡ p - a → b ≤ q → a + b ≤ p
    both p h e g = omega arith

pub stepwise_within : (m : Market) (t : ℕ) (ss : List (List Taker)) (xs : List ℕ) (ps : List Open) (j : ℕ) → sound_steps ss ≡ true → Stepwise ss xs ps
    → j < length ss → step_unrounded m t (get_or ss j []) (get_or xs j 0) + 10 * total_use m t (take j ss) xs ≤ 10 * pool m t ps
stepwise_within m t [] xs ps j e w h = absurd (omega arith)
stepwise_within m t (s ∷ ss) [] ps j e w h = absurd w
stepwise_within m t (s ∷ ss) (x ∷ xs) ps zero e w h =
    let b = (step_within m t x s ps (sound_legs_lem s (and_left (sound_step s) (sound_steps ss) e)) w.0).1 in omega arith
stepwise_within m t (s ∷ ss) (x ∷ xs) ps (suc j) e w h =
    both (pool m t ps) (step_unrounded m t (get_or ss j []) (get_or xs j 0)) (total_use m t (take j ss) xs)
    (step_within m t x s ps (sound_legs_lem s (and_left (sound_step s) (sound_steps ss) e)) w.0).0
    (pool-after m t s x ps) (stepwise_within m t ss xs (after s x ps) j (and_right (sound_step s) (sound_steps ss) e) w.1 (omega arith))
  where
    both : (p u b : ℕ) {a q : ℕ} → a ≤ p → q ≡ p - a → u + 10 * b ≤ 10 * q → u + 10 * (a + b) ≤ 10 * p
    both p u b h e g = omega arith

market_itself : (m : Market) → same_market m m ≡ true
market_itself long = refl
market_itself short = refl

draws_itself : (k : Taker) → draws k.market k.tier k ≡ true
draws_itself k = rw (market_itself k.market) (eq-eqb k.tier k.tier refl)

first_part : (b : ℕ) {a p : ℕ} → a + b ≤ p → a ≤ p
first_part b h = omega arith

second_part_lem : (a : ℕ) {b p : ℕ} → a + b ≤ p → b ≤ p
second_part_lem a h = omega arith

legs_within : (x : ℕ) (ks : List Taker) (ps : List Open) → ((m : Market) (t : ℕ) → step_unrounded m t ks x ≤ 10 * pool m t ps) → Within ks x ps
legs_within x [] ps h = tt
legs_within x (k ∷ ks) ps h = (own, legs_within x ks ps (λ m t. second_part_lem (leg_unrounded m t x k) (h m t)))
  where
    own : Fits k.tenths x (pool k.market k.tier ps) k.ratio
    own = first_part (step_unrounded k.market k.tier ks x) (rw (draws_itself k) at (h k.market k.tier))

pub within_stepwise : (ss : List (List Taker)) (xs : List ℕ) (ps : List Open) → length xs ≡ length ss
    → ((m : Market) (t j : ℕ) → j < length ss → step_unrounded m t (get_or ss j []) (get_or xs j 0) + 10 * total_use m t (take j ss) xs ≤ 10 * pool m t ps)
    → Stepwise ss xs ps
within_stepwise [] [] ps l h = tt
within_stepwise [] (x ∷ xs) ps l h = omega arith
within_stepwise (s ∷ ss) [] ps l h = omega arith
within_stepwise (s ∷ ss) (x ∷ xs) ps l h = (
  legs_within x s ps (λ m t. first_part 0 (h m t 0 (omega arith))),
  within_stepwise ss xs (after s x ps) (omega arith)
      (λ m t j g. rest (pool m t ps) (step_use m t s x) (total_use m t (take j ss) xs) (step_unrounded m t (get_or ss j []) (get_or xs j 0))
      (pool-after m t s x ps) (h m t (suc j) (omega arith))),
)
  where
    rest : (p a b u : ℕ) {q : ℕ} → q ≡ p - a → u + 10 * (a + b) ≤ 10 * p → u + 10 * b ≤ 10 * q
    rest p a b u e h = omega arith

-- The first words: of whole ratios a step's unrounded use is ten times its use.

whole_step_lem : (m : Market) (t x : ℕ) (ks : List Taker) → whole_step ks ≡ true → step_unrounded m t ks x ≡ 10 * step_use m t ks x
whole_step_lem m t x [] e = refl
whole_step_lem m t x (k ∷ ks) e = go k.tenths (whole_step_lem m t x ks) (not-true (k.tenths || any (λ k. k.tenths) ks) e)
  where
    go : (b : Bool) → (whole_step ks ≡ true → step_unrounded m t ks x ≡ 10 * step_use m t ks x) → b || any (λ k. k.tenths) ks ≡ false
        → cond (draws m t k) (unrounded b x k.ratio) 0 + step_unrounded m t ks x
        ≡ 10 * (cond (draws m t k) (use_of b x k.ratio) 0 + step_use m t ks x)
    go true rest f = absurd (false≢true (sym f))
    go false rest f = own (draws m t k) (rest (ap not f))
      where
        own : (d : Bool) → step_unrounded m t ks x ≡ 10 * step_use m t ks x
            → cond d (10 * (x * k.ratio)) 0 + step_unrounded m t ks x ≡ 10 * (cond d (x * k.ratio) 0 + step_use m t ks x)
        own true r = omega arith
        own false r = omega arith

pub total_stepwise : (ss : List (List Taker)) (xs : List ℕ) (ps : List Open) → whole_steps ss ≡ true → length xs ≡ length ss
    → ((m : Market) (t : ℕ) → total_use m t ss xs ≤ pool m t ps) → Stepwise ss xs ps
total_stepwise [] [] ps e l h = tt
total_stepwise [] (x ∷ xs) ps e l h = omega arith
total_stepwise (s ∷ ss) [] ps e l h = omega arith
total_stepwise (s ∷ ss) (x ∷ xs) ps e l h = (
  legs_within x s ps
      (λ m t. one (step_use m t s x) (total_use m t ss xs) (whole_step_lem m t x s (and_left (whole_step s) (whole_steps ss) e)) (h m t)),
  total_stepwise ss xs (after s x ps) (and_right (whole_step s) (whole_steps ss) e) (omega arith)
      (λ m t. rest (pool m t ps) (step_use m t s x) (pool-after m t s x ps) (h m t)),
)
  where
    one : (a b : ℕ) {u p : ℕ} → u ≡ 10 * a → a + b ≤ p → u ≤ 10 * p
    one a b e h = omega arith

    rest : (p a : ℕ) {b q : ℕ} → q ≡ p - a → a + b ≤ p → b ≤ q
    rest p a e h = omega arith

-- Two lists of one length are equal, or there is a first difference.

differ_later : {x y : ℕ} {xs ys : List ℕ} {k : ℕ} → x ≡ y → FirstDifference xs ys k → FirstDifference (x ∷ xs) (y ∷ ys) (suc k)
differ_later {x} {y} {xs} {ys} {k} e d = record { before = before; here = d.here }
  where
    before : (j : ℕ) → j < suc k → get_or (x ∷ xs) j 0 ≡ get_or (y ∷ ys) j 0
    before zero h = e
    before (suc j) h = d.before j (omega arith)

pub difference : (xs ys : List ℕ) → length xs ≡ length ys → (xs ≡ ys) ⊎ ((k : ℕ) × FirstDifference xs ys k)
difference [] [] l = inl refl
difference [] (y ∷ ys) l = absurd (omega arith)
difference (x ∷ xs) [] l = absurd (omega arith)
difference (x ∷ xs) (y ∷ ys) l = go (ℕ_discrete x y) (difference xs ys (omega arith))
  where
    go : Dec (x ≡ y) → (xs ≡ ys) ⊎ ((k : ℕ) × FirstDifference xs ys k) → (x ∷ xs ≡ y ∷ ys) ⊎ ((k : ℕ) × FirstDifference (x ∷ xs) (y ∷ ys) k)
    go (no d) r = inr (0, record { before = λ j h. absurd (not-suc-le-zero h); here = d })
    go (yes e) (inl f) = inl (ap₂ ◌∷◌ e f)
    go (yes e) (inr f) = inr (suc f.0, differ_later e f.1)
