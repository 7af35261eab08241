-- The contracts of an account, one after the other; and 16 places in which fewer contracts stand.
-- Assumes nothing.
use Prim.Native.Nat.{ℕ, zero, suc, ◌+◌, ◌-◌, ◌*◌, ◌≤◌, ◌<◌, zero-le}
use native.Mathlib.Decide.{dec_lt}
use native.Mathlib.Omega.{arith}
use mathlib.Core.Path.{◌≡◌, refl, ap, ap₂, ◌∙◌}
use mathlib.Core.List.{List, [], ◌∷◌, map}
use lib.IntN.{ℤ}
use lib.ListN.{length, get_or}
use Rattle.account.specs.Check.{most_contracts}
use Rattle.exact.specs.Lists.{one_if, sum}
use Rattle.exact.proofs.Tests.{one_at_most}
use Rattle.committee.specs.Committee.{over_contracts, margin_at, has_credit, is_above}
use Rattle.committee.specs.code.Sums.{most_total, Fit, FoundAt, FoundIn}
use Rattle.committee.specs.declared.contracts.Found.{Found}

-- each is no more than all together
pub over_at : (f : ℕ → ℕ) (n i : ℕ) → i < n → f i ≤ over_contracts n f
over_at f zero i l = absurd (omega arith)
over_at f (suc n) i l = go (dec_lt i n) (over_at f n i)
  where
    go : Dec (i < n) → (i < n → f i ≤ over_contracts n f) → f i ≤ over_contracts n f + f n
    go (yes h) before = let b = before h in omega arith
    go (no h) before = let e : i ≡ n = omega (arith, h) in let same = ap f e in omega arith

pub same_over : (f g : ℕ → ℕ) (n : ℕ) → ((i : ℕ) → i < n → g i ≡ f i) → over_contracts n g ≡ over_contracts n f
same_over f g zero same = refl
same_over f g (suc n) same = ap₂ ◌+◌ (same_over f g n (λ i l. same i (omega arith))) (same n (omega arith))

beyond : (g : ℕ → ℕ) (n d : ℕ) → ((i : ℕ) → n ≤ i → g i ≡ 0) → over_contracts (d + n) g ≡ over_contracts n g
beyond g n zero none = let e : 0 + n ≡ n = omega arith in ap (λ (m : ℕ). over_contracts m g) e
beyond g n (suc d) none =
    let e : suc d + n ≡ suc (d + n) = omega arith in
    let first = ap (λ (m : ℕ). over_contracts m g) e in
    let rest = beyond g n d none in
    let last = none (d + n) (omega arith) in
    omega arith

-- places past the first n at which nothing stands add nothing
pub over_padded : (f g : ℕ → ℕ) (n most : ℕ) → n ≤ most → ((i : ℕ) → i < n → g i ≡ f i) → ((i : ℕ) → n ≤ i → g i ≡ 0)
    → over_contracts most g ≡ over_contracts n f
over_padded f g n most h same none =
    let all : most ≡ most - n + n = omega arith in
    ap (λ (m : ℕ). over_contracts m g) all ∙ beyond g n (most - n) none ∙ same_over f g n same

pub over_none : (f : ℕ → ℕ) (n : ℕ) → ((i : ℕ) → f i ≡ 0) → over_contracts n f ≡ 0
over_none f zero none = refl
over_none f (suc n) none = let rest = over_none f n none in let last = none n in omega arith

-- one for each of a list
first_over : (f : ℕ → ℕ) (n : ℕ) → over_contracts (suc n) f ≡ f 0 + over_contracts n (λ i. f (suc i))
first_over f zero = omega arith
first_over f (suc n) = let rest = first_over f n in omega arith

pub over_list : {A : Type 0} (f : A → ℕ) (xs : List A) (d : A) → over_contracts (length xs) (λ i. f (get_or xs i d)) ≡ sum (map f xs)
over_list f [] d = refl
over_list f (x ∷ xs) d = let first = first_over (λ i. f (get_or (x ∷ xs) i d)) (length xs) in let rest = over_list f xs d in omega arith

-- ---- while they are gone over
pub record SoFar (numbers : List ℤ) (i margin credits above : ℕ) : Type 0 where
  pub margin_is : margin ≡ over_contracts i (margin_at numbers)
  pub credits_are : credits ≡ over_contracts i (λ k. one_if (has_credit numbers k))
  pub above_is : above ≡ over_contracts i (λ k. one_if (is_above numbers k))
  pub margin_most : margin ≤ i * most_total
  pub credits_most : credits ≤ i
  pub above_most : above ≤ i
  pub within : i ≤ most_contracts

pub start : (numbers : List ℤ) → SoFar numbers 0 0 0 0
start numbers = record {
  margin_is = refl;
  credits_are = refl;
  above_is = refl;
  margin_most = zero-le;
  credits_most = zero-le;
  above_most = zero-le;
  within = zero-le;
}

module _ (numbers : List ℤ) (fit : Fit numbers) (i margin credits above : ℕ) (s : SoFar numbers i margin credits above) (l : i < most_contracts)
    (r : Found) (is : FoundAt numbers i r) where
  -- what the next contract adds is small
  pub margin_small : r.margin.0 ≤ most_total
  margin_small = let e = is.margin_is in let h = fit.margin_within i l in omega arith

  pub credits_small : r.credits ≤ 1
  credits_small = let e = is.credits_are in let h = one_at_most (has_credit numbers i) in omega arith

  pub above_small : r.above ≤ 1
  above_small = let e = is.above_is in let h = one_at_most (is_above numbers i) in omega arith

  pub next : SoFar numbers (i + 1) (margin + r.margin.0) (credits + r.credits) (above + r.above)
  next =
      let more : suc i ≡ i + 1 = omega arith in
      let m = margin_small in
      let k = credits_small in
      let a = above_small in
      record {
        margin_is = ap₂ ◌+◌ s.margin_is is.margin_is ∙ ap (λ (n : ℕ). over_contracts n (margin_at numbers)) more;
        credits_are = ap₂ ◌+◌ s.credits_are is.credits_are ∙ ap (λ (n : ℕ). over_contracts n (λ k. one_if (has_credit numbers k))) more;
        above_is = ap₂ ◌+◌ s.above_is is.above_is ∙ ap (λ (n : ℕ). over_contracts n (λ k. one_if (is_above numbers k))) more;
        margin_most = let h = s.margin_most in omega arith;
        credits_most = let h = s.credits_most in omega arith;
        above_most = let h = s.above_most in omega arith;
        within = omega arith;
      }

pub finish : (numbers : List ℤ) (i margin credits above : ℕ) → SoFar numbers i margin credits above → most_contracts ≤ i
    → FoundIn numbers most_contracts (record { margin = record { 0 = margin }; credits = credits; above = above })
finish numbers i margin credits above s h =
    let w = s.within in
    let e : i ≡ most_contracts = omega arith in
    let a = s.above_most in
    record {
      margin_is = s.margin_is ∙ ap (λ (n : ℕ). over_contracts n (margin_at numbers)) e;
      credits_are = s.credits_are ∙ ap (λ (n : ℕ). over_contracts n (λ k. one_if (has_credit numbers k))) e;
      above_is = s.above_is ∙ ap (λ (n : ℕ). over_contracts n (λ k. one_if (is_above numbers k))) e;
      few = omega arith;
    }
