-- The first of a record's seven refusals.
-- Assumes nothing.
use Prim.Native.Nat.{ℕ, zero, suc, ◌≤◌}
use mathlib.Core.Path.{◌≡◌, refl, sym}
use mathlib.Core.Bool.{Bool, true, false, not, ◌||◌}
use mathlib.Core.List.{[], ◌∷◌}
use lib.Dec.{eqb}
use native.Mathlib.Omega.{arith}
use Rattle.account.specs.Answers.{number_of, record_of, refusal}
use Rattle.account.specs.Check.{◌when◌, first_of}

abbrev pub seven : Bool → Bool → Bool → Bool → Bool → Bool → Bool → ℕ
seven a b c d e f g =
    first_of (3 when a ∷ 4 when b ∷ 5 when c ∷ 6 when d ∷ 7 when e ∷ 8 when f ∷ 9 when g ∷ [])

module _ (a b c d e f g : Bool) where
  pub is_3 : a ≡ true → 3 ≡ seven a b c d e f g
  is_3 ha = rw ha

  pub is_4 : a ≡ false → b ≡ true → 4 ≡ seven a b c d e f g
  is_4 ha hb = rw (ha, hb)

  pub is_5 : a ≡ false → b ≡ false → c ≡ true → 5 ≡ seven a b c d e f g
  is_5 ha hb hc = rw (ha, hb, hc)

  pub is_6 : a ≡ false → b ≡ false → c ≡ false → d ≡ true → 6 ≡ seven a b c d e f g
  is_6 ha hb hc hd = rw (ha, hb, hc, hd)

  pub is_7 : a ≡ false → b ≡ false → c ≡ false → d ≡ false → e ≡ true → 7 ≡ seven a b c d e f g
  is_7 ha hb hc hd he = rw (ha, hb, hc, hd, he)

  pub is_8 :
      a ≡ false → b ≡ false → c ≡ false → d ≡ false → e ≡ false → f ≡ true → 8 ≡ seven a b c d e f g
  is_8 ha hb hc hd he hf = rw (ha, hb, hc, hd, he, hf)

  pub is_9 :
      a ≡ false → b ≡ false → c ≡ false → d ≡ false → e ≡ false → f ≡ false → g ≡ true
      → 9 ≡ seven a b c d e f g
  is_9 ha hb hc hd he hf hg = rw (ha, hb, hc, hd, he, hf, hg)

  pub is_0 :
      a ≡ false → b ≡ false → c ≡ false → d ≡ false → e ≡ false → f ≡ false → g ≡ false
      → ◌≡◌ {A = ℕ} 0 (seven a b c d e f g)
  is_0 ha hb hc hd he hf hg = rw (ha, hb, hc, hd, he, hf, hg)

-- none of the seven
none_of : (a b c d e f g : Bool) → not (b || ((a || (c || d)) || (e || (f || g)))) ≡ eqb (seven a b c d e f g) 0
none_of true true c d e f g = refl
none_of true false c d e f g = refl
none_of false true c d e f g = refl
none_of false false true d e f g = refl
none_of false false false true e f g = refl
none_of false false false false true f g = refl
none_of false false false false false true g = refl
none_of false false false false false false true = refl
none_of false false false false false false false = refl

pub none_is : (a b c d e f g : Bool) {a' b' c' d' e' f' g' : Bool}
    → a' ≡ a → b' ≡ b → c' ≡ c → d' ≡ d → e' ≡ e → f' ≡ f → g' ≡ g
    → not (b' || ((a' || (c' || d')) || (e' || (f' || g')))) ≡ eqb (seven a b c d e f g) 0
none_is a b c d e f g ha hb hc hd he hf hg = rw (ha, hb, hc, hd, he, hf, hg) (none_of a b c d e f g)

-- 7 and 9 count only where 3 to 6 do not hold
pub same_first :
    (a b c d e f g e' g' : Bool)
    → (a ≡ false → d ≡ false → e ≡ e') → (a ≡ false → d ≡ false → g ≡ g')
    → seven a b c d e f g ≡ seven a b c d e' f g'
same_first true b c d e f g e' g' p q = refl
same_first false true c d e f g e' g' p q = refl
same_first false false true d e f g e' g' p q = refl
same_first false false false true e f g e' g' p q = refl
same_first false false false false e f g e' g' p q = rw (p refl refl, q refl refl)

-- ---- the numbers that a record's refusal may have
pub fault_range : (a b c d e f g : Bool) (n : ℕ) → seven a b c d e f g ≡ n → (n ≡ 0 → ⊥) → (3 ≤ n) × (n ≤ 9)
fault_range true b c d e f g n h nz = (omega arith, omega arith)
fault_range false true c d e f g n h nz = (omega arith, omega arith)
fault_range false false true d e f g n h nz = (omega arith, omega arith)
fault_range false false false true e f g n h nz = (omega arith, omega arith)
fault_range false false false false true f g n h nz = (omega arith, omega arith)
fault_range false false false false false true g n h nz = (omega arith, omega arith)
fault_range false false false false false false true n h nz = (omega arith, omega arith)
fault_range false false false false false false false n h nz = absurd (nz (sym h))

by_number :
    (P : ℕ → Type 0) → P 3 → P 4 → P 5 → P 6 → P 7 → P 8 → P 9 → (n : ℕ) → 3 ≤ n → n ≤ 9 → P n
by_number P a b c d e f g zero l h = absurd (omega arith)
by_number P a b c d e f g (suc zero) l h = absurd (omega arith)
by_number P a b c d e f g (suc (suc zero)) l h = absurd (omega arith)
by_number P a b c d e f g (suc (suc (suc n))) l h = go n (omega arith)
  where
    go : (m : ℕ) → m ≤ 6 → P (suc (suc (suc m)))
    go zero k = a
    go (suc zero) k = b
    go (suc (suc zero)) k = c
    go (suc (suc (suc zero))) k = d
    go (suc (suc (suc (suc zero)))) k = e
    go (suc (suc (suc (suc (suc zero))))) k = f
    go (suc (suc (suc (suc (suc (suc zero)))))) k = g
    go (suc (suc (suc (suc (suc (suc (suc m))))))) k = absurd (omega arith)

pub number_refusal : (n k : ℕ) → 3 ≤ n → n ≤ 9 → number_of (refusal n k) ≡ n
number_refusal n k = by_number (λ m. number_of (refusal m k) ≡ m) refl refl refl refl refl refl refl n

pub record_refusal : (n k : ℕ) → 3 ≤ n → n ≤ 9 → record_of (refusal n k) ≡ k
record_refusal n k = by_number (λ m. record_of (refusal m k) ≡ k) refl refl refl refl refl refl refl n
