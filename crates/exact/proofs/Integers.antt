-- Laws of the integers: range, size, order and sign. Each is by cases on the signs; the naturals do the rest.
-- Sums and cancellation are the library's: `+ℤ_comm`, `+ℤ_assoc`, `+ℤ_idl`, `+ℤ_idr`, `-ℤ-+ℤ_cancel`, `+ℤ-neg_ℤ_cancel` of lib.IntN.
-- Assumes nothing.
use mathlib.Core.Path.{◌≡◌, refl, sym, ◌∙◌, ap, ap₂, subst}
use mathlib.Core.Logic.{◌⊎◌, inl, inr}
use mathlib.Core.Bool.{Bool, true, false, not, cond, false≢true, true≢false}
use Prim.Native.Nat.{ℕ, zero, suc, ◌+◌, ◌*◌, ◌-◌, ◌^◌, ◌≤◌, ◌<◌, min}
use native.Mathlib.Nat.{le_refl}
use native.Mathlib.Omega.{arith}
use lib.Dec.{T, leb, ltb}
use lib.IntN.{ℤ, pos, negsuc, neg_ℤ, nat_abs, sub_ℕ, suc_ℤ, pred_ℤ, ◌+ℤ◌, ◌-ℤ◌, ◌*ℤ◌, +ℤ_idl, +ℤ_assoc, +ℤ_comm, +ℤ-neg_ℤ_cancel, neg_ℤ-+ℤ, zero-*ℤ}
use lib.IntN.{*ℤ_comm, suc_ℤ-+ℤ, pred_ℤ-+ℤ, suc_ℤ-*ℤ, pred_ℤ-*ℤ}
use lib.Signed.{non_neg, lt_z, le_z}
use mir.Syntax.{w64}
use mir.Val.{SFits, Fits, to_z, of_z}
use mir.Facts.{to_z-of_z, Fits-nat_abs}
use borrow.Author.Tests.{ltb-true, ltb-false, leb-true, le-ltb, le-leb, lt-leb}
use Rattle.exact.specs.Signed.{negative, larger, or_zero, with_sign_of, towards_zero}

-- ---- range

-- a number in range is what the machine reads back from its bits
pub back : (z : ℤ) → SFits w64 z → to_z w64 (of_z w64 z) ≡ z
back z h = to_z-of_z {w = w64} {z = z} h

-- what a callee says of a signed argument, said of the number itself
pub seen {ℓ} : {A : Type ℓ} (f : ℤ → A) (z : ℤ) {x : A} → SFits w64 z → x ≡ f (to_z w64 (of_z w64 z)) → x ≡ f z
seen f z h e = e ∙ ap f (back z h)

pub seen₂ {ℓ} : {A : Type ℓ} (f : ℤ → ℤ → A) (a b : ℤ) {x : A} → SFits w64 a → SFits w64 b
    → x ≡ f (to_z w64 (of_z w64 a)) (to_z w64 (of_z w64 b)) → x ≡ f a b
seen₂ f a b ha hb e = e ∙ ap₂ f (back a ha) (back b hb)

pub sfits_abs : (z : ℤ) → nat_abs z < 2 ^ 63 → SFits w64 z
sfits_abs (pos n) h = record { sfits = h }
sfits_abs (negsuc n) h = record { sfits = omega arith }

pub abs_sfits : (z : ℤ) → SFits w64 z → nat_abs z ≤ 2 ^ 63
abs_sfits (pos n) h = omega (arith, h.sfits)
abs_sfits (negsuc n) h = omega (arith, h.sfits)

-- a number that is not negative can be cast to a natural one
pub natural : (z : ℤ) → SFits w64 z → negative z ≡ false → T (non_neg z) × Fits w64 (nat_abs z)
natural (pos n) f h = (tt, Fits-nat_abs {w = w64} {w' = w64} {z = pos n} tt f)
natural (negsuc n) f h = absurd (true≢false h)

pub natural_size : (z : ℤ) → negative z ≡ false → pos (nat_abs z) ≡ z
natural_size (pos n) h = refl
natural_size (negsuc n) h = absurd (true≢false h)

-- ---- size

pub abs_neg : (z : ℤ) → nat_abs (neg_ℤ z) ≡ nat_abs z
abs_neg (pos zero) = refl
abs_neg (pos (suc n)) = refl
abs_neg (negsuc n) = refl

pub abs_mul : (a b : ℤ) → nat_abs (a *ℤ b) ≡ nat_abs a * nat_abs b
abs_mul (pos a) (pos b) = refl
abs_mul (pos a) (negsuc b) = abs_neg (pos (a * suc b))
abs_mul (negsuc a) (pos b) = abs_neg (pos (suc a * b))
abs_mul (negsuc a) (negsuc b) = refl

-- a difference of two naturals: one of the two parts is 0
pub abs_difference : (a b : ℕ) → nat_abs (sub_ℕ a b) ≡ (a - b) + (b - a)
abs_difference a b = go (ltb a b) refl
  where
    go : (t : Bool) → ltb a b ≡ t → nat_abs (cond t (negsuc (b - suc a)) (pos (a - b))) ≡ (a - b) + (b - a)
    go true e = omega (arith, ltb-true a b e)
    go false e = omega (arith, ltb-false a b e)

pub abs_add : (a b : ℤ) → nat_abs (a +ℤ b) ≤ nat_abs a + nat_abs b
abs_add (pos a) (pos b) = le_refl (a + b)
abs_add (pos a) (negsuc b) = omega (arith, abs_difference a (suc b))
abs_add (negsuc a) (pos b) = omega (arith, abs_difference b (suc a))
abs_add (negsuc a) (negsuc b) = omega arith

pub abs_sub : (a b : ℤ) → nat_abs (a -ℤ b) ≤ nat_abs a + nat_abs b
abs_sub a b = subst (λ (n : ℕ). nat_abs (a -ℤ b) ≤ nat_abs a + n) (abs_neg b) (abs_add a (neg_ℤ b))

-- what `plus`, `minus` and `times` require at a call, from the sizes of the two numbers
pub plus_fits : (a b : ℤ) → SFits w64 a → SFits w64 b → nat_abs a + nat_abs b < 2 ^ 63 → SFits w64 (to_z w64 (of_z w64 a) +ℤ to_z w64 (of_z w64 b))
plus_fits a b ha hb h = rw (back a ha, back b hb) (sfits_abs (a +ℤ b) (omega (arith, abs_add a b)))

pub times_fits : (a b : ℤ) → SFits w64 a → SFits w64 b → nat_abs a * nat_abs b < 2 ^ 63 → SFits w64 (to_z w64 (of_z w64 a) *ℤ to_z w64 (of_z w64 b))
times_fits a b ha hb h = rw (back a ha, back b hb) (sfits_abs (a *ℤ b) (rw (abs_mul a b) h))

-- ---- sums and products

pub sub_naturals : (n m : ℕ) → m ≤ n → pos n -ℤ pos m ≡ pos (n - m)
sub_naturals n m h =
    let e : n ≡ n - m + m = omega arith in
    ap (λ (k : ℕ). pos k -ℤ pos m) e ∙ +ℤ-neg_ℤ_cancel (pos (n - m)) (pos m)

pub sums_cross : (a b c d : ℤ) → a +ℤ b +ℤ (c +ℤ d) ≡ a +ℤ c +ℤ (b +ℤ d)
sums_cross a b c d =
    +ℤ_assoc a b (c +ℤ d)
    ∙ ap (λ (z : ℤ). a +ℤ z) (sym (+ℤ_assoc b c d) ∙ ap (λ (z : ℤ). z +ℤ d) (+ℤ_comm b c) ∙ +ℤ_assoc c b d)
    ∙ sym (+ℤ_assoc a c (b +ℤ d))

-- a step of one, up or down, in the first number: `s` is the step and `by` what it adds to a product
one_step : (s : ℤ → ℤ) (by : ℤ → ℤ) → ((a b : ℤ) → s a +ℤ b ≡ s (a +ℤ b)) → ((a c : ℤ) → s a *ℤ c ≡ a *ℤ c +ℤ by c)
    → (a b c : ℤ) → (a +ℤ b) *ℤ c ≡ a *ℤ c +ℤ b *ℤ c → (s a +ℤ b) *ℤ c ≡ s a *ℤ c +ℤ b *ℤ c
one_step s by sum prod a b c h =
    ap (λ (z : ℤ). z *ℤ c) (sum a b)
    ∙ prod (a +ℤ b) c
    ∙ ap (λ (z : ℤ). z +ℤ by c) h
    ∙ +ℤ_assoc (a *ℤ c) (b *ℤ c) (by c)
    ∙ ap (λ (z : ℤ). a *ℤ c +ℤ z) (+ℤ_comm (b *ℤ c) (by c))
    ∙ sym (+ℤ_assoc (a *ℤ c) (by c) (b *ℤ c))
    ∙ ap (λ (z : ℤ). z +ℤ b *ℤ c) (sym (prod a c))

none_times : (b c : ℤ) → (pos 0 +ℤ b) *ℤ c ≡ pos 0 *ℤ c +ℤ b *ℤ c
none_times b c =
    ap (λ (z : ℤ). z *ℤ c) (+ℤ_idl b) ∙ sym (ap (λ (z : ℤ). z +ℤ b *ℤ c) (zero-*ℤ c) ∙ +ℤ_idl (b *ℤ c))

pub add_times : (a b c : ℤ) → (a +ℤ b) *ℤ c ≡ a *ℤ c +ℤ b *ℤ c
add_times (pos zero) b c = none_times b c
add_times (pos (suc n)) b c = one_step suc_ℤ (λ z. z) suc_ℤ-+ℤ suc_ℤ-*ℤ (pos n) b c (add_times (pos n) b c)
add_times (negsuc zero) b c = one_step pred_ℤ neg_ℤ pred_ℤ-+ℤ pred_ℤ-*ℤ (pos zero) b c (none_times b c)
add_times (negsuc (suc n)) b c = one_step pred_ℤ neg_ℤ pred_ℤ-+ℤ pred_ℤ-*ℤ (negsuc n) b c (add_times (negsuc n) b c)

pub times_add : (a b c : ℤ) → a *ℤ (b +ℤ c) ≡ a *ℤ b +ℤ a *ℤ c
times_add a b c = *ℤ_comm a (b +ℤ c) ∙ add_times b c a ∙ ap₂ ◌+ℤ◌ (*ℤ_comm b a) (*ℤ_comm c a)

-- ---- order

pub not_below : (a b : ℤ) → le_z b a ≡ not (lt_z a b)
not_below (pos a) (pos b) = go (ltb a b) refl
  where
    go : (t : Bool) → ltb a b ≡ t → leb b a ≡ not t
    go true e = lt-leb b a (ltb-true a b e)
    go false e = le-leb b a (ltb-false a b e)
not_below (pos a) (negsuc b) = refl
not_below (negsuc a) (pos b) = refl
not_below (negsuc a) (negsuc b) = go (ltb b a) refl
  where
    go : (t : Bool) → ltb b a ≡ t → leb a b ≡ not t
    go true e = lt-leb a b (ltb-true b a e)
    go false e = le-leb a b (ltb-false b a e)

pub at_most_refl : (a : ℤ) → le_z a a ≡ true
at_most_refl (pos a) = le-leb a a (le_refl a)
at_most_refl (negsuc a) = le-leb a a (le_refl a)

pub at_most_trans : (a b c : ℤ) → le_z a b ≡ true → le_z b c ≡ true → le_z a c ≡ true
at_most_trans (pos a) (pos b) (pos c) h k = le-leb a c (omega (arith, leb-true a b h, leb-true b c k))
at_most_trans (pos a) (pos b) (negsuc c) h k = k
at_most_trans (pos a) (negsuc b) c h k = absurd (false≢true h)
at_most_trans (negsuc a) (pos b) (pos c) h k = refl
at_most_trans (negsuc a) (pos b) (negsuc c) h k = absurd (false≢true k)
at_most_trans (negsuc a) (negsuc b) (pos c) h k = refl
at_most_trans (negsuc a) (negsuc b) (negsuc c) h k = le-leb c a (omega (arith, leb-true b a h, leb-true c b k))

pub below_at_most : (a b : ℤ) → lt_z a b ≡ true → le_z a b ≡ true
below_at_most (pos a) (pos b) h = le-leb a b (omega (arith, ltb-true a b h))
below_at_most (pos a) (negsuc b) h = h
below_at_most (negsuc a) (pos b) h = refl
below_at_most (negsuc a) (negsuc b) h = le-leb b a (omega (arith, ltb-true b a h))

pub not_below_at_most : (a b : ℤ) → lt_z a b ≡ false → le_z b a ≡ true
not_below_at_most a b h = not_below a b ∙ ap not h

-- one of two is at most the other
pub total : (a b : ℤ) → (le_z a b ≡ true) ⊎ (le_z b a ≡ true)
total a b = go (lt_z a b) refl
  where
    go : (t : Bool) → lt_z a b ≡ t → (le_z a b ≡ true) ⊎ (le_z b a ≡ true)
    go true e = inl (below_at_most a b e)
    go false e = inr (not_below_at_most a b e)

-- the larger of two is at least each of them, and is one of them
pub larger_first : (a b : ℤ) → le_z a (larger a b) ≡ true
larger_first a b = go (lt_z a b) refl
  where
    go : (t : Bool) → lt_z a b ≡ t → le_z a (cond t b a) ≡ true
    go true e = below_at_most a b e
    go false e = at_most_refl a

pub larger_second : (a b : ℤ) → le_z b (larger a b) ≡ true
larger_second a b = go (lt_z a b) refl
  where
    go : (t : Bool) → lt_z a b ≡ t → le_z b (cond t b a) ≡ true
    go true e = at_most_refl b
    go false e = not_below_at_most a b e

-- ---- sign

pub negative_below : (z : ℤ) → lt_z z (pos 0) ≡ negative z
negative_below (pos n) = le-ltb n 0 (omega arith)
negative_below (negsuc n) = refl

pub or_zero-negative : (z : ℤ) → negative z ≡ true → or_zero z ≡ 0
or_zero-negative (pos n) h = absurd (false≢true h)
or_zero-negative (negsuc n) h = refl

pub or_zero_natural : (z : ℤ) → negative z ≡ false → or_zero z ≡ nat_abs z
or_zero_natural (pos n) h = refl
or_zero_natural (negsuc n) h = absurd (true≢false h)

pub or_zero_abs : (z : ℤ) → or_zero z ≤ nat_abs z
or_zero_abs (pos n) = le_refl n
or_zero_abs (negsuc n) = omega arith

pub sign_abs : (z : ℤ) → with_sign_of z (nat_abs z) ≡ z
sign_abs (pos n) = refl
sign_abs (negsuc n) = refl

pub abs_sign : (z : ℤ) (m : ℕ) → nat_abs (with_sign_of z m) ≡ m
abs_sign (pos n) m = refl
abs_sign (negsuc n) m = abs_neg (pos m)

pub towards_zero_sign : (z : ℤ) (a : ℕ) → towards_zero z a ≡ with_sign_of z (nat_abs z - a)
towards_zero_sign (pos n) a = refl
towards_zero_sign (negsuc n) a = refl

pub abs_towards_zero : (z : ℤ) (a : ℕ) → nat_abs (towards_zero z a) ≡ nat_abs z - a
abs_towards_zero (pos n) a = refl
abs_towards_zero (negsuc n) a = abs_neg (pos (suc n - a))

pub sign_negative : (z : ℤ) (m : ℕ) → negative z ≡ true → with_sign_of z m ≡ neg_ℤ (pos m)
sign_negative (pos n) m h = absurd (false≢true h)
sign_negative (negsuc n) m h = refl

pub sign_natural : (z : ℤ) (m : ℕ) → negative z ≡ false → with_sign_of z m ≡ pos m
sign_natural (pos n) m h = refl
sign_natural (negsuc n) m h = absurd (true≢false h)

pub sign_none : (z : ℤ) → with_sign_of z 0 ≡ pos 0
sign_none (pos n) = refl
sign_none (negsuc n) = refl

-- taking nothing leaves all, taking all leaves nothing
pub towards_zero-none : (z : ℤ) → towards_zero z 0 ≡ z
towards_zero-none z =
    towards_zero_sign z 0 ∙ ap (with_sign_of z) (omega arith) ∙ sign_abs z

pub towards_zero_all : (z : ℤ) (a : ℕ) → nat_abs z ≤ a → towards_zero z a ≡ pos 0
towards_zero_all z a h = towards_zero_sign z a ∙ ap (with_sign_of z) (omega arith) ∙ sign_none z

-- what was taken carries the sign too: it is as much as was asked, and at most all
pub taken_sign : (z : ℤ) (a : ℕ) → z -ℤ towards_zero z a ≡ with_sign_of z (min a (nat_abs z))
taken_sign (pos n) a = sub_naturals n (n - a) (omega arith) ∙ ap pos (omega arith)
taken_sign (negsuc n) a =
    let e : suc n - (suc n - a) ≡ min a (suc n) = omega arith in
    sym (neg_ℤ-+ℤ (pos (suc n)) (neg_ℤ (pos (suc n - a))))
    ∙ ap neg_ℤ (sub_naturals (suc n) (suc n - a) (omega arith) ∙ ap pos e)
