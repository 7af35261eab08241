-- Signed numbers: signs, the larger of two, and what goes towards zero.
-- Assumes nothing.
use Rattle.std.specs.Prelude.{ℕ, suc, ◌-◌, ◌≤◌, ◌≡◌, Bool, true, false, cond, ℤ, pos, negsuc, neg_ℤ, nat_abs}
use Rattle.std.specs.Int.Signed.{lt_z}

abbrev pub negative : ℤ → Bool
negative (pos n) = false
negative (negsuc n) = true

abbrev pub larger : ℤ → ℤ → ℤ
larger a b = cond (lt_z a b) b a

-- "or 0 if that is negative"
abbrev pub or_zero : ℤ → ℕ
or_zero (pos n) = n
or_zero (negsuc n) = 0

-- a size with the sign of another number: "Used and unused carry the sign of the net delta."
abbrev pub with_sign_of : ℤ → ℕ → ℤ
with_sign_of (pos n) m = pos m
with_sign_of (negsuc n) m = neg_ℤ (pos m)

-- what is left of a number when an amount is taken from its size, none going past zero
abbrev pub towards_zero : ℤ → ℕ → ℤ
towards_zero (pos n) a = pos (n - a)
towards_zero (negsuc n) a = neg_ℤ (pos (suc n - a))

-- a result, and how large it can be
pub record Sized (most : ℕ) (z r : ℤ) : Type 0 where
  pub is : r ≡ z
  pub size : nat_abs r ≤ most
