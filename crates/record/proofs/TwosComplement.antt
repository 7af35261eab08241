-- A signed range tested on the 32 bits: not above the high end, or not below the low end as it stands in two's complement.
-- Assumes nothing.
use Prim.Native.Nat.{ℕ, zero, suc, ◌-◌, ◌≤◌, ◌<◌}
use mathlib.Core.Path.{◌≡◌, refl, sym, ◌∙◌}
use mathlib.Core.Bool.{Bool, true, false, ◌&&◌, ◌||◌, and-true, or-false}
use lib.Dec.{leb, ltb, leb-zero}
use lib.IntN.{pos, neg_ℤ}
use lib.Signed.{le_z}
use native.Mathlib.Omega.{arith}
use borrow.Author.Tests.{lt-ltb, le-ltb, le-leb, lt-leb, ltb-true, ltb-false, leb-true, leb-false}
use native.Mathlib.Nat.{lt_irrefl, lt_of_lt_of_le}
use Rattle.record.specs.Bytes.{twos_complement}

-- two orders that hold together
leb_same : (a b c d : ℕ) → (a ≤ b → c ≤ d) → (c ≤ d → a ≤ b) → leb a b ≡ leb c d
leb_same a b c d f g = go (leb a b) refl
  where
    go : (t : Bool) → leb a b ≡ t → leb a b ≡ leb c d
    go true e = e ∙ sym (le-leb c d (f (leb-true a b e)))
    go false e = e ∙ sym (both_ways (leb c d) refl)
      where
        both_ways : (t : Bool) → leb c d ≡ t → leb c d ≡ false
        both_ways true k = absurd (lt_irrefl b (lt_of_lt_of_le (leb-false a b e) (g (leb-true c d k))))
        both_ways false k = k

inside : ℕ → ℕ → ℕ → Bool
inside low high x = le_z (neg_ℤ (pos low)) (twos_complement x) && le_z (twos_complement x) (pos high)

module _ (high x : ℕ) (hx : x < 4294967296) (hh : high < 2147483648) where
  above : (low : ℕ) → low ≤ 2147483648 → x < 2147483648 → leb x high || leb (4294967296 - low) x ≡ inside low high x
  unfolding inside
  above zero hl h = rw (lt-ltb _ _ h, lt-leb (4294967296 - 0) x (omega arith), or-false, leb-zero x)
  above (suc low) hl h = rw (lt-ltb _ _ h, lt-leb (4294967296 - suc low) x (omega arith), or-false)

  below : (low : ℕ) → low ≤ 2147483648 → 2147483648 ≤ x → leb x high || leb (4294967296 - low) x ≡ inside low high x
  unfolding inside
  below zero hl h = rw (le-ltb _ _ h, lt-leb x high (omega arith), lt-leb (4294967296 - 0) x (omega arith))
  below (suc low) hl h =
      rw (le-ltb _ _ h, lt-leb x high (omega arith), and-true)
      (leb_same (4294967296 - suc low) x (4294967295 - x) low (λ p. omega arith) (λ p. omega arith))

  pub tested :
      (low : ℕ) → low ≤ 2147483648
      → leb x high || leb (4294967296 - low) x
      ≡ le_z (neg_ℤ (pos low)) (twos_complement x) && le_z (twos_complement x) (pos high)
  unfolding inside
  tested low hl = go (ltb x 2147483648) refl
    where
      go : (t : Bool) → ltb x 2147483648 ≡ t → leb x high || leb (4294967296 - low) x ≡ inside low high x
      go true e = above low hl (ltb-true _ _ e)
      go false e = below low hl (ltb-false _ _ e)
