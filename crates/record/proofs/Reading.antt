-- Numbers read from a record: past its end they are 0, and two's complement at the machine's width is that of 32 bits.
-- Assumes nothing.
use Prim.Native.Nat.{ℕ, ◌+◌, ◌%◌, ◌≤◌, ◌<◌, ◌^◌}
use mathlib.Core.Path.{◌≡◌, refl, ap, ◌∙◌}
use mathlib.Core.Bool.{Bool, true, false}
use lib.Dec.{ltb}
use lib.IntN.{ℤ, pos, negsuc, sub_ℕ, ◌-ℤ◌}
use lib.ListN.{length, get_or-eq_default}
use native.Mathlib.Omega.{arith}
use borrow.Author.Tests.{lt-ltb, le-ltb, ltb-true, ltb-false}
use lib.Signed.{mag}
use mir.Syntax.{w64}
use mir.Val.{SFits, to_z, of_z}
use mir.Facts.{to_z-of_z, to_z_pos}
use Rattle.record.specs.Bytes.{Record, byte_at, u16_at, u32_at, i32_at, twos_complement}

pub byte_past : (r : Record) (o : ℕ) → length r ≤ o → byte_at r o ≡ 0
byte_past r o h = get_or-eq_default r 0 h

pub u16_past : (r : Record) (o : ℕ) → length r ≤ o → u16_at r o ≡ 0
u16_past r o h = omega (arith, byte_past r o h, byte_past r (o + 1) (omega arith))

pub u32_past : (r : Record) (o : ℕ) → length r ≤ o → u32_at r o ≡ 0
u32_past r o h = omega (arith, u16_past r o h, u16_past r (o + 2) (omega arith))

pub i32_past : (r : Record) (o : ℕ) → length r ≤ o → i32_at r o ≡ pos 0
i32_past r o h = rw (u32_past r o h)

-- a signed number is what the machine reads back from its bits
pub back : (z : ℤ) → mag z < 2 ^ 63 → to_z w64 (of_z w64 z) ≡ z
back z h = to_z-of_z {w = w64} {z = z} (record { sfits = h })

module _ (x : ℕ) (h : x < 4294967296) where
  -- 2 ^ 31 on, round at 2 ^ 32, and 2 ^ 31 back
  moved : ℕ
  moved = (x + 2147483648) % 4294967296

  back_again : (t : Bool) → ltb x 2147483648 ≡ t → sub_ℕ moved 2147483648 ≡ twos_complement x
  unfolding moved
  back_again true e = let low = ltb-true x 2147483648 e in rw (e, le-ltb moved 2147483648 (omega arith)) (ap pos (omega arith))
  back_again false e = let high = ltb-false x 2147483648 e in rw (e, lt-ltb moved 2147483648 (omega arith)) (ap negsuc (omega arith))

  minus : to_z w64 ((x + 2147483648) % 4294967296) -ℤ pos 2147483648 ≡ twos_complement x
  unfolding moved
  minus = rw (to_z_pos w64 {n = (x + 2147483648) % 4294967296} (omega arith)) (back_again (ltb x 2147483648) refl)

  fits : (t : Bool) → ltb x 2147483648 ≡ t → SFits w64 (twos_complement x)
  fits true e = let low = ltb-true x 2147483648 e in rw e (record { sfits = omega arith })
  fits false e = let high = ltb-false x 2147483648 e in rw e (record { sfits = omega arith })

  pub signed_fits : SFits w64 (to_z w64 ((x + 2147483648) % 4294967296) -ℤ pos 2147483648)
  signed_fits = rw minus (fits (ltb x 2147483648) refl)

  pub signed_is : to_z w64 (of_z w64 (to_z w64 ((x + 2147483648) % 4294967296) -ℤ pos 2147483648)) ≡ twos_complement x
  signed_is = to_z-of_z signed_fits ∙ minus
