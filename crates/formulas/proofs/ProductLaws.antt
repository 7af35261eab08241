-- How large a row's product is once it is rounded.
-- Assumes nothing.
use Rattle.std.proofs.Common.{◌≡◌, refl, arith, ℕ, ◌^◌, ◌≤◌, ◌<◌, ℤ, nat_abs, ◌*ℤ◌, SFits, w64}
use Rattle.exact.specs.Rounding.{half_up_to, half_away_to}
use Rattle.exact.proofs.UnitLaws.{away_above}
use Rattle.exact.proofs.Integers.{abs_sign}
use Rattle.account.specs.Products.{most_per_tick}
use Rattle.record.specs.Layout.{hundred_thousand, most_unit}
use Rattle.formulas.proofs.Calls.{handed, op_fits, native_is}
use Rattle.formulas.proofs.SignedCalls.{abs_times}
use Rattle.formulas.specs.Bounds.{most_product}

pub rounded_most : (unit : ℕ) (z : ℤ) → unit ≤ most_unit → nat_abs z ≤ 100000000000000 → nat_abs (half_away_to z unit) ≤ most_product
rounded_most unit z hu h = omega (arith, away_above unit z)

-- what `half_away_to` asks
pub half_fits : (unit : ℕ) (z : ℤ) → unit ≤ most_unit → nat_abs z ≤ 100000000000000 → half_up_to (nat_abs z) 1 unit < 2 ^ 63
half_fits unit z hu h = omega (arith, abs_sign z (half_up_to (nat_abs z) 1 unit), rounded_most unit z hu h)

-- lots × value × loss, in the code
module _ (each loss : ℤ) (fe : SFits w64 each) (fl : SFits w64 loss) (he : nat_abs each ≤ most_per_tick) (hl : nat_abs loss ≤ hundred_thousand) where
  pub product_size : nat_abs (each *ℤ loss) ≤ 100000000000000
  product_size = abs_times each loss he hl

  pub product_fits : SFits w64 (handed each *ℤ handed loss)
  product_fits = op_fits ◌*ℤ◌ each loss each loss fe.sfits fl.sfits refl refl (omega (arith, product_size))

  pub product_is : handed (handed each *ℤ handed loss) ≡ each *ℤ loss
  product_is = native_is ◌*ℤ◌ each loss each loss fe.sfits fl.sfits refl refl (omega (arith, product_size))
