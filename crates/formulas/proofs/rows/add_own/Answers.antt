use mathlib.Core.Path.{◌≡◌, refl, ◌∙◌, ap, ap₂}
use Prim.Native.Nat.{ℕ, ◌+◌, ◌-◌, ◌*◌, ◌^◌, ◌≤◌, ◌<◌}
use native.Mathlib.Omega.{arith}
use lib.IntN.{ℤ, pos, nat_abs, ◌+ℤ◌, ◌*ℤ◌}
use lib.ListN.{get_or}
use Rattle.account.specs.Check.{most_rows}
use Rattle.record.specs.Layout.{lots, value, loss}
use Rattle.exact.specs.Rounding.{half_away_to}
use Rattle.exact.proofs.Integers.{back, abs_add}
use Rattle.formulas.specs.Bounds.{most_product}
use Rattle.formulas.specs.code.Position.{Sized, own_products}
use Rattle.formulas.proofs.Calls.{handed}
use Rattle.formulas.proofs.AddedLaws.{put_fits, put_next}
use Rattle.formulas.proofs.rows.add_own.Goals as goal
use Rattle.formulas.proofs.rows.add_own.Goals.{After-product}

-- what is added
module _ (c : After-product) where
  abbrev more : ℕ → ℤ
  more = own_products c.args.unit c.args.row.now

  abbrev here : ℤ
  here = get_or c.args.totals.now c.loop-s.s (pos 0)

  tick_is : handed c.per_tick-each.result ≡ lots c.args.row.now *ℤ pos (value c.args.row.now)
  tick_is = back c.per_tick-each.result (record { sfits = c.per_tick-each.type_inv }) ∙ c.per_tick-each.ensures.is

  loss-is : handed c.loss.result ≡ loss c.args.row.now (c.loop-s.s + 1)
  loss-is = back c.loss.result (record { sfits = c.loss.type_inv }) ∙ c.loss.ensures

  multiplied : Sized most_product (more c.loop-s.s) c.product.result
  multiplied =
      record {
        is = c.product.ensures.is ∙ ap₂ (λ (x y : ℤ). half_away_to (x *ℤ y) c.args.unit) tick_is loss-is;
        size = c.product.ensures.size;
      }

  room : nat_abs here ≤ (most_rows - 1) * most_product
  room = c.requires.1.1.size c.loop-s.s (omega arith)

  small : nat_abs (here +ℤ more c.loop-s.s) < 2 ^ 63
  small = omega (arith, abs_add here (more c.loop-s.s), room, ap nat_abs multiplied.is, multiplied.size)

pub overflow_add-total : goal.overflow_add-total
overflow_add-total c =
    let at = (goal.at.overflow_add-total c).After-product in
    put_fits ◌+ℤ◌ c.loop-s.s (more at) c.args.totals.now c.loop-s.totals c.loop-s.invariant c.product.result (more at c.loop-s.s) c.product.type_inv
    (multiplied at).is (omega (arith, room at)) (small at)

pub loop-s-preserved : goal.loop-s-preserved
loop-s-preserved c =
    let at = (goal.at.loop-s-preserved c).After-product in
    put_next ◌+ℤ◌ c.loop-s.s (more at) c.args.totals.now c.loop-s.totals c.loop-s.invariant c.product.result (more at c.loop-s.s) c.product.type_inv
    (multiplied at).is (omega (arith, room at)) (small at) (omega (arith, c.requires.1.1.as_many)) refl
