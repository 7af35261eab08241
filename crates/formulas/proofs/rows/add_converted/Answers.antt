use mathlib.Core.Path.{subst, ◌≡◌, refl, ◌∙◌, ap, ap₂}
use Prim.Native.Nat.{ℕ, ◌+◌, ◌-◌, ◌*◌, ◌^◌, ◌≤◌, ◌<◌}
use native.Mathlib.Omega.{arith}
use lib.IntN.{ℤ, pos, nat_abs, ◌+ℤ◌, ◌*ℤ◌}
use lib.ListN.{get_or}
use Rattle.account.specs.Check.{most_rows}
use Rattle.account.specs.Products.{converted_at}
use Rattle.record.specs.Layout.{lots, value, loss}
use Rattle.exact.specs.Rounding.{half_away_to}
use Rattle.exact.proofs.Integers.{back, abs_add}
use Rattle.formulas.specs.Bounds.{most_product}
use Rattle.formulas.specs.code.Position.{Sized, Added, converted_products}
use Rattle.formulas.proofs.Calls.{handed}
use Rattle.formulas.proofs.AddedLaws.{put_fits, put_next}
use Rattle.formulas.proofs.rows.add_converted.Goals as goal
use Rattle.formulas.proofs.rows.add_converted.Goals.{After-converted_product}

-- what is added
module _ (c : After-converted_product) where
  abbrev more : ℕ → ℤ
  more = converted_products c.args.f.raised c.args.f.lowered c.args.unit c.args.row.now

  abbrev here : ℤ
  here = get_or c.args.totals.now c.loop-s.s (pos 0)

  tick_is : handed c.per_tick-each.result ≡ lots c.args.row.now *ℤ pos (value c.args.row.now)
  tick_is = back c.per_tick-each.result (record { sfits = c.per_tick-each.type_inv }) ∙ c.per_tick-each.ensures.is

  loss-is : handed c.loss.result ≡ loss c.args.row.now (c.loop-s.s + 1)
  loss-is = back c.loss.result (record { sfits = c.loss.type_inv }) ∙ c.loss.ensures

  multiplied : Sized most_product (more c.loop-s.s) c.converted_product.result
  multiplied =
      record {
        is = c.converted_product.ensures.is ∙ ap₂ (λ (x y : ℤ). half_away_to (converted_at c.args.f.raised c.args.f.lowered (x *ℤ y)) c.args.unit) tick_is loss-is;
        size = c.converted_product.ensures.size;
      }

  room : nat_abs here ≤ (most_rows - 1) * most_product
  room = c.requires.1.1.1.size c.loop-s.s (omega arith)

  small : nat_abs (here +ℤ more c.loop-s.s) < 2 ^ 63
  small = omega (arith, abs_add here (more c.loop-s.s), room, ap nat_abs multiplied.is, multiplied.size)

pub converted_product-requires : goal.converted_product-requires
converted_product-requires c =
    let a = c.args in
    let s = c.loop-s.s in
    let tick = back c.per_tick-each.result (record { sfits = c.per_tick-each.type_inv }) in
    let loss = back c.loss.result (record { sfits = c.loss.type_inv }) in
    rw (tick, loss, c.loss.ensures) (
      c.per_tick-each.ensures.size,
      (
        c.requires.1.0.loss_within (s + 1) (omega arith) (omega arith),
        (
          c.requires.0,
          (
            c.requires.1.1.0.up_within,
            (
              c.requires.1.1.0.down_within,
              rw c.per_tick-each.ensures.is (c.requires.1.1.0.conversion_within (s + 1) (omega arith) (omega arith)),
            ),
          ),
        ),
      ),
    )

pub overflow_add-total : goal.overflow_add-total
overflow_add-total c =
    let at = (goal.at.overflow_add-total c).After-converted_product in
    put_fits ◌+ℤ◌ c.loop-s.s (more at) c.args.totals.now c.loop-s.totals c.loop-s.invariant c.converted_product.result (more at c.loop-s.s) c.converted_product.type_inv
    (multiplied at).is (omega (arith, room at)) (small at)

pub loop-s-preserved : goal.loop-s-preserved
loop-s-preserved c =
    let at = (goal.at.loop-s-preserved c).After-converted_product in
    put_next ◌+ℤ◌ c.loop-s.s (more at) c.args.totals.now c.loop-s.totals c.loop-s.invariant c.converted_product.result (more at c.loop-s.s) c.converted_product.type_inv
    (multiplied at).is (omega (arith, room at)) (small at) (omega (arith, c.requires.1.1.1.as_many)) refl

pub returns : goal.returns
returns c =
    subst (λ (n : ℕ). Added n (converted_products c.args.f.raised c.args.f.lowered c.args.unit c.args.row.now) c.args.totals.now c.loop-s.totals)
    (omega arith) c.loop-s.invariant
