use lib.ListN.{get_or-replicate}
use Rattle.std.proofs.Common.{◌≡◌, refl, ◌∙◌, ap, ap₂, arith, ℕ, ◌+◌, ◌-◌, ◌*◌, ◌^◌, ◌%◌, ◌≤◌, ◌<◌, ℤ, pos, nat_abs, ◌+ℤ◌, get_or}
use Rattle.std.proofs.Math.Nat.{mul-le-mul}
use Rattle.exact.proofs.Integers.{back, abs_add}
use Rattle.record.specs.Layout.{loss, scenario_count}
use Rattle.account.specs.Check.{most_rows}
use Rattle.account.specs.Products.{most_per_tick}
use Rattle.formulas.specs.code.Raised.{raised_loss, raised_products, most_raised, raised_by}
use Rattle.formulas.proofs.AddedLaws.{put_fits, put_next}
use Rattle.formulas.proofs.Calls.{handed}
use Rattle.formulas.proofs.RaisedLaws.{loss_most}
use Rattle.formulas.proofs.rows.add_raised.Goals as goal
use Rattle.formulas.proofs.rows.add_raised.Goals.{After-raised}

-- what is added: lots × value, its size, and the loss in the scenario
module _ (c : After-raised) where
  abbrev k : ℕ
  k = c.loop-s.s

  abbrev each : ℤ
  each = handed c.args.each

  abbrev more : ℕ → ℤ
  more = raised_products each c.args.row.now

  abbrev here : ℤ
  here = get_or c.args.sums.now k (pos 0)

  abbrev product : ℕ
  product = c.magnitude-size.result % 2 ^ 32 * c.raised.result

  each-most : nat_abs each ≤ most_per_tick
  each-most = omega (arith, ap nat_abs (back c.args.each c.ranges.each), c.requires.0)

  size_is : c.magnitude-size.result % 2 ^ 32 ≡ nat_abs each
  size_is = omega (arith, c.magnitude-size.ensures, each-most)

  loss-is : handed c.loss.result ≡ loss c.args.row.now (k + 1)
  loss-is = back c.loss.result (record { sfits = c.loss.type_inv }) ∙ c.loss.ensures

  product_is : product ≡ nat_abs each * raised_loss each c.args.row.now k
  product_is =
      ap₂ ◌*◌ size_is
      (c.raised.ensures each (get_or-replicate scenario_count k c.turn_of-turn.result 0 (omega arith) ∙ c.turn_of-turn.ensures) c.raise_of-raise.ensures
      ∙ ap (raised_by each) loss-is)

  product-most : product ≤ most_raised
  product-most = omega (arith, product_is, mul-le-mul each-most (loss_most each c.args.row.now k (omega arith) c.requires.1.0))

  room : nat_abs here ≤ (most_rows - 1) * most_raised
  room = c.requires.1.1.size k (omega arith)

  small : nat_abs (here +ℤ more k) < 2 ^ 63
  small = omega (arith, abs_add here (more k), room, product_is, product-most)

pub overflow_mul-sums : goal.overflow_mul-sums
overflow_mul-sums c = omega (arith, product-most c)

pub overflow_cast-sums : goal.overflow_cast-sums
overflow_cast-sums c = record { sfits = omega (arith, product-most (goal.at.overflow_cast-sums c).After-raised) }

pub overflow_add-sums : goal.overflow_add-sums
overflow_add-sums c =
    let at = (goal.at.overflow_add-sums c).After-raised in
    put_fits ◌+ℤ◌ (k at) (more at) c.args.sums.now c.loop-s.sums c.loop-s.invariant (pos (product at)) (more at (k at)) (omega (arith, product-most at))
    (ap pos (product_is at)) (omega (arith, room at)) (small at)

pub loop-s-preserved : goal.loop-s-preserved
loop-s-preserved c =
    let at = (goal.at.loop-s-preserved c).After-raised in
    put_next ◌+ℤ◌ (k at) (more at) c.args.sums.now c.loop-s.sums c.loop-s.invariant (pos (product at)) (more at (k at)) (omega (arith, product-most at))
    (ap pos (product_is at)) (omega (arith, room at)) (small at) (omega (arith, c.requires.1.1.as_many)) refl
