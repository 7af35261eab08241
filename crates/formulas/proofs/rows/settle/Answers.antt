use Rattle.std.proofs.Common.{refl, subst, ap, arith, ℕ, ◌*◌, ◌^◌, ◌≤◌, ◌<◌, ℤ, pos, nat_abs, ◌+ℤ◌, ◌-ℤ◌, get_or}
use Rattle.exact.specs.Signed.{Sized}
use Rattle.exact.proofs.Integers.{back, sfits_abs, abs_add}
use Rattle.record.specs.Layout.{hundred_thousand}
use Rattle.account.specs.Check.{most_rows}
use Rattle.formulas.specs.Bounds.{most_product}
use Rattle.formulas.specs.code.Position.{Added}
use Rattle.formulas.specs.code.Raised.{unraised_at, most_raised}
use Rattle.formulas.proofs.AddedLaws.{put_next}
use Rattle.formulas.proofs.RaisedLaws.{settled_is}
use Rattle.formulas.proofs.rows.settle.Goals as goal
use Rattle.formulas.proofs.rows.settle.Goals.{After-unraised}

-- what is added
module _ (c : After-unraised) where
  abbrev here : ℤ
  here = get_or c.args.totals.now c.loop-s.s (pos 0)

  abbrev more : ℕ → ℤ
  more = unraised_at c.args.sums.now c.args.sizes

  room : nat_abs here ≤ most_rows * most_product
  room = c.requires.totals_most.size c.loop-s.s (omega arith)

  more_is : Sized (2 * (most_rows * most_raised)) (more c.loop-s.s) c.unraised.result
  more_is =
      let sum = get_or c.args.sums.now c.loop-s.s (pos 0) in
      let most : nat_abs sum ≤ most_rows * most_raised = c.requires.sums_most.size c.loop-s.s (omega arith) in
      subst (λ (z : ℤ). Sized (2 * (most_rows * most_raised)) (z -ℤ pos (c.args.sizes * hundred_thousand)) c.unraised.result)
      (back sum (sfits_abs sum (omega arith))) c.unraised.ensures

  small : nat_abs (here +ℤ more c.loop-s.s) < 2 ^ 63
  small = omega (arith, abs_add here (more c.loop-s.s), room, ap nat_abs more_is.is, more_is.size)

pub loop-s-preserved : goal.loop-s-preserved
loop-s-preserved c =
    let at = (goal.at.loop-s-preserved c).After-unraised in
    put_next ◌+ℤ◌ c.loop-s.s (more at) c.args.totals.now c.loop-s.totals c.loop-s.invariant c.unraised.result (more at c.loop-s.s) c.unraised.type_inv
    (more_is at).is (omega (arith, room at)) (small at) (omega (arith, c.requires.totals_most.as_many)) refl

pub returns : goal.returns
returns c =
    let l = c.loop-s in
    settled_is c.args.totals.now c.args.sums.now c.args.sizes c.requires.totals_most.as_many l.totals
    (subst (λ (n : ℕ). Added n (unraised_at c.args.sums.now c.args.sizes) c.args.totals.now l.totals) (omega arith) l.invariant)
