use Rattle.std.proofs.Common.{refl, arith, ℕ, ◌*◌, ◌^◌, ◌≤◌, ◌<◌, ℤ, pos, neg_ℤ, nat_abs, ◌-ℤ◌, get_or, SFits, w64}
use Rattle.account.specs.Check.{most_rows}
use Rattle.exact.proofs.Integers.{sfits_abs, abs_sub}
use Rattle.formulas.specs.Bounds.{most_product}
use Rattle.formulas.proofs.AddedLaws.{put_next}
use Rattle.formulas.proofs.rows.totals_without.Goals as goal
use Rattle.formulas.proofs.rows.totals_without.Goals.{In-loop-s}

-- a total, and what is taken from it
module _ (c : In-loop-s) where
  abbrev here : ℤ
  here = get_or c.args.totals.0 c.loop-s.s (pos 0)

  abbrev gone : ℤ
  gone = get_or c.args.gone.0 c.loop-s.s (pos 0)

  here-most : nat_abs here ≤ most_rows * most_product
  here-most = c.requires.0.size c.loop-s.s (omega arith)

  gone-most : nat_abs gone ≤ most_rows * most_product
  gone-most = c.requires.1.size c.loop-s.s (omega arith)

  small : nat_abs (here -ℤ gone) < 2 ^ 63
  small = omega (arith, abs_sub here gone, here-most, gone-most)

  abbrev more : ℕ → ℤ
  more k = neg_ℤ (get_or c.args.gone.0 k (pos 0))

  gone-fits : SFits w64 gone
  gone-fits = sfits_abs gone (omega (arith, gone-most))

pub loop-s-preserved : goal.loop-s-preserved
loop-s-preserved c =
    let at = (goal.at.loop-s-preserved c).In-loop-s in
    put_next ◌-ℤ◌ c.loop-s.s (more at) c.args.totals.0 c.loop-s.totals.0 c.loop-s.invariant (gone at) (gone at) (gone-fits at).sfits refl
    (omega (arith, here-most at)) (small at) (omega (arith, c.requires.0.as_many)) refl
