use Rattle.std.proofs.Common.{refl, arith, ℕ, ◌^◌, ◌≤◌, ◌<◌, ℤ, pos, neg_ℤ, nat_abs, ◌-ℤ◌, get_or, SFits, w64}
use Rattle.exact.proofs.Integers.{sfits_abs, abs_sub}
use Rattle.formulas.specs.Bounds.{most_delta}
use Rattle.formulas.specs.code.Position.{deltas_in}
use Rattle.spread.specs.declared.Delta.{Delta}
use Rattle.spread.proofs.Lent.{map-set, delta_at_lem}
use Rattle.formulas.proofs.AddedLaws.{put_fits, put_next}
use Rattle.formulas.proofs.rows.nets_without.Goals as goal
use Rattle.formulas.proofs.rows.nets_without.Goals.{In-loop-j}

-- a total, and what is taken from it
module _ (c : In-loop-j) where
  abbrev here : ℤ
  here = get_or (deltas_in c.args.nets) c.loop-j.j (pos 0)

  abbrev gone : ℤ
  gone = get_or (deltas_in c.args.gone) c.loop-j.j (pos 0)

  here-most : nat_abs here ≤ most_delta
  here-most = c.requires.0.size c.loop-j.j (omega arith)

  gone-most : nat_abs gone ≤ most_delta
  gone-most = c.requires.1.size c.loop-j.j (omega arith)

  small : nat_abs (here -ℤ gone) < 2 ^ 63
  small = omega (arith, abs_sub here gone, here-most, gone-most)

  abbrev more : ℕ → ℤ
  more k = neg_ℤ (get_or (deltas_in c.args.gone) k (pos 0))

  gone-fits : SFits w64 gone
  gone-fits = sfits_abs gone (omega (arith, gone-most))

pub overflow_sub-nets : goal.overflow_sub-nets
overflow_sub-nets c =
    let at = (goal.at.overflow_sub-nets c).In-loop-j in
    rw (← delta_at_lem c.loop-j.nets c.loop-j.j, ← delta_at_lem c.args.gone c.loop-j.j)
    (put_fits ◌-ℤ◌ c.loop-j.j (more at) (deltas_in c.args.nets) (deltas_in c.loop-j.nets) c.loop-j.invariant (gone at) (gone at) (gone-fits at).sfits refl
    (omega (arith, here-most at)) (small at))

pub loop-j-preserved : goal.loop-j-preserved
loop-j-preserved c =
    let at = (goal.at.loop-j-preserved c).In-loop-j in
    rw (map-set (λ (d : Delta). d.0) c.loop-j.nets c.loop-j.j, ← delta_at_lem c.loop-j.nets c.loop-j.j, ← delta_at_lem c.args.gone c.loop-j.j)
    (put_next ◌-ℤ◌ c.loop-j.j (more at) (deltas_in c.args.nets) (deltas_in c.loop-j.nets) c.loop-j.invariant (gone at) (gone at) (gone-fits at).sfits refl
    (omega (arith, here-most at)) (small at) (omega (arith, c.requires.0.as_many)) refl)
