use mathlib.Core.Path.{◌≡◌, refl, ◌∙◌, sym, ap, ap₂}
use mathlib.Core.List.{[], ◌∷◌}
use Prim.Native.Nat.{ℕ, ◌+◌}
use native.Mathlib.Nat.{add-zero}
use native.Mathlib.Omega.{arith}
use native.Mathlib.Numerals.{add-one}
use borrow.Author.Rules.{rules}
use lib.IntN.{ℤ, pos}
use lib.ListN.{length, length-map, set, length-set}
use lib.Seq.{slice, slice-cons, slice_empty}
use Rattle.spread.specs.Accepted.{prompt_places}
use Rattle.exact.proofs.Integers.{back}
use Rattle.formulas.specs.code.Sums.{delta_in, deltas_in}
use Rattle.spread.proofs.Lent.{delta_at_lem}
use Rattle.margin.proofs.NumberLaws.{start, next, finish}
use Rattle.margin.proofs.uses.put_deltas.Goals as goal

pub loop-i-init : goal.loop-i-init
loop-i-init c = (start _ _ c.args.at (c.args.at + 0) _ (add-zero c.args.at), refl)

pub loop-i-preserved : goal.loop-i-preserved
loop-i-preserved c =
    let l = c.loop-i in
    let deltas = c.args.deltas in
    let long : length deltas ≡ prompt_places = search rules in
    let there : length (deltas_in deltas) ≡ length deltas = length-map deltas _ in
    let here : ℤ = delta_in deltas l.i in (
      next l.i (c.args.at + l.i) (c.args.at + (l.i + 1)) l.out _ (here ∷ [])
          l.invariant.0 (omega arith)
          (slice-cons l.i c.args.count (deltas_in deltas) (pos 0) (omega arith) (omega arith)
          ∙ ap₂ (λ (z : ℤ) (k : ℕ). z ∷ slice k c.args.count (deltas_in deltas)) (delta_at_lem deltas l.i) (sym (add-one l.i)))
          (ap (λ (z : ℤ). set l.out (c.args.at + l.i) z) (back here (search rules))) (omega arith),
      simp length-set l.invariant.1,
    )

pub shape_of-out : goal.shape_of-out
shape_of-out c = c.loop-i.invariant.1

pub returns : goal.returns
returns c =
    let l = c.loop-i in
    finish l.i (c.args.at + l.i) l.out l.invariant.0 (omega arith) (slice_empty c.args.count (deltas_in c.args.deltas))
