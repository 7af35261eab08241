use mathlib.Core.Path.{◌≡◌, refl, sym, ap, ◌∙◌}
use Prim.Native.Nat.{ℕ}
use native.Mathlib.Omega.{arith}
use native.Mathlib.Numerals.{add-one}
use lib.ListN.{take}
use Rattle.exact.specs.Lists.{sum}
use Rattle.tickets.proofs.Counting.{next_sum}
use Rattle.tickets.proofs.counts.sum_of.Goals as goal

pub loop-i-init : goal.loop-i-init
loop-i-init c = (refl, omega arith)

pub overflow_add-total : goal.overflow_add-total
overflow_add-total c =
    let l = c.loop-i in
    omega (
      arith,
      c.number_at-total.ensures,
      c.requires.1
          l.i,
      l.invariant.1,
      c.requires.0,
    )

pub loop-i-preserved : goal.loop-i-preserved
loop-i-preserved c =
    let l = c.loop-i in
    let xs = c.args.numbers.now in
    let e = c.number_at-total.ensures in (
      omega (arith, e, l.invariant.0, next_sum xs l.i) ∙ ap (λ (m : ℕ). sum (take m xs)) (sym (add-one l.i)),
      omega (arith, e, c.requires.1 l.i, l.invariant.1),
    )

pub returns : goal.returns
returns c =
    let l = c.loop-i in
    let e : l.i ≡ c.args.n = omega (arith, c.loop-i-test.false) in
    l.invariant.0 ∙ ap (λ (m : ℕ). sum (take m c.args.numbers.now)) e
