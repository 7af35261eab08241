use mathlib.Core.Path.{◌≡◌, sym, ap}
use Prim.Native.Nat.{ℕ, suc, ◌+◌}
use native.Mathlib.Omega.{arith}
use borrow.Author.Tests.{ne_eqb}
use lib.ListN.{drop, drop_of_length-le}
use Rattle.exact.specs.Lists.{sum}
use Rattle.runs.proofs.RunLaws.{sum_next, left_over_lem}
use Rattle.runs.proofs.add_up.Goals as goal

pub returns-then-left-n : goal.returns-then-left-n
returns-then-left-n c =
    let s = c.args in
    let l = c.loop-n in
    let e = l.invariant in
    let n = sum_next s.lengths.now l.n-index c.loop-n-test.true in
    let m = c.if-left-n.true in
    sym (ne_eqb (sum s.lengths.now) s.whole (λ f. omega (arith, e, n, m, f)))

pub loop-n-preserved : goal.loop-n-preserved
loop-n-preserved c =
    let s = c.args in
    let l = c.loop-n in
    let t = c.loop-n-test.true in
    let e = l.invariant in
    let n = sum_next s.lengths.now l.n-index t in
    let m = c.if-left-n.false in
    let more : l.n-index + 1 ≡ suc l.n-index = omega arith in
    let next = ap (λ (i : ℕ). sum (drop i s.lengths.now)) more in
    omega (arith, e, n, m, next)

pub returns : goal.returns
returns c =
    let s = c.args in
    let l = c.loop-n in
    let e = l.invariant in
    let none = ap sum (drop_of_length-le s.lengths.now {i = l.n-index} (let t = c.loop-n-test.false in omega (arith, t))) in
    left_over_lem (sum s.lengths.now) l.left s.whole (omega (arith, e, none))
