use native.Mathlib.Omega.{arith}
use mathlib.Core.Path.{◌≡◌, refl, sym, ap, ap₂, ◌∙◌}
use mathlib.Core.List.{List, ◌++◌, map}
use Prim.Native.Nat.{ℕ, suc, ◌+◌, zero-le}
use lib.IntN.{ℤ, pos}
use mir.Syntax.{w64}
use mir.Val.{to_z}
use borrow.Author.Rules.{rules}
use lib.ListN.{length, length-map, length-set, get_or, set, drop, get_or-map}
use lib.Seq.{paste, paste-suc, take_all}
use Rattle.std.proofs.lemmas.Int.{to_z_pos}
use Rattle.committee.specs.code.Sums.{sums_numbers}
use Rattle.committee.proofs.SumLaws.{numbers-length, number_fits}
use Rattle.committee.proofs.sums.put_sums.Goals as goal

pub loop-k-init : goal.loop-k-init
loop-k-init c = (refl, (zero-le, refl))

pub offset_bounds-out-k : goal.offset_bounds-out-k
offset_bounds-out-k c =
    let h = c.loop-k.invariant.1.1 in
    let t = c.loop-k-test.true in
    let p = c.requires.1 in
    search (rules, h, t, p)

pub bounds-out-k : goal.bounds-out-k
bounds-out-k c =
    let h = c.loop-k.invariant.1.1 in
    let t = c.loop-k-test.true in
    let p = c.requires.1 in
    omega (arith, h, t, p)

pub overflow_cast-out : goal.overflow_cast-out
overflow_cast-out c =
    let h = number_fits c.args.sums c.requires.0 c.loop-k.k in
    omega (arith, c.number_at.ensures, h)

pub loop-k-preserved : goal.loop-k-preserved
loop-k-preserved c =
    let l = c.loop-k in
    let t = c.loop-k-test.true in
    let h = l.invariant.1.1 in
    let p = c.requires.1 in
    let numbers = sums_numbers c.args.sums in
    let long : length c.args.sums.refusals ≡ 15 = search rules in
    let all = length-map numbers pos ∙ numbers-length c.args.sums long in
    let front : 0 + l.k ≡ l.k = omega arith in
    let more : suc l.k ≡ l.k + 1 = omega arith in
    let small = number_fits c.args.sums c.requires.0 l.k in
    let signed : to_z w64 c.number_at.result ≡ pos c.number_at.result = to_z_pos w64 c.number_at.result (omega (arith, c.number_at.ensures, small)) in
    let written : to_z w64 c.number_at.result ≡ get_or (map pos numbers) l.k (pos 0) =
    signed
    ∙ ap pos c.number_at.ensures
    ∙ sym (get_or-map pos numbers l.k 0)
    in (
      ap₂ (λ (xs : List ℤ) (z : ℤ). set xs l.k z) l.invariant.0 written
          ∙ ap (λ (j : ℕ). set (paste c.args.out.now 0 (map pos numbers) l.k) j (get_or (map pos numbers) l.k (pos 0))) (sym front)
          ∙ paste-suc c.args.out.now 0 (map pos numbers) l.k (pos 0) (omega (arith, h, t, p, front)) (omega (arith, all, t))
          ∙ ap (paste c.args.out.now 0 (map pos numbers)) more,
      (omega (arith, t), length-set l.out l.k _ ∙ h),
    )

pub shape_of-out : goal.shape_of-out
shape_of-out c = c.loop-k.invariant.1.1

pub returns : goal.returns
returns c =
    let l = c.loop-k in
    let t = c.loop-k-test.false in
    let w = l.invariant.1.0 in
    let e : l.k ≡ 24 = omega (arith, t, w) in
    let numbers = sums_numbers c.args.sums in
    let long : length c.args.sums.refusals ≡ 15 = search rules in
    let all = length-map numbers pos ∙ numbers-length c.args.sums long in
    l.invariant.0
    ∙ ap (paste c.args.out.now 0 (map pos numbers)) e
    ∙ ap (λ (xs : List ℤ). xs ++ drop 24 c.args.out.now) (take_all 24 (map pos numbers) (omega (arith, all)))
