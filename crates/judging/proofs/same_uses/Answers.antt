use mathlib.Core.Bool.{Bool, true, false, ◌&&◌}
use mathlib.Core.Path.{◌≡◌, refl, sym, ap, ◌∙◌}
use Prim.Native.Nat.{ℕ, suc, ◌≤◌}
use native.Mathlib.Numerals.{add-one}
use native.Mathlib.Omega.{arith}
use lib.IntN.{pos}
use lib.ListN.{length, get_or, take, drop}
use borrow.Author.Rules.{rules}
use Rattle.spread.proofs.Gathering.{no_delta}
use Rattle.judging.specs.Judged.{level, alike}
use Rattle.spread.specs.code.Lent.{deltas_in}
use Rattle.judging.proofs.Comparing.{uses_at, uses_end}
use Rattle.judging.proofs.same_uses.Goals as goal

pub loop-k-init : goal.loop-k-init
loop-k-init c = refl

pub returns-then-not-same_use : goal.returns-then-not-same_use
returns-then-not-same_use c =
    let l = c.loop-k in
    let us = c.args.uses.now in
    let ds = c.args.taken in
    let e : level (get_or us l.k (pos 0)) (get_or ds l.k no_delta).0 ≡ false = search rules in
    let few : length us ≤ length ds = omega arith in
    sym
    (sym l.invariant ∙ uses_at us ds few l.k c.loop-k-test.true
    ∙ ap (λ (b : Bool). b && alike (drop (suc l.k) us) (drop (suc l.k) (take (length us) (deltas_in ds)))) e)

pub loop-k-preserved : goal.loop-k-preserved
loop-k-preserved c =
    let l = c.loop-k in
    let us = c.args.uses.now in
    let ds = c.args.taken in
    let e : level (get_or us l.k (pos 0)) (get_or ds l.k no_delta).0 ≡ true = search rules in
    let few : length us ≤ length ds = omega arith in
    ap (λ (k : ℕ). alike (drop k us) (drop k (take (length us) (deltas_in ds)))) (add-one l.k)
    ∙ sym
    (sym l.invariant ∙ uses_at us ds few l.k c.loop-k-test.true
    ∙ ap (λ (b : Bool). b && alike (drop (suc l.k) us) (drop (suc l.k) (take (length us) (deltas_in ds)))) e)

pub returns : goal.returns
returns c =
    let l = c.loop-k in
    let few : length c.args.uses.now ≤ length c.args.taken = omega arith in
    sym (sym l.invariant ∙ uses_end c.args.uses.now c.args.taken few l.k (omega arith))
