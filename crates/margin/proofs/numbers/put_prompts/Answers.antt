use mathlib.Core.Path.{refl, ◌∙◌}
use mathlib.Core.List.{[], ◌∷◌}
use Prim.Native.Nat.{◌+◌, ◌*◌}
use native.Mathlib.Omega.{arith}
use lib.IntN.{pos}
use lib.ListN.{get_or}
use lib.Seq.{sets}
use Rattle.std.proofs.Common.{rules}
use Rattle.exact.proofs.Integers.{back}
use Rattle.margin.proofs.NumberLaws.{start, next, finish, threes_step, threes-none}
use Rattle.margin.proofs.numbers.put_prompts.Goals as goal

pub loop-i-init : goal.loop-i-init
loop-i-init c = (start _ _ 0 0 _ refl, refl)

pub put_three-requires : goal.put_three-requires
put_three-requires c =
    omega (arith, c.loop-i.invariant.1)

pub loop-i-preserved : goal.loop-i-preserved
loop-i-preserved c =
    let l = c.loop-i in
    let nets = c.args.nets.now in
    let used = c.args.used.now in
    let unused = c.args.unused.now in
    let net = back (get_or nets l.i (pos 0)) (search rules) in
    let taken = back (get_or used l.i (pos 0)) (search rules) in
    let left = back (get_or unused l.i (pos 0)) (search rules) in (
      next l.i (l.i * 3) ((l.i + 1) * 3) l.out c.put_three.new.out
          (get_or nets l.i (pos 0) ∷ get_or used l.i (pos 0) ∷ get_or unused l.i (pos 0) ∷ [])
          l.invariant.0 (omega arith)
          (threes_step c.args.prompts nets used unused c.requires.0.nets_there c.requires.0.used_there c.requires.0.unused_there l.i (omega arith))
          (c.put_three.ensures ∙ (λ j. sets l.out (l.i * 3) (net j ∷ taken j ∷ left j ∷ []))) (omega arith),
      c.out-1.given ∙ l.invariant.1,
    )

pub shape_of-out : goal.shape_of-out
shape_of-out c = c.loop-i.invariant.1

pub returns : goal.returns
returns c =
    let l = c.loop-i in
    finish l.i (l.i * 3) l.out l.invariant.0 (omega arith)
    (threes-none c.args.prompts c.args.nets.now c.args.used.now c.args.unused.now)
