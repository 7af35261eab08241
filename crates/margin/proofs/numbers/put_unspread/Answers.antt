use mathlib.Core.Path.{refl, ◌∙◌}
use mathlib.Core.List.{[], ◌∷◌}
use Prim.Native.Nat.{◌+◌, ◌*◌}
use native.Mathlib.Omega.{arith}
use lib.IntN.{pos}
use lib.ListN.{get_or}
use lib.Seq.{sets}
use Rattle.std.proofs.Common.{rules}
use Rattle.exact.proofs.Integers.{back}
use Rattle.margin.proofs.NumberLaws.{start, next, finish, rest_step, rest_none, rest_listed}
use Rattle.margin.proofs.numbers.put_unspread.Goals as goal

pub loop-i-init : goal.loop-i-init
loop-i-init c = (start _ _ 0 0 _ refl, refl)

pub put_three-requires : goal.put_three-requires
put_three-requires c =
    omega (arith, c.loop-i.invariant.1)

pub loop-i-preserved : goal.loop-i-preserved
loop-i-preserved c =
    let l = c.loop-i in
    let nets = c.args.nets.now in
    let net = back (get_or nets l.i (pos 0)) (search rules) in (
      next l.i (l.i * 3) ((l.i + 1) * 3) l.out c.put_three.new.out (get_or nets l.i (pos 0) ∷ pos 0 ∷ get_or nets l.i (pos 0) ∷ [])
          l.invariant.0 (omega arith) (rest_step c.args.prompts nets c.requires.1.0 l.i (omega arith))
          (c.put_three.ensures ∙ (λ j. sets l.out (l.i * 3) (net j ∷ pos 0 ∷ net j ∷ []))) (omega arith),
      c.out-1.given ∙ l.invariant.1,
    )

pub put-requires : goal.put-requires
put-requires c = let l = c.loop-i in (omega (arith, l.invariant.1), omega arith)

pub shape_of-out : goal.shape_of-out
shape_of-out c =
    c.out-2-1.given ∙ c.loop-i.invariant.1

pub returns : goal.returns
returns c =
    let l = c.loop-i in
    let n = c.args.prompts in
    let nets = c.args.nets.now in
    λ ps e.
    rest_listed n nets c.requires.1.0 ps e c.args.out.now l.out _
    (finish l.i (l.i * 3) l.out l.invariant.0 (omega arith) (rest_none n nets)) c.put.ensures
