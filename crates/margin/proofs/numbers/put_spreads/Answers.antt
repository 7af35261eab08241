use mathlib.Core.Path.{refl, ◌∙◌}
use mathlib.Core.List.{[], ◌∷◌}
use Prim.Native.Nat.{◌+◌, ◌*◌}
use native.Mathlib.Omega.{arith}
use lib.IntN.{pos}
use lib.ListN.{get_or}
use Rattle.margin.proofs.NumberLaws.{start, next, finish, twos_step, twos_none}
use Rattle.margin.proofs.numbers.put_spreads.Goals as goal

pub loop-i-init : goal.loop-i-init
loop-i-init c = (start _ _ c.args.at (c.args.at + 0) _ (omega arith), refl)

pub put_two-requires : goal.put_two-requires
put_two-requires c =
    let l = c.loop-i in
    let i = l.i in
    (omega (arith, l.invariant.1), (c.requires.1.first_within i (omega arith), c.requires.1.second_within i (omega arith)))

pub loop-i-preserved : goal.loop-i-preserved
loop-i-preserved c =
    let l = c.loop-i in
    let first = c.args.first.now in
    let second = c.args.second.now in (
      next l.i (c.args.at + l.i * 2) (c.args.at + (l.i + 1) * 2) l.out c.put_two.new.out
          (pos (get_or first l.i 0) ∷ pos (get_or second l.i 0) ∷ [])
          l.invariant.0 (omega arith)
          (twos_step c.args.spreads first second c.requires.1.firsts_there c.requires.1.seconds_there l.i (omega arith))
          c.put_two.ensures (omega arith),
      c.out-1.given ∙ l.invariant.1,
    )

pub shape_of-out : goal.shape_of-out
shape_of-out c = c.loop-i.invariant.1

pub returns : goal.returns
returns c =
    let l = c.loop-i in
    finish l.i (c.args.at + l.i * 2) l.out l.invariant.0 (omega arith) (twos_none c.args.spreads c.args.first.now c.args.second.now)
