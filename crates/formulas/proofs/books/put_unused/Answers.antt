use mathlib.Core.Path.{sym, ◌∙◌}
use native.Mathlib.Omega.{arith}
use lib.IntN.{pos}
use lib.ListN.{get_or}
use Rattle.exact.proofs.Integers.{back}
use Rattle.formulas.proofs.LentLaws.{start, next, finish}
use Rattle.formulas.proofs.books.put_unused.Goals as goal

pub loop-i-init : goal.loop-i-init
loop-i-init c = start (pos 0) c.args.nets.now _ (c.requires.1 ∙ sym c.requires.0)

pub bounds-nets-i : goal.bounds-nets-i
bounds-nets-i c = omega (arith, c.requires.0)

pub loop-i-preserved : goal.loop-i-preserved
loop-i-preserved c =
    let l = c.loop-i in
    let nets = c.args.nets.now in
    next (pos 0) nets l.i l.unused _ l.invariant (omega (arith, c.requires.0)) (back (get_or nets l.i (pos 0)) (record { sfits = c.net-1.given }))

pub returns : goal.returns
returns c =
    let l = c.loop-i in
    finish (pos 0) c.args.nets.now l.i l.unused l.invariant (omega (arith, c.requires.0))
