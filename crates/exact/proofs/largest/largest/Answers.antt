-- `largest`: one total more in front in each round.
use native.Mathlib.Omega.{arith}
use borrow.Author.Rules.{rules}
use Rattle.exact.proofs.Downward.{start, next}
use Rattle.exact.proofs.largest.largest.Goals as goal

pub loop-i-init : goal.loop-i-init
loop-i-init c = start c.args.totals _ (search rules) (search rules)

pub loop-i-preserved : goal.loop-i-preserved
loop-i-preserved c =
    let l = c.loop-i in
    next c.args.totals l.i l.best.value c.or_earlier-best.result.value l.best.number c.or_earlier-best.result.number
    (omega arith) l.invariant (search rules) (search rules)
