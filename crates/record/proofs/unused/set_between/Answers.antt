use mathlib.Core.Path.{sym, ◌∙◌}
use Rattle.record.specs.Ranges.{not_zero}
use Rattle.record.proofs.Tests.{any_next, any_past}
use Rattle.record.proofs.unused.set_between.Goals as goal

pub loop-i-preserved : goal.loop-i-preserved
loop-i-preserved c =
    let l = c.loop-i in
    l.invariant ∙ any_next (not_zero c.args.r.now) c.args.end l.i l.set c.loop-i-test.true

pub returns : goal.returns
returns c =
    let l = c.loop-i in
    sym (l.invariant ∙ any_past (not_zero c.args.r.now) c.args.end l.i l.set c.loop-i-test.false)
