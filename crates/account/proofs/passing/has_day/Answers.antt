use mathlib.Core.Path.{sym, ◌∙◌}
use lib.Dec.{eqb}
use lib.ListN.{get_or}
use native.Mathlib.Omega.{arith}
use Rattle.record.proofs.Tests.{any_next, any_past}
use Rattle.account.specs.Check.{most_prompts}
use Rattle.account.proofs.passing.has_day.Goals as goal

pub loop-day-preserved : goal.loop-day-preserved
loop-day-preserved c =
    let l = c.loop-day in
    l.invariant ∙ any_next (λ i. eqb (get_or c.args.days.now i 0) c.args.d) most_prompts l.day-index l.found (omega arith)

pub returns : goal.returns
returns c =
    let l = c.loop-day in
    sym (l.invariant ∙ any_past (λ i. eqb (get_or c.args.days.now i 0) c.args.d) most_prompts l.day-index l.found (omega arith))
