use mathlib.Core.Path.{ap, ◌∙◌}
use Rattle.record.specs.Layout.{tier}
use Rattle.account.proofs.Runs.{tiers_start, tiers_next}
use Rattle.account.proofs.passing.tiers_of.Goals as goal

pub loop-j-init : goal.loop-j-init
loop-j-init c = tiers_start c.args.prompts.now

pub loop-j-preserved : goal.loop-j-preserved
loop-j-preserved c =
    tiers_next c.loop-j.invariant c.tier.result (c.tier.ensures.0 ∙ ap tier c.whole_at.ensures) c.tier.ensures.1
