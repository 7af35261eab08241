use native.Mathlib.Omega.{arith}
use Rattle.account.proofs.Runs.{days_start, days_end}
use Rattle.account.proofs.passing.days_of.Goals as goal

pub loop-j-init : goal.loop-j-init
loop-j-init c = days_start c.args.prompts.now

pub returns : goal.returns
returns c = days_end c.loop-j.invariant (omega arith)
