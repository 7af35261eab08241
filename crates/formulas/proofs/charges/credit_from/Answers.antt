-- The credit from an entry, from what the entry uses and its percent.
-- Assumes nothing.
use mathlib.Core.Path.{sym, ◌∙◌}
use native.Mathlib.Omega.{arith}
use Rattle.formulas.proofs.SumLaws.{nothing_used}
use Rattle.formulas.proofs.charges.credit_from.Goals as goal

pub returns-then-used-eq0 : goal.returns-then-used-eq0
returns-then-used-eq0 c = (
  nothing_used c.args.earner.unit c.args.earner.twice_price _ _ c.args.earner.net
      (sym c.entry_use-used.ensures ∙ c.if-used-eq0.true),
  omega arith,
)
