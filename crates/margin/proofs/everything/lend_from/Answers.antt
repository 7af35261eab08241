-- Where too few numbers are lent the figures go to places of the function's own, and those lent stay as they are.
-- Assumes nothing.
use mathlib.Core.Path.{ap}
use native.Mathlib.Omega.{arith}
use lib.ListN.{length}
use Rattle.account.specs.code.Lent.{account_in}
use Rattle.margin.proofs.QuestionLaws.{figures-length}
use Rattle.margin.proofs.StandLaws.{few_contracts}
use Rattle.margin.proofs.WalkedLaws.{unlent_everything}
use Rattle.margin.proofs.everything.lend_from.Goals as goal

pub put_from-requires : goal.put_from-requires
put_from-requires c =
    (c.requires.0, (c.requires.1, omega (arith, c.figures_count.ensures, c.if-figures_count-figures.true)))

pub put_from-requires-else-figures_count-figures : goal.put_from-requires-else-figures_count-figures
put_from-requires-else-figures_count-figures c =
    let few = few_contracts c.args.morning.now c.args.noon.now (account_in c.args.account.now) c.requires.0 in
    (c.requires.0, (c.requires.1, omega (arith, few)))

pub returns-else-figures_count-figures : goal.returns-else-figures_count-figures
returns-else-figures_count-figures c =
    λ whole t.
    unlent_everything
    (omega (
      arith,
      figures-length whole,
      ap length t.beside.contracts,
      c.requires.0.places.contracts,
      c.figures_count.ensures,
      c.if-figures_count-figures.false,
    ))
    (c.put_from-else-figures_count-figures.ensures whole t)
