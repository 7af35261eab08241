-- Where too few numbers are lent the figures go to places of the function's own, and those lent stay as they are.
-- Assumes nothing.
use native.Mathlib.Omega.{arith}
use Rattle.account.specs.Joined.{account_of}
use Rattle.margin.proofs.QuestionLaws.{figures-length}
use Rattle.margin.proofs.WalkedLaws.{unlent_everything}
use Rattle.margin.proofs.everything.lend_over.Goals as goal

pub returns-else-figures_count-figures : goal.returns-else-figures_count-figures
returns-else-figures_count-figures c =
    unlent_everything
    (omega (
      arith,
      figures-length (account_of c.args.morning.now c.args.noon.now),
      c.requires.places.contracts,
      c.figures_count.ensures,
      c.if-figures_count-figures.false,
    ))
    c.put_over-else-figures_count-figures.ensures
