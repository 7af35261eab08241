-- What is answered goes by how many numbers are lent.
-- Assumes nothing.
use mathlib.Core.Path.{ap}
use native.Mathlib.Omega.{arith}
use lib.ListN.{length}
use Rattle.margin.proofs.QuestionLaws.{figures-length}
use Rattle.margin.proofs.WalkedLaws.{answered_everything}
use Rattle.margin.proofs.everything.everything_lent_from.Goals as goal

pub returns : goal.returns
returns c =
    λ whole t.
    answered_everything t.positions.records_are
    (omega (arith, figures-length whole, ap length t.beside.contracts, c.requires.0.places.contracts, c.figures_count.ensures))
    c.lent_answers-answers.ensures (c.lend_from.ensures whole t)
