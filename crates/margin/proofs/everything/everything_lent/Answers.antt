-- What is answered goes by how many numbers are lent.
-- Assumes nothing.
use mathlib.Core.Path.{◌∙◌}
use native.Mathlib.Omega.{arith}
use Rattle.account.specs.Joined.{account_of}
use Rattle.margin.proofs.QuestionLaws.{figures-length}
use Rattle.margin.proofs.WalkedLaws.{answered_everything}
use Rattle.margin.proofs.everything.everything_lent.Goals as goal

pub returns : goal.returns
returns c =
    let a = account_of c.args.morning.now c.args.noon.now in
    answered_everything (c.record_total.ensures ∙ c.requires.places.all)
    (omega (arith, figures-length a, c.requires.places.contracts, c.figures_count.ensures)) c.lent_answers-answers.ensures
    c.lend_over.ensures
