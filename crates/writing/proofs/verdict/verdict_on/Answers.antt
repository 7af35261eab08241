-- What the check says, at the entry's place.
-- Assumes nothing.
use mathlib.Core.Path.{ap, ◌∙◌}
use Rattle.account.specs.Answers.{Answer}
use Rattle.writing.specs.Written.{as_entered}
use Rattle.writing.proofs.Placed.{same_places}
use Rattle.writing.proofs.verdict.verdict_on.Goals as goal

pub check_written-requires : goal.check_written-requires
check_written-requires c = c.requires

pub returns : goal.returns
returns c =
    c.as_entered.ensures ∙ ap (λ (a : Answer). as_entered c.args.order.now a) c.check_written.ensures
    ∙ same_places c.args.entries.now c.args.order.now c.requires.0
