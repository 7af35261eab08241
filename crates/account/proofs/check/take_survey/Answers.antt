-- A refused file has nothing to hand out; of an accepted one the notes are handed out.
-- Assumes nothing.
use Rattle.std.specs.Prelude.{Err}
use mathlib.Core.Path.{refl, sym}
use Rattle.account.proofs.AcceptedOnly.{refused_some}
use Rattle.account.proofs.Going.{nothing}
use Rattle.account.proofs.check.take_survey.Goals as goal

pub returns : goal.returns
returns c = c.in-Ok.ensures.accepted refl

pub returns-in-Err : goal.returns-in-Err
returns-in-Err c =
    nothing c.args.file.now (Err c.in-Err.refusal) c.refused.result (sym c.in-Err.ensures) (refused_some refl) c.refused.ensures
