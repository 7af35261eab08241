-- Each turn is computed.
-- Assumes nothing.
use mathlib.Core.Path.{refl}
use Rattle.questions.specs.Turns.{Turns}

pub turns : Turns
turns =
    record {
      short-lots = refl;
      half_credit = refl;
      at_the_threshold = refl;
      above_the_threshold = refl;
      covered = refl;
      uncovered = refl;
    }
