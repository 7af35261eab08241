-- `flat`: no rows come to nothing.
-- Assumes nothing.
use mathlib.Core.Path.{refl}
use Rattle.formulas.proofs.PositionLaws.{nothing}
use Rattle.formulas.proofs.rows.flat.Goals as goal

pub returns : goal.returns
returns c = λ rates unit prompts few. nothing rates unit prompts _ few refl refl refl
