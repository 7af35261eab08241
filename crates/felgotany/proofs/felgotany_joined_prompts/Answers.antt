-- The place, told to C.
-- Assumes nothing.
use mathlib.Core.Path.{refl, subst}
use Rattle.account.specs.declared.noon.Place.{Place}
use Rattle.felgotany.specs.code.Outcomes.{TellsPlace}
use Rattle.felgotany.proofs.felgotany_joined_prompts.Goals as goal

pub returns : goal.returns
returns c =
    let p = c.prompt_place-place in
    subst (λ (q : Place). TellsPlace q (record { file = p.result.file; first = p.result.first; records = p.result.records })) p.ensures
    (record { file_is = refl; first_is = refl; records_are = refl })
