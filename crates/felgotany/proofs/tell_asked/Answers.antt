-- What a ticket is told, as numbers.
-- Assumes nothing.
use mathlib.Core.Path.{refl}
use Rattle.felgotany.proofs.tell_asked.Goals as goal

pub returns : goal.returns
returns c =
    let t = c.tell-told.ensures in
    record { ticket_is = refl; refusal = t.refusal; record_named = t.record_named; before_is = refl; after_is = refl }
