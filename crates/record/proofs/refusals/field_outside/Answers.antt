-- `field_outside`: the zeros after a shorter record change nothing.
use mathlib.Core.Path.{◌∙◌}
use Rattle.record.proofs.Padding.{same_outside}
use Rattle.record.proofs.refusals.field_outside.Goals as goal

pub returns-else-r-ge-RECORD_BYTES : goal.returns-else-r-ge-RECORD_BYTES
returns-else-r-ge-RECORD_BYTES c = c.whole_field_outside-else-r-ge-RECORD_BYTES.ensures ∙ same_outside c.padded.result c.args.r.now c.padded.ensures.1
