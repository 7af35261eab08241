-- `unused_byte`: the zeros after a shorter record change nothing.
use mathlib.Core.Path.{◌∙◌}
use Rattle.record.proofs.Padding.{same_unused}
use Rattle.record.proofs.refusals.unused_byte.Goals as goal

pub returns-else-r-ge-RECORD_BYTES : goal.returns-else-r-ge-RECORD_BYTES
returns-else-r-ge-RECORD_BYTES c = c.whole_unused_byte-else-r-ge-RECORD_BYTES.ensures ∙ same_unused c.padded.result c.args.r.now c.padded.ensures.1
