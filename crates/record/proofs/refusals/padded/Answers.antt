-- `padded`: the record's bytes, and what is left of the zeros.
use Rattle.record.proofs.Padding.{padded_is}
use Rattle.record.proofs.refusals.padded.Goals as goal

pub returns : goal.returns
returns c = padded_is c.args.r.now c.requires c.copy_from_slice.new.self c.copy_from_slice.ensures.after
