-- `whole_field_outside`: a row's fields are those before its losses, and its losses.
use mathlib.Core.Path.{sym, ap, ◌∙◌}
use mathlib.Core.List.{List}
use mathlib.Core.Bool.{or-false}
use Rattle.record.specs.Bytes.{Field}
use Rattle.record.specs.Layout.{row_head}
use Rattle.record.specs.Ranges.{outside_among}
use Rattle.record.proofs.Dispatch.{row_fields-outside, of_row}
use Rattle.record.proofs.refusals.whole_field_outside.Goals as goal

pub returns-in-3 : goal.returns-in-3
returns-in-3 c =
    let r = c.args.r.now in
    row_fields-outside r (c.row_head_outside.ensures ∙ or-false (outside_among (row_head r) r)) c.losses_beyond.ensures
    ∙ ap (λ (fs : List Field). outside_among fs r) (sym (of_row r (sym c.byte_in.ensures.0 ∙ c.in-3.is)))
