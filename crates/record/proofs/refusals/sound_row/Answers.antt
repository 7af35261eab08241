-- `record::refusals::sound_row` meets its contract. Assumes nothing.
use mathlib.Core.Bool.{Bool, not, ◌&&◌, ◌||◌}
use mathlib.Core.Path.{refl, ap, ◌∙◌}
use lib.Dec.{eqb}
use lib.ListN.{length}
use borrow.Author.Tests.{le-leb}
use Rattle.record.specs.Bytes.{record_bytes}
use Rattle.record.specs.Layout.{row_head, row_fields, currency}
use Rattle.record.specs.Ranges.{outside_among}
use Rattle.record.proofs.Dispatch.{of_row, row_fields-outside}
use Rattle.record.proofs.Sound.{but_for, sound-whole}
use Rattle.record.proofs.refusals.sound_row.Goals as goal

pub returns : goal.returns
returns c =
    let r = c.args.r.now in
    let let-in = c.args.other || eqb (currency r) 0 in
    ap (λ (h : Bool). c.is_of.result && not ((c.beside_row.result || h) || c.losses_beyond.result))
    c.row_head_outside.ensures
    ∙ but_for c.is_of.result c.beside_row.result (outside_among (row_head r) r) c.losses_beyond.result let-in
    ∙ ap (λ (b : Bool). b && let-in)
    (sound-whole 3 c.args.c r (row_fields r) (of_row r) (le-leb record_bytes (length r) c.if-r-lt-RECORD_BYTES.false)
    c.is_of.ensures c.beside_row.ensures (row_fields-outside r refl c.losses_beyond.ensures))
