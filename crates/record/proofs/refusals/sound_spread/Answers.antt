-- `sound_spread`: by the way that the tests went.
use borrow.Author.Rules.{rules}
use Rattle.record.proofs.refusals.sound_spread.Goals as goal
use Rattle.record.proofs.refusals.sound_spread.Goals.{then-r-ge-RECORD_BYTES, else-r-ge-RECORD_BYTES, then-is_of, else-is_of}

pub returns-then-not-beside_spread : goal.returns-then-not-beside_spread
returns-then-not-beside_spread c =
    elim c.if-is_of.branch [
      | then-is_of w ↦ elim c.if-r-ge-RECORD_BYTES.branch [ then-r-ge-RECORD_BYTES v ↦ search rules | else-r-ge-RECORD_BYTES v ↦ search rules ]
      | else-is_of w ↦ search rules
    ]

pub returns-else-not-beside_spread : goal.returns-else-not-beside_spread
returns-else-not-beside_spread c =
    elim c.if-is_of.branch [
      | then-is_of w ↦ elim c.if-r-ge-RECORD_BYTES.branch [ then-r-ge-RECORD_BYTES v ↦ search rules | else-r-ge-RECORD_BYTES v ↦ search rules ]
      | else-is_of w ↦ elim c.if-r-ge-RECORD_BYTES.branch [ then-r-ge-RECORD_BYTES v ↦ search rules | else-r-ge-RECORD_BYTES v ↦ search rules ]
    ]
