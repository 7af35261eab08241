-- The length is too long, or no multiple of a record's, or neither.
-- Assumes nothing.
use Prim.Native.Nat.{◌%◌}
use mathlib.Core.Path.{ap}
use mathlib.Core.Bool.{not}
use lib.ListN.{length}
use borrow.Author.Tests.{lt-ltb, le-ltb, eq-eqb, ne_eqb}
use Rattle.record.specs.Bytes.{record_bytes}
use Rattle.account.proofs.Verdict.{length_long, length-cut-short, length_whole}
use Rattle.account.proofs.check.length_answer.Goals as goal

pub returns-then-file-gt-MOST_BYTES : goal.returns-then-file-gt-MOST_BYTES
returns-then-file-gt-MOST_BYTES c =
    let file = c.args.file.now in
    length_long file (lt-ltb 61440 (length file) c.if-file-gt-MOST_BYTES.true)

pub returns-then-file-ne0 : goal.returns-then-file-ne0
returns-then-file-ne0 c =
    let file = c.args.file.now in
    length-cut-short file (le-ltb 61440 (length file) c.if-file-gt-MOST_BYTES.false) (ap not (ne_eqb (length file % record_bytes) 0 c.if-file-ne0.true))

pub returns : goal.returns
returns c =
    let file = c.args.file.now in
    length_whole file (le-ltb 61440 (length file) c.if-file-gt-MOST_BYTES.false) (ap not (eq-eqb (length file % record_bytes) 0 c.if-file-ne0.false))
