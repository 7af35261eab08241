-- Four tests in turn; where 6 is not given the contract is one of the sixteen.
-- Assumes nothing.
use mathlib.Core.Path.{sym, ◌∙◌}
use mathlib.Core.Bool.{◌||◌}
use lib.Dec.{leb}
use Rattle.record.specs.Layout.{contract, day}
use Rattle.record.specs.Ranges.{unused_byte, field_outside}
use Rattle.record.proofs.Within.{contract_known}
use Rattle.account.specs.code.Notes.{no_contract, no_day}
use Rattle.account.specs.Parts.{prompts_of}
use Rattle.account.specs.Joined.{account_of}
use Rattle.account.specs.Check.{most_rows}
use Rattle.tickets.proofs.Inserted.{row_known}
use Rattle.tickets.proofs.Counting.{four_5, four_6, four_7}
use Rattle.tickets.proofs.counts.row_fault.Goals as goal

pub returns-then-unused_byte : goal.returns-then-unused_byte
returns-then-unused_byte c =
    let args = c.args in
    let r = args.row.now in
    let m = no_contract args.account.counts (contract r) || no_day (prompts_of (contract r) (account_of args.file.now args.none.now)) (day r) in
    four_5 (unused_byte r) (field_outside r) m (leb most_rows args.rows) (sym c.unused_byte.ensures ∙ c.if-unused_byte.true)

pub returns-then-field_outside : goal.returns-then-field_outside
returns-then-field_outside c =
    let args = c.args in
    let r = args.row.now in
    let m = no_contract args.account.counts (contract r) || no_day (prompts_of (contract r) (account_of args.file.now args.none.now)) (day r) in
    four_6 (unused_byte r) (field_outside r) m (leb most_rows args.rows) (sym c.unused_byte.ensures ∙ c.if-unused_byte.false)
    (sym c.field_outside.ensures ∙ c.if-field_outside.true)

pub missing-requires : goal.missing-requires
missing-requires c =
    let r = c.args.row.now in (
      c.requires.0,
      contract_known r (row_known r c.requires.1) (sym c.field_outside.ensures ∙ c.if-field_outside.false),
    )

pub returns-then-missing : goal.returns-then-missing
returns-then-missing c =
    let args = c.args in
    let r = args.row.now in
    let m = no_contract args.account.counts (contract r) || no_day (prompts_of (contract r) (account_of args.file.now args.none.now)) (day r) in
    four_7 (unused_byte r) (field_outside r) m (leb most_rows args.rows)
    (sym c.unused_byte.ensures ∙ c.if-unused_byte.false)
    (sym c.field_outside.ensures ∙ c.if-field_outside.false) (sym c.missing.ensures ∙ c.if-missing.true)
