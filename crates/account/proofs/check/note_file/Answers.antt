-- The length refuses the file, or the records do.
-- Assumes nothing.
use Rattle.std.proofs.lemmas.Result.{err_from_is_err_and}
use mathlib.Core.Path.{sym, ◌∙◌}
use Rattle.account.proofs.AcceptedOnly.{refused_some}
use Rattle.account.proofs.Verdict.{length_refused}
use Rattle.account.proofs.check.note_file.Goals as goal

pub returns-in_err-length_answer : goal.returns-in_err-length_answer
returns-in_err-length_answer c =
    let p = err_from_is_err_and c.from_residual.result c.from_residual.ensures.1 in
    let e = sym c.in_err-length_answer.was ∙ c.length_answer.ensures in
    rw (p.1, p.2) (e ∙ length_refused c.args.file.now (refused_some e))

pub note_records-requires : goal.note_records-requires
note_records-requires c =
    (sym c.length_answer.ensures ∙ c.in_ok-length_answer.was, c.requires)

pub returns : goal.returns
returns c = c.note_records.ensures
