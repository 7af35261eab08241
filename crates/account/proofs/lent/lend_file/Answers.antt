-- The check's answer, and the account by what is noted, lent.
-- Assumes nothing.
use Rattle.std.specs.Prelude.{List, ℕ, Ok}
use mathlib.Core.Path.{sym, subst, subst⁻¹, ◌∙◌}
use Rattle.account.specs.code.Standing.{CheckedBy, StoodIn}
use Rattle.account.specs.declared.accounts.Account.{Account}
use Rattle.account.proofs.Alone.{few_listed, checked_noted}
use Rattle.account.proofs.lent.lend_file.Goals as goal

pub in_one_file-requires : goal.in_one_file-requires
in_one_file-requires c =
    let n = c.note_records.new in
    few_listed c.anew-whole.result.now c.in_ok-noted.noted.contracts n.first n.counts c.in_ok-noted.ensures

pub returns : goal.returns
returns c =
    let n = c.note_records.new in
    let whole = c.anew-whole in
    let accepted = sym c.rates_answer.ensures ∙ c.in_ok-rates_answer.was in
    let by : CheckedBy c.args.file.now (Ok c.in_one_file.result) =
    subst (λ (bytes : List ℕ). CheckedBy bytes (Ok c.in_one_file.result)) whole.ensures
    (checked_noted whole.result.now c.in_ok-noted.noted.contracts n.first n.counts c.in_ok-noted.ensures
    c.record_count.result c.in_one_file.result c.record_count.ensures c.in_one_file.ensures accepted) in
    record { lent = record { answer_is = by.answer_is; accepted = subst⁻¹ (λ (a : Account). StoodIn c.args.file.now a) c.lend.ensures by.accepted }; refused = tt }
