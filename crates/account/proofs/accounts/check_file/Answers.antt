-- The check's answer, on the records and then on the rates, and the account by what is noted.
-- Assumes nothing.
use Rattle.std.proofs.lemmas.Result.{err_from_is_err_and}
use Rattle.std.specs.Prelude.{ℕ, List, Ok}
use mathlib.Core.Path.{ap, refl, subst, sym, ◌∙◌}
use Rattle.account.specs.code.Standing.{CheckedBy}
use Rattle.account.specs.Checked.{checked}
use Rattle.account.proofs.AcceptedOnly.{refused_some}
use Rattle.account.proofs.Alone.{refused_there, few_listed, checked_noted}
use Rattle.account.proofs.accounts.check_file.Goals as goal

pub returns-in_err-noted : goal.returns-in_err-noted
returns-in_err-noted c =
    let whole = c.anew-whole in
    let p = err_from_is_err_and c.from_residual-in_err-noted.result c.from_residual-in_err-noted.ensures.1 in
    rw (p.1, p.2) (record { answer_is = refused_there whole.result.now _ c.in_err-noted.ensures (refused_some refl) ∙ ap checked whole.ensures; accepted = tt })

pub rates_answer-requires : goal.rates_answer-requires
rates_answer-requires c = c.in_ok-noted.ensures

pub returns-in_err-rates_answer : goal.returns-in_err-rates_answer
returns-in_err-rates_answer c =
    let p = err_from_is_err_and c.from_residual-in_err-rates_answer.result c.from_residual-in_err-rates_answer.ensures.1 in
    rw (p.1, p.2) (record { answer_is = sym c.in_err-rates_answer.was ∙ c.rates_answer.ensures ∙ ap checked c.anew-whole.ensures; accepted = tt })

pub in_one_file-requires : goal.in_one_file-requires
in_one_file-requires c =
    let n = c.note_records.new in
    few_listed c.anew-whole.result.now c.in_ok-noted.noted.contracts n.first n.counts c.in_ok-noted.ensures

pub returns : goal.returns
returns c =
    let n = c.note_records.new in
    subst (λ (bytes : List ℕ). CheckedBy bytes (Ok c.in_one_file.result)) c.anew-whole.ensures
    (checked_noted c.anew-whole.result.now c.in_ok-noted.noted.contracts n.first n.counts c.in_ok-noted.ensures
    c.record_count.result c.in_one_file.result c.record_count.ensures c.in_one_file.ensures
    (sym c.rates_answer.ensures ∙ c.in_ok-rates_answer.was))
