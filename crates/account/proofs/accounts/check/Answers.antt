-- The length or the records are refused, or the rates answer.
-- Assumes nothing.
use Rattle.std.proofs.lemmas.Result.{err_from_is_err_and}
use mathlib.Core.Path.{ap, refl, ◌∙◌}
use Rattle.account.specs.Checked.{checked}
use Rattle.account.proofs.AcceptedOnly.{refused_some}
use Rattle.account.proofs.Alone.{refused_there}
use Rattle.account.proofs.accounts.check.Goals as goal

pub returns-in_err-noted : goal.returns-in_err-noted
returns-in_err-noted c =
    let whole = c.anew-whole in
    let p = err_from_is_err_and c.from_residual-in_err-noted.result c.from_residual-in_err-noted.ensures.1 in
    rw (p.1, p.2) (refused_there whole.result.now _ c.in_err-noted.ensures (refused_some refl) ∙ ap checked whole.ensures)

pub rates_answer-requires : goal.rates_answer-requires
rates_answer-requires c = c.in_ok-noted.ensures

pub returns : goal.returns
returns c =
    let whole = c.anew-whole in
    c.rates_answer.ensures ∙ ap checked whole.ensures
