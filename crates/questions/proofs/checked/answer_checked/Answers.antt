-- A question put to a checked file: its refusal, or what the account answers that stands in it alone.
-- Assumes nothing.
use Rattle.std.proofs.lemmas.Result.{err_from_is_err_and}
use Rattle.std.specs.Prelude.{Result}
use mathlib.Core.Path.{subst}
use Rattle.account.specs.code.Standing.{CheckedBy}
use Rattle.account.specs.declared.accounts.Account.{Account}
use Rattle.account.specs.declared.answers.Refusal.{Refusal}
use Rattle.questions.proofs.CheckedLaws.{file_stands, answer_refused, answer_accepted}
use Rattle.questions.proofs.checked.answer_checked.Goals as goal

pub returns-in_err-account : goal.returns-in_err-account
returns-in_err-account c =
    let p = err_from_is_err_and c.from_residual.result c.from_residual.ensures.1 in
    let by = subst (λ (r : Result Account Refusal). CheckedBy c.args.file.now r) c.in_err-account.was c.requires in
    rw (p.1, p.2) (answer_refused c.args.file.now c.in_err-account.field-0.0 by c.args.question c.args.out.now)

pub answer_over-requires : goal.answer_over-requires
answer_over-requires c =
    let n = c.nothing_of in
    let by = subst (λ (r : Result Account Refusal). CheckedBy c.args.file.now r) c.in_ok-account.was c.requires in
    file_stands c.args.file.now c.in_ok-account.account by n.result.now n.ensures

pub returns : goal.returns
returns c =
    let n = c.nothing_of in
    let r = c.answer_over in
    let by = subst (λ (r : Result Account Refusal). CheckedBy c.args.file.now r) c.in_ok-account.was c.requires in
    answer_accepted c.args.file.now c.in_ok-account.account by n.result.now n.ensures
    c.args.question c.args.out.now r.result r.new.out r.ensures
