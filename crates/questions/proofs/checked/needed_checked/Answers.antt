-- How many numbers the answer of a question has, of a checked file: none of a refused one.
-- Assumes nothing.
use Rattle.std.specs.Prelude.{Result}
use mathlib.Core.Path.{subst}
use Rattle.account.specs.code.Standing.{CheckedBy}
use Rattle.account.specs.declared.accounts.Account.{Account}
use Rattle.account.specs.declared.answers.Refusal.{Refusal}
use Rattle.questions.proofs.CheckedLaws.{file_stands, none_needed, needed_accepted}
use Rattle.questions.proofs.checked.needed_checked.Goals as goal

pub needed_over-requires : goal.needed_over-requires
needed_over-requires c =
    let n = c.nothing_of in
    let by = subst (λ (r : Result Account Refusal). CheckedBy c.args.file.now r) c.in-Ok.is c.requires in
    file_stands c.args.file.now c.in-Ok.account by n.result.now n.ensures

pub returns-in-Ok : goal.returns-in-Ok
returns-in-Ok c =
    let n = c.nothing_of in
    let r = c.needed_over in
    let by = subst (λ (r : Result Account Refusal). CheckedBy c.args.file.now r) c.in-Ok.is c.requires in
    needed_accepted c.args.file.now c.in-Ok.account by n.result.now n.ensures c.args.question r.result r.ensures

pub returns-in-Err : goal.returns-in-Err
returns-in-Err c =
    none_needed c.args.file.now _ (subst (λ (r : Result Account Refusal). CheckedBy c.args.file.now r) c.in-Err.is c.requires) c.args.question
