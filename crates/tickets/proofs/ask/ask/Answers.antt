-- The file is checked first.
-- Assumes nothing.
use Rattle.std.specs.Prelude.{Result, Err}
use mathlib.Core.Path.{refl, subst, ◌∙◌}
use Rattle.account.specs.code.Standing.{CheckedBy}
use Rattle.account.specs.declared.accounts.Account.{Account}
use Rattle.account.specs.declared.answers.Refusal.{Refusal}
use Rattle.account.proofs.AcceptedOnly.{refused_some}
use Rattle.tickets.specs.Asked.{tickets_in}
use Rattle.tickets.proofs.AskLaws.{ask_no_file}
use Rattle.tickets.proofs.ask.ask.Goals as goal

pub keep-requires : goal.keep-requires
keep-requires c =
    subst (λ (r : Result Account Refusal). CheckedBy c.args.file.now r) c.in-Ok.is c.check_file.ensures

pub returns-in-Err : goal.returns-in-Err
returns-in-Err c =
    let by = subst (λ (r : Result Account Refusal). CheckedBy c.args.file.now r) c.in-Err.is c.check_file.ensures in
    c.refused_with.ensures
    ∙ ask_no_file c.args.file.now (tickets_in c.args.tickets.now) (Err c.in-Err.refusal) by.answer_is (refused_some refl) c.args.ticket.now
