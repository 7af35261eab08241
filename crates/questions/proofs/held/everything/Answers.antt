-- Everything that a checked file is asked for: its refusal three times, or what the account answers that stands in it alone.
-- Assumes nothing.
use Rattle.std.specs.Prelude.{Result}
use mathlib.Core.Path.{subst}
use Rattle.account.specs.code.Standing.{CheckedBy}
use Rattle.account.specs.declared.accounts.Account.{Account}
use Rattle.account.specs.declared.answers.Refusal.{Refusal}
use Rattle.questions.proofs.CheckedLaws.{file_stands, everything_refused, everything_accepted}
use Rattle.questions.proofs.held.everything.Goals as goal

pub everything_over-requires : goal.everything_over-requires
everything_over-requires c =
    let n = c.nothing_of in
    let by = subst (λ (r : Result Account Refusal). CheckedBy c.args.file.now r) c.in-Ok.is c.requires in
    file_stands c.args.file.now c.in-Ok.account by n.result.now n.ensures

pub returns-in-Ok : goal.returns-in-Ok
returns-in-Ok c =
    let file = c.args.file.now in
    let n = c.nothing_of in
    let r = c.everything_over in
    let by = subst (λ (r : Result Account Refusal). CheckedBy file r) c.in-Ok.is c.requires in
    everything_accepted file c.in-Ok.account by n.result.now n.ensures c.args.figures.now c.args.books.now c.args.uses.now
    r.result r.new.figures r.new.books r.new.uses c.told.result r.ensures c.told.ensures

pub returns-in-Err : goal.returns-in-Err
returns-in-Err c =
    let file = c.args.file.now in
    let by = subst (λ (r : Result Account Refusal). CheckedBy file r) c.in-Err.is c.requires in
    everything_refused file c.in-Err.refusal by c.args.figures.now c.args.books.now c.args.uses.now c.refused.result c.refused.ensures
