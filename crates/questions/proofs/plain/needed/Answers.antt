-- How many numbers the answer of a question has, of a file whose account is lent.
-- Assumes nothing.
use Rattle.account.specs.code.Lent.{account_in}
use Rattle.account.proofs.LentLaws.{lent_accepted}
use Rattle.questions.proofs.CheckedLaws.{needed_accepted}
use Rattle.questions.proofs.plain.needed.Goals as goal

pub returns-in-Ok : goal.returns-in-Ok
returns-in-Ok c =
    let l = c.lend_file in
    let n = c.nothing_of in
    let r = c.needed_lent in
    needed_accepted c.args.file.now (account_in l.new.notes) (lent_accepted l.ensures.lent c.in-Ok.is) n.result.now n.ensures
    c.args.question r.result r.ensures
