-- A question put to a file whose account is lent: what the account answers that stands in it alone.
-- Assumes nothing.
use Rattle.account.specs.code.Lent.{account_in}
use Rattle.account.proofs.LentLaws.{lent_accepted}
use Rattle.questions.proofs.CheckedLaws.{answer_accepted}
use Rattle.questions.proofs.plain.answer.Goals as goal

pub returns : goal.returns
returns c =
    let l = c.lend_file in
    let n = c.nothing_of in
    let r = c.answer_lent in
    answer_accepted c.args.file.now (account_in l.new.notes) (lent_accepted l.ensures.lent c.in_ok-lend_file.was) n.result.now n.ensures
    c.args.question c.args.out.now r.result r.new.out r.ensures
