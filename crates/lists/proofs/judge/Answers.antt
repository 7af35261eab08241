-- A list put to a file: the file's refusal, or what the account says of it that stands in the file alone.
-- Assumes nothing.
use Rattle.std.proofs.lemmas.Result.{err_from_is_err_and}
use Rattle.account.specs.code.Lent.{account_in}
use Rattle.account.proofs.LentLaws.{lent_refused, lent_accepted}
use Rattle.lists.proofs.ListLaws.{list_accepted, list_refused}
use Rattle.lists.proofs.judge.Goals as goal

pub returns-in_err-lend_file : goal.returns-in_err-lend_file
returns-in_err-lend_file c =
    let a = c.args in
    let p = err_from_is_err_and c.from_residual.result c.from_residual.ensures.1 in
    rw (p.1, p.2)
    (list_refused a.question a.sent a.numbers.now a.uses.now a.file.now c.in_err-lend_file.field-0.0
    (lent_refused c.lend_file.ensures.lent c.in_err-lend_file.was))

pub returns : goal.returns
returns c =
    let a = c.args in
    let l = c.lend_file in
    let n = c.nothing_of in
    list_accepted a.question a.sent a.numbers.now a.uses.now a.file.now (account_in l.new.notes)
    (lent_accepted l.ensures.lent c.in_ok-lend_file.was) n.result.now n.ensures c.judge_lent.result c.judge_lent.ensures
