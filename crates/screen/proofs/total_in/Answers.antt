-- The total of an account file: its refusal, or the total of the account that stands in it alone.
-- Assumes nothing.
use Rattle.std.proofs.lemmas.Result.{err_from_is_err_and}
use Rattle.account.specs.code.Lent.{account_in}
use Rattle.account.proofs.LentLaws.{lent_refused, lent_accepted}
use Rattle.screen.proofs.ScreenLaws.{total_refused, total_accepted}
use Rattle.screen.proofs.total_in.Goals as goal

pub returns-in_err-lend_file : goal.returns-in_err-lend_file
returns-in_err-lend_file c =
    let p = err_from_is_err_and c.from_residual.result c.from_residual.ensures.1 in
    rw (p.1, p.2)
    (total_refused c.args.file.now c.in_err-lend_file.field-0.0 (lent_refused c.lend_file.ensures.lent c.in_err-lend_file.was))

pub returns : goal.returns
returns c =
    let l = c.lend_file in
    total_accepted c.args.file.now (account_in l.new.notes) (lent_accepted l.ensures.lent c.in_ok-lend_file.was)
    c.nothing_of.result.now c.nothing_of.ensures c.total_lent.result c.total_lent.ensures
