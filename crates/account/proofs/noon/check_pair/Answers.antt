-- Both files are checked, and joined by what the check hands out.
-- Assumes nothing.
use Rattle.account.proofs.NoonLaws.{checked_by}
use Rattle.account.proofs.noon.check_pair.Goals as goal

pub pair_verdict-requires : goal.pair_verdict-requires
pair_verdict-requires c = (c.take_survey-first.ensures, (c.take_survey-second.ensures, c.join-account.ensures))

pub returns : goal.returns
returns c =
    let s = c.args in
    let m = c.take_survey-first in
    let n = c.take_survey-second in
    let j = c.join-account in
    checked_by s.morning.now s.noon.now m.result n.result j.result m.ensures n.ensures j.ensures c.pair_verdict.result
    c.pair_verdict.ensures
