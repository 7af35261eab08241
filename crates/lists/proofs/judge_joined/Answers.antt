-- A list put to a pair of files: the refusal and its file, or what the joined account says of it.
-- Assumes nothing.
use Rattle.lists.proofs.ListLaws.{pair_refused, pair_stands, pair_accepted}
use Rattle.lists.proofs.judge_joined.Goals as goal

pub judge_over-requires : goal.judge_over-requires
judge_over-requires c =
    let a = c.args in
    let o = c.check_pair-checked in
    pair_stands a.question a.sent a.numbers.now a.uses.now a.morning.now a.noon.now o.result o.ensures c.in-Ok.is

pub returns-in-Ok : goal.returns-in-Ok
returns-in-Ok c =
    let a = c.args in
    let o = c.check_pair-checked in
    pair_accepted a.question a.sent a.numbers.now a.uses.now a.morning.now a.noon.now o.result o.ensures c.in-Ok.is
    c.judge_over.result c.judge_over.ensures

pub returns-in-Err : goal.returns-in-Err
returns-in-Err c =
    let a = c.args in
    let o = c.check_pair-checked in
    pair_refused a.question a.sent a.numbers.now a.uses.now a.morning.now a.noon.now o.result o.ensures c.in-Err.refusal c.in-Err.is
