-- What a contract's rows come to in its unit, which its own record has.
-- Assumes nothing.
use Rattle.account.specs.Parts.{rates_of}
use Rattle.account.specs.code.Lent.{account_in}
use Rattle.account.specs.Joined.{account_of}
use Rattle.margin.proofs.BesideLaws.{position_room, position_here}
use Rattle.margin.proofs.over.position_in.Goals as goal

pub position_of-requires : goal.position_of-requires
position_of-requires c =
    let st = c.requires.0 in
    let j = account_in c.args.account.now in
    let n = c.args.c in
    let h = c.requires.1.0 in
    let w = c.whereabouts_of-w.ensures in
    let rs = c.rows_part-rows in
    let ps = c.prompts_part-prompts in
    let own = c.own_part-own in
    position_room (account_of c.args.morning.now c.args.noon.now) st.lawful n h own.result.now ps.result.now rs.result.now
    (own.ensures j n st h w) (ps.ensures j n st h w) (rs.ensures j n st h w) c.args.rates c.requires.1.1 c.unit.result c.unit.ensures.0

pub returns : goal.returns
returns c =
    let a = account_of c.args.morning.now c.args.noon.now in
    let st = c.requires.0 in
    let j = account_in c.args.account.now in
    let n = c.args.c in
    let h = c.requires.1.0 in
    let w = c.whereabouts_of-w.ensures in
    let p = c.position_of in
    let u = c.unit in
    let rs = c.rows_part-rows in
    let ps = c.prompts_part-prompts in
    let own = c.own_part-own in
    position_here a st.lawful n h own.result.now ps.result.now rs.result.now
    (own.ensures j n st h w) (ps.ensures j n st h w) (rs.ensures j n st h w) c.args.rates c.requires.1.1 u.result u.ensures.0
    p.result (p.ensures.is (rates_of a) c.requires.1.1) p.ensures.most
