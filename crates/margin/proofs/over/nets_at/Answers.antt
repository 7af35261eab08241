-- The net deltas of a contract, by its number: its prompts and rows are the account's.
-- Assumes nothing.
use mathlib.Core.List.{[]}
use Rattle.account.specs.code.Lent.{account_in}
use Rattle.account.specs.Joined.{account_of}
use Rattle.margin.proofs.StandLaws.{rows_room, prompts_few, rows_placed, nets_here}
use Rattle.margin.proofs.over.nets_at.Goals as goal

pub nets_of-requires : goal.nets_of-requires
nets_of-requires c =
    let a = account_of c.args.morning.now c.args.noon.now in
    let st = c.requires.0 in
    let j = account_in c.args.account.now in
    let n = c.args.c in
    let h = c.requires.1 in
    let ps = c.prompts_part-prompts in
    let rs = c.rows_part-rows in
    let ep = ps.ensures j n st h c.whereabouts_of-w.ensures in
    let er = rs.ensures j n st h c.whereabouts_of-w.ensures in (
      (
        prompts_few a st.lawful n h ps.result.now rs.result.now ep er,
        rows_placed a st.lawful n h ps.result.now rs.result.now ep er,
      ),
      (rows_room a st.lawful n h ps.result.now rs.result.now ep er).rows_within,
    )

pub returns : goal.returns
returns c =
    let st = c.requires.0 in
    let j = account_in c.args.account.now in
    let n = c.args.c in
    let h = c.requires.1 in
    let ps = c.prompts_part-prompts in
    let rs = c.rows_part-rows in
    nets_here (account_of c.args.morning.now c.args.noon.now) st.lawful n h ps.result.now rs.result.now
    (ps.ensures j n st h c.whereabouts_of-w.ensures) (rs.ensures j n st h c.whereabouts_of-w.ensures)
    c.nets_of.result (c.nets_of.ensures [] 1)
