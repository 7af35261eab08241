-- The contracts and the intercontract spreads are accepted by the steps, and are those that the table's uses go by.
-- Assumes nothing.
use Rattle.margin.proofs.TierLaws.{entries_few}
use Rattle.margin.proofs.UsesLaws.{table_asks}
use Rattle.margin.proofs.over.table_asking.Goals as goal

pub intercontract_table-requires : goal.intercontract_table-requires
intercontract_table-requires c =
    let x = c.requires in
    entries_few x.whole x.over.lawful c.args.tiers x.over.is c.args.entries.now x.over.part

pub returns : goal.returns
returns c =
    let t = c.intercontract_table in
    λ whole o. table_asks whole o.lawful c.args.tiers o.is c.args.entries.now o.part t.result t.ensures
