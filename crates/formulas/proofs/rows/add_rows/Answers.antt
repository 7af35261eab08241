-- `add_rows`: what the two walks add, together.
-- Assumes nothing.
use Rattle.account.specs.Records.{records}
use Rattle.formulas.specs.code.Position.{days_in}
use Rattle.formulas.proofs.WalkLaws.{nets_lent, all_added, all_most}
use Rattle.formulas.proofs.rows.add_rows.Goals as goal

pub add_nets-requires : goal.add_nets-requires
add_nets-requires c =
    (c.requires.1.0.0, (c.requires.1.0.1, (c.requires.1.1.0, nets_lent c.args.totals.now c.args.nets.now 0 c.requires.1.1.1.1)))

pub returns : goal.returns
returns c =
    let rows = records c.args.rows.now in
    let ts = c.args.totals.now in
    let ns = c.args.nets.now in
    let us = c.add_totals.new.totals in
    let ms = c.add_nets.new.nets in
    let days = days_in c.args.prompts c.args.days.now in
    let by = c.requires.1.1.1.0 in record {
      added = λ held is. all_added held c.args.unit rows days ts ns us ms c.add_totals.result (c.add_totals.ensures.added held is)
          c.add_nets.ensures c.add_totals.ensures.shorts;
      most = all_most by.rates c.args.unit rows days ts ns us ms c.add_totals.result (c.add_totals.ensures.added by.rates by.held)
          c.add_nets.ensures c.add_totals.ensures.shorts c.requires.0 c.requires.1.1.0 by.each c.requires.1.1.1.1;
    }
