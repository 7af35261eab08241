-- The counts and the positions of the file.
-- Assumes nothing.
use mathlib.Core.Path.{subst}
use mathlib.Core.List.{List}
use Rattle.record.specs.Layout.{Record}
use Rattle.margin.specs.code.Positions.{PositionsOf}
use Rattle.account.proofs.Places.{alone}
use Rattle.tickets.proofs.CountLaws.{file_ok, stands_in}
use Rattle.tickets.proofs.Placed.{plain}
use Rattle.tickets.proofs.kept.keep.Goals as goal

pub positions_over-requires : goal.positions_over-requires
positions_over-requires c =
    stands_in c.args.file.now c.args.account c.requires c.nothing_of-none.result.now c.nothing_of-none.ensures

pub returns : goal.returns
returns c =
    record {
      counts = c.counts_of.ensures;
      positions =
          subst (λ (rs : List Record). PositionsOf rs c.positions_over.result)
          (alone c.args.file.now c.nothing_of-none.result.now c.nothing_of-none.ensures
          (plain c.args.file.now (file_ok c.args.file.now c.args.account c.requires)).recorded)
          c.positions_over.ensures;
    }
