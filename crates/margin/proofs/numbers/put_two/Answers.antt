-- `put_two`: two stores, one after the other.
-- Assumes nothing.
use mathlib.Core.List.{[], ◌∷◌}
use lib.IntN.{pos}
use Rattle.margin.proofs.NumberLaws.{stores_sets}
use Rattle.margin.proofs.numbers.put_two.Goals as goal

pub returns : goal.returns
returns c =
    rw (c.put-2.ensures, c.put.ensures)
    (stores_sets c.args.out.now c.args.at (pos c.args.first ∷ pos c.args.second ∷ []))
