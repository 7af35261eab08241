-- `put_three`: three stores, one after the other.
-- Assumes nothing.
use mathlib.Core.List.{[], ◌∷◌}
use Rattle.exact.proofs.Integers.{back}
use Rattle.margin.proofs.NumberLaws.{stores_sets}
use Rattle.margin.proofs.numbers.put_three.Goals as goal

pub returns : goal.returns
returns c =
    let a = c.args in
    let r = c.ranges in
    rw (back a.net r.net, back a.used r.used, back a.unused r.unused) (stores_sets a.out.now a.at (a.net ∷ a.used ∷ a.unused ∷ []))
