-- A number of the figures, none of which is negative.
-- Assumes nothing.
use lib.IntN.{pos}
use lib.ListN.{get_or}
use Rattle.exact.specs.Signed.{or_zero}
use Rattle.exact.proofs.Integers.{seen}
use Rattle.committee.proofs.contracts.amount_at.Goals as goal

pub returns : goal.returns
returns c =
    let s = c.args in
    seen or_zero (get_or s.numbers.now s.k (pos 0)) (record { sfits = c.or_zero-arg-1.given }) c.or_zero.ensures
