-- The records of kinds 1 and 2, and the rows up to the contract.
-- Assumes nothing.
use Prim.Native.Nat.{◌+◌}
use native.Mathlib.Omega.{arith}
use Rattle.account.specs.Check.{most_records}
use Rattle.exact.proofs.Lists.{sum-take, sum_bound}
use Rattle.tickets.proofs.counts.place_of.Goals as goal

pub overflow_add-result : goal.overflow_add-result
overflow_add-result c =
    let xs = c.args.counts.rows in
    omega (
      arith,
      c.sum_of.ensures,
      sum-take (c.args.c + 1) xs,
      sum_bound most_records xs (λ k h. c.requires.0.rows_few k),
      c.requires.0.places,
      c.requires.0.above_few,
    )
