-- The notes of kind 5, else those of kind 6.
-- Assumes nothing.
use borrow.Author.Tests.{ne_eqb, eq-eqb}
use native.Mathlib.Omega.{arith}
use lib.ListN.{get_or}
use Rattle.account.specs.PartNumbers.{entry_part, rate_part}
use Rattle.account.proofs.noon.noon_spread.Goals as goal

pub returns-then-noon-ne0 : goal.returns-then-noon-ne0
returns-then-noon-ne0 c =
    rw (ne_eqb (get_or c.args.noon.counts entry_part 0) 0 c.if-noon-ne0.true)

pub returns-then-noon-ne0-2 : goal.returns-then-noon-ne0-2
returns-then-noon-ne0-2 c =
    let s = c.args.noon in
    rw (eq-eqb (get_or s.counts entry_part 0) 0 (omega (arith, c.if-noon-ne0.false)), ne_eqb (get_or s.counts rate_part 0) 0 c.if-noon-ne0-2.true)

pub returns : goal.returns
returns c =
    let s = c.args.noon in
    rw (
      eq-eqb (get_or s.counts entry_part 0) 0 (omega (arith, c.if-noon-ne0.false)),
      eq-eqb (get_or s.counts rate_part 0) 0 (omega
          (arith, c.if-noon-ne0-2.false)),
    )
