-- `put_eight`: eight stores, one after the other.
-- Assumes nothing.
use mathlib.Core.List.{map}
use native.Mathlib.Omega.{arith}
use lib.IntN.{pos}
use Rattle.formulas.specs.code.Lines.{eight_of}
use Rattle.margin.proofs.NumberLaws.{stores_sets}
use Rattle.margin.proofs.numbers.put_eight.Goals as goal

pub put-requires-8 : goal.put-requires-8
put-requires-8 c = (
  omega (arith, c.requires.0, c.out-7-1.given, c.out-6-1.given, c.out-5-1.given, c.out-4-1.given, c.out-3-1.given, c.out-2-1.given, c.out-1.given),
  omega (arith, c.requires.1.1.1.1),
)

pub returns : goal.returns
returns c =
    rw (
      c.put-8.ensures,
      c.put-7.ensures,
      c.put-6.ensures,
      c.put-5.ensures,
      c.put-4.ensures,
      c.put-3.ensures,
      c.put-2.ensures,
      c.put.ensures,
      c.requires.1.1.1.0,
    )
    (stores_sets c.args.out.now c.args.at (map pos (eight_of c.args.l c.args.credit.0)))
