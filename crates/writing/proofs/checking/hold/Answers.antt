-- Those that are there, or others.
-- Assumes nothing.
use native.Mathlib.Omega.{arith}
use Rattle.writing.proofs.Placed.{count_same}
use Rattle.writing.proofs.checking.hold.Goals as goal

pub fill-requires : goal.fill-requires
fill-requires c = (
  c.requires.0,
  (
    omega (arith, c.noted.ensures, c.noted-then-c-held.ensures, c.requires.1.holdable.within, count_same c.args.entries.now),
    omega (arith, c.noted-then-c-held.ensures, c.requires.1.holdable.few, c.requires.1.holds.long),
  ),
)
