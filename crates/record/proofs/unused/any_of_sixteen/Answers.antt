-- `any_of_sixteen`: four bytes, four times.
use Prim.Native.Nat.{◌+◌}
use mathlib.Core.Path.{refl}
use Rattle.record.specs.Ranges.{not_zero}
use Rattle.record.proofs.Tests.{any_parted}
use Rattle.record.proofs.unused.any_of_sixteen.Goals as goal

pub returns : goal.returns
returns c =
    let p = not_zero c.args.r.now in
    let o = c.args.o in
    any_parted p 12 4 o (o + 12) refl
    (any_parted p 8 4 o (o + 8) refl
    (any_parted p 4 4 o (o + 4) refl c.any_of_four.ensures c.any_of_four-2.ensures)
    c.any_of_four-3.ensures)
    c.any_of_four-4.ensures
