use Prim.Native.Nat.{◌+◌}
use mathlib.Core.Path.{ap, ◌∙◌}
use native.Mathlib.Omega.{arith}
use lib.ListN.{length}
use Rattle.writing.specs.Written.{written}
use Rattle.writing.proofs.Placed.{filling_next, part_long, record_long, count_same}
use Rattle.writing.proofs.filling.fill.Goals as goal

pub copy_from_slice-requires : goal.copy_from_slice-requires
copy_from_slice-requires c =
    let l = c.loop-i in
    let e = c.args.entries.now in
    let more = c.loop-i-test.true in
    let p = part_long e c.args.k c.args.n c.args.out.now l.out l.i l.invariant more c.requires.1.0 c.requires.1.1 in
    let r = ap length c.entry_at-r.ensures ∙ record_long (written e) (c.args.k + l.i) (omega (arith, more, c.requires.1.0, count_same e)) in
    omega (arith, p, r)

pub loop-i-preserved : goal.loop-i-preserved
loop-i-preserved c =
    let l = c.loop-i in
    let e = c.args.entries.now in
    let more = c.loop-i-test.true in
    filling_next e c.args.k c.args.n c.args.out.now l.out l.i l.invariant more c.requires.1.0 c.requires.1.1
    c.entry_at-r.ensures
    c.copy_from_slice.ensures.after
