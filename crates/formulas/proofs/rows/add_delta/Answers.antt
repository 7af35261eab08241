-- `add_delta`: at the place of the day alone.
-- Assumes nothing.
use Rattle.std.proofs.Common.{refl, arith, ◌≤◌, pos, nat_abs, ◌+ℤ◌, get_or}
use Rattle.exact.proofs.Integers.{sfits_abs, abs_add}
use Rattle.formulas.specs.Bounds.{most_delta}
use Rattle.formulas.proofs.Calls.{handed, op_fits, op_is}
use Rattle.formulas.proofs.PlacedLaws.{added_once}
use Rattle.formulas.proofs.rows.add_delta.Goals as goal

pub returns : goal.returns
returns c =
    let j = c.place_of-j.result in
    let x = get_or c.args.nets.now j (pos 0) in
    let more = c.args.more.0 in
    let most : nat_abs x ≤ most_delta = c.requires.1.1.1.size j (omega (arith, c.place_of-j.ensures.0, c.requires.0)) in
    let read = sfits_abs x (omega arith) in
    let handed-on = sfits_abs more (omega (arith, c.requires.1.1.0)) in
    let sum = op_fits ◌+ℤ◌ x more x more read.sfits handed-on.sfits refl refl (omega (arith, abs_add x more, c.requires.1.1.0)) in
    added_once c.args.count c.args.days.now c.args.d c.requires.1.0.1 more c.args.nets.now j (handed (handed x +ℤ handed more))
    (omega (arith, c.requires.0, c.requires.1.1.1.as_many)) c.place_of-j.ensures
    (op_is ◌+ℤ◌ x more x more read.sfits handed-on.sfits refl refl (handed x +ℤ handed more) sum.sfits refl)
