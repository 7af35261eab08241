-- `beyond_in`: the product, converted, tested.
-- Assumes nothing.
use mathlib.Core.Path.{◌≡◌, ◌∙◌, ap}
use native.Mathlib.Omega.{arith}
use lib.Dec.{ltb}
use lib.IntN.{nat_abs, ◌*ℤ◌}
use mir.Syntax.{w64}
use mir.Val.{SFits}
use Prim.Native.Nat.{◌≤◌}
use Rattle.std.proofs.Common.{rules}
use Rattle.exact.proofs.Integers.{seen, sfits_abs}
use Rattle.exact.proofs.SignedCalls.{abs_times}
use Rattle.account.specs.Products.{converted_at, most_conversion}
use Rattle.account.proofs.rates.beyond_in.Goals as goal

pub converted-requires : goal.converted-requires
converted-requires c =
    let s = c.args in
    let few : nat_abs (s.each *ℤ s.loss) ≤ most_conversion = abs_times s.each s.loss c.requires.0 c.requires.1.0 in
    let fits : SFits w64 (s.each *ℤ s.loss) = sfits_abs (s.each *ℤ s.loss) (omega (arith, few)) in
    (search rules, c.requires.1.1)

pub returns : goal.returns
returns c =
    let s = c.args in
    let v = c.converted in
    let few : nat_abs (s.each *ℤ s.loss) ≤ most_conversion = abs_times s.each s.loss c.requires.0 c.requires.1.0 in
    let fits : SFits w64 (s.each *ℤ s.loss) = sfits_abs (s.each *ℤ s.loss) (omega (arith, few)) in
    let is : v.result ≡ converted_at s.f.raised s.f.lowered (s.each *ℤ s.loss) = search rules in
    ap (ltb most_conversion) (seen nat_abs v.result (record { sfits = v.type_inv }) c.unsigned_abs.ensures.value ∙ ap nat_abs is)
