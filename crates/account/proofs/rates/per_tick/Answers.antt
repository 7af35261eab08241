-- `per_tick`: at most 100,000 × 10,000.
-- Assumes nothing.
use mathlib.Core.Path.{◌≡◌, refl, sym, ◌∙◌, ap, ap₂, subst}
use Prim.Native.Nat.{◌≤◌}
use native.Mathlib.Omega.{arith}
use lib.IntN.{ℤ, pos, nat_abs, ◌*ℤ◌}
use mir.Syntax.{w64}
use mir.Val.{to_z, of_z}
use Rattle.std.proofs.lemmas.Int.{to_z_pos}
use Rattle.exact.specs.Signed.{Sized}
use Rattle.exact.proofs.Integers.{back, sfits_abs}
use Rattle.exact.proofs.SignedCalls.{abs_times, sized_back}
use Rattle.record.specs.Layout.{lots, value}
use Rattle.account.specs.Products.{most_per_tick}
use Rattle.account.proofs.rates.per_tick.Goals as goal

pub returns : goal.returns
returns c =
    let row = c.args.row.now in
    let z = lots row *ℤ pos (value row) in
    let is : to_z w64 (of_z w64 c.lots.result) *ℤ to_z w64 c.value.result ≡ z =
    ap₂ ◌*ℤ◌ (back c.lots.result (record { sfits = c.lots.type_inv }) ∙ c.lots.ensures)
    (to_z_pos w64 c.value.result (omega (arith, c.value.ensures.1)) ∙ ap pos c.value.ensures.0) in
    let few : nat_abs z ≤ most_per_tick = abs_times (lots row) (pos (value row)) c.requires.0 c.requires.1 in
    subst (λ (q : ℤ). Sized most_per_tick z (to_z w64 (of_z w64 q))) (sym is)
    (sized_back z (sfits_abs z (omega (arith, few))) (record { is = refl; size = few }))
