use Prim.Native.Nat.{ℕ, ◌+◌, ◌-◌, ◌*◌}
use mathlib.Core.Bool.{Bool, ◌||◌}
use mathlib.Core.Path.{◌≡◌, sym, ap, ◌∙◌}
use native.Mathlib.Omega.{arith}
use Rattle.exact.specs.Lists.{any}
use Rattle.record.specs.Bytes.{Record, u32_at, count_from}
use Rattle.record.specs.Layout.{hundred_thousands, scenario_count}
use Rattle.record.specs.Ranges.{beyond}
use Rattle.record.proofs.Tests.{any_next, any_past}
use Rattle.record.proofs.ranges.losses_beyond.Invariants.{wrong}
use Rattle.record.proofs.ranges.losses_beyond.Goals as goal

-- the k-th loss is that of scenario k + 1
told :
    (r : Record) (k : ℕ) {x : ℕ} {b : Bool} → x ≡ u32_at r (24 + 4 * k) → b ≡ beyond hundred_thousands x
    → b ≡ wrong r (k + 1)
told r k e t = t ∙ ap (beyond hundred_thousands) (e ∙ ap (u32_at r) (omega arith))

pub loop-k-preserved : goal.loop-k-preserved
loop-k-preserved c =
    let l = c.loop-k in
    let r = c.args.r.now in
    l.invariant ∙ any_next (wrong r) (scenario_count + 1) (l.k + 1) l.outside (omega arith)
    ∙ ap (λ b. (l.outside || b) || any (wrong r) (count_from (l.k + 1 + 1) (scenario_count + 1 - (l.k + 1 + 1))))
    (sym (told r l.k c.u32_in.ensures.0 c.too_many-outside.ensures))

pub returns : goal.returns
returns c =
    let l = c.loop-k in
    sym (l.invariant ∙ any_past (wrong c.args.r.now) (scenario_count + 1) (l.k + 1) l.outside (omega arith))
