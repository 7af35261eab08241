use mathlib.Core.Path.{◌≡◌, subst}
use Prim.Native.Nat.{ℕ, ◌+◌, ◌*◌}
use native.Mathlib.Omega.{arith}
use Rattle.account.specs.Check.{most_contracts}
use Rattle.account.specs.code.Standing.{EitherTo}
use Rattle.account.proofs.accounts.either_notes.Goals as goal

pub loop-kind-preserved : goal.loop-kind-preserved
loop-kind-preserved c =
    let l = c.loop-kind in
    let more : most_contracts * l.kind + most_contracts ≡ most_contracts * (l.kind + 1) = omega arith in
    subst (λ (n : ℕ). EitherTo c.args.morning.now c.args.noon.now c.args.late.now n c.either_kind.new.notes) more
    (c.either_kind.ensures c.args.morning.now l.invariant)
