use Prim.Native.Nat.{ℕ, ◌+◌}
use mathlib.Core.Path.{◌≡◌, subst}
use native.Mathlib.Omega.{arith}
use Rattle.account.specs.Check.{most_contracts}
use Rattle.account.specs.code.Standing.{EitherTo}
use Rattle.account.proofs.Filled.{either_next}
use Rattle.account.proofs.accounts.either_kind.Goals as goal

pub loop-c-preserved : goal.loop-c-preserved
loop-c-preserved c =
    let l = c.loop-c in
    λ morning e. either_next c.args.start l.c c.either.result c.requires.0 c.loop-c-test.true (omega (arith, c.requires)) c.either.ensures
    (l.invariant morning e)

pub returns : goal.returns
returns c =
    let l = c.loop-c in
    let all : l.c ≡ most_contracts = omega arith in
    λ morning e. subst (λ (n : ℕ). EitherTo morning c.args.noon.now c.args.late.now (c.args.start + n) l.notes) all (l.invariant morning e)
