-- `half_away`: the size in two parts, the sign kept.
use mathlib.Core.Path.{◌≡◌, ◌∙◌, sym, ap}
use Prim.Native.Nat.{ℕ, ◌+◌, ◌*◌, ◌/◌, ◌%◌}
use native.Mathlib.Omega.{arith}
use lib.IntN.{nat_abs}
use borrow.Author.Rules.{rules}
use Rattle.exact.specs.Rounding.{half_up}
use Rattle.exact.proofs.Integers.{seen}
use Rattle.exact.proofs.FractionLaws.{half_parts}
use Rattle.exact.proofs.rounding.half_away.Goals as goal
use Rattle.exact.proofs.rounding.half_away.Goals.{After-unsigned_abs-size}

-- the two parts are the whole
parts : (c : After-unsigned_abs-size) →
    let s = c.args in
    let n = c.unsigned_abs-size.result in
    n / s.d * s.m + half_up (n % s.d * s.m) s.d ≡ half_up (nat_abs s.z * s.m) s.d
parts c =
    let s = c.args in
    sym (half_parts c.unsigned_abs-size.result s.m s.d c.requires.0)
    ∙ ap (λ (n : ℕ). half_up (n * s.m) s.d) (seen nat_abs s.z c.ranges.z c.unsigned_abs-size.ensures.value)

pub overflow_mul-size : goal.overflow_mul-size
overflow_mul-size c = omega (arith, parts c, c.requires.1.1)

pub overflow_add-size : goal.overflow_add-size
overflow_add-size c = omega (arith, parts c.before, c.requires.1.1)

pub with_sign_of-requires : goal.with_sign_of-requires
with_sign_of-requires c = omega (arith, parts c.before, c.requires.1.1)

pub returns : goal.returns
returns c = let h = parts c.before.before in search (rules, h)
