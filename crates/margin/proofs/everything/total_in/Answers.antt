-- The number behind the contracts'.
-- Assumes nothing.
use mathlib.Core.Path.{ap, ◌∙◌}
use Prim.Native.Nat.{ℕ, ◌*◌}
use native.Mathlib.Omega.{arith}
use lib.IntN.{pos, nat_abs}
use lib.ListN.{get_or}
use Rattle.formulas.specs.Bounds.{figures_each}
use Rattle.exact.proofs.Integers.{seen}
use Rattle.margin.proofs.everything.total_in.Goals as goal

pub overflow_mul-last : goal.overflow_mul-last
overflow_mul-last c = omega (arith, c.contract_total-last.ensures, c.requires)

pub offset_bounds-figures-last : goal.offset_bounds-figures-last
offset_bounds-figures-last c = omega (arith, c.contract_total-last.ensures, c.requires)

pub bounds-figures-last : goal.bounds-figures-last
bounds-figures-last c = omega (arith, c.contract_total-last.ensures, c.requires)

pub returns : goal.returns
returns c =
    let n = c.contract_total-last in
    let out = c.args.figures.now in
    seen nat_abs (get_or out (figures_each * n.result) (pos 0)) (record { sfits = c.magnitude-arg-1.given }) c.magnitude.ensures
    ∙ ap (λ (k : ℕ). nat_abs (get_or out (figures_each * k) (pos 0))) n.ensures
