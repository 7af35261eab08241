-- Refusal and record of an answer, in their place among the lent numbers.
-- Assumes nothing.
use mathlib.Core.Path.{ap₂, ◌∙◌}
use mathlib.Core.List.{[], ◌∷◌, ◌++◌}
use Prim.Native.Nat.{ℕ, ◌+◌, ◌*◌}
use native.Mathlib.Omega.{arith}
use lib.ListN.{length-set, take, drop}
use Rattle.runs.specs.Runs.{outcome_numbers}
use Rattle.runs.proofs.PlaceLaws.{two_at}
use Rattle.runs.proofs.place_outcome.Goals as goal

pub bounds-out-at-2 : goal.bounds-out-at-2
bounds-out-at-2 c =
    let l = length-set c.args.out.now (outcome_numbers * c.args.place) c.number_of.result in
    let p = c.requires in
    omega (arith, l, p)

pub returns : goal.returns
returns c =
    let out = c.args.out.now in
    let at = outcome_numbers * c.args.place in
    two_at out at c.number_of.result c.record_of.result c.requires
    ∙ ap₂ (λ (x y : ℕ). take at out ++ ((x ∷ y ∷ []) ++ drop (at + outcome_numbers) out)) c.number_of.ensures c.record_of.ensures
