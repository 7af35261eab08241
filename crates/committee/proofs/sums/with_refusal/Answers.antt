-- One more at the place of its number, where it has one.
-- Assumes nothing.
use borrow.Author.Rules.{rules}
use native.Mathlib.Omega.{arith}
use mathlib.Core.Path.{◌≡◌}
use lib.ListN.{length}
use Rattle.committee.proofs.SumLaws.{uncounted, counted}
use Rattle.committee.proofs.sums.with_refusal.Goals as goal

pub returns-else-refusal-gt0 : goal.returns-else-refusal-gt0
returns-else-refusal-gt0 c =
    let s = c.args in
    let long : length s.refusals ≡ 15 = search rules in
    uncounted s.refusals s.refusal long (λ k l e. omega (arith, c.else-refusal-gt0.either))

pub returns-then-refusal-le-REFUSALS : goal.returns-then-refusal-le-REFUSALS
returns-then-refusal-le-REFUSALS c =
    let s = c.args in
    let long : length s.refusals ≡ 15 = search rules in
    counted s.refusals s.refusal long (omega (arith, c.if-refusal-gt0.true))
