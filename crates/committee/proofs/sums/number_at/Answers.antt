-- The two counts, the refusals, and the numbers after them.
-- Assumes nothing.
use borrow.Author.Rules.{rules}
use native.Mathlib.Omega.{arith}
use mathlib.Core.Path.{◌≡◌, sym, ◌∙◌}
use lib.ListN.{length}
use Rattle.committee.proofs.SumLaws.{refusal_at, later_at}
use Rattle.committee.proofs.sums.number_at.Goals as goal

pub returns-else-k : goal.returns-else-k
returns-else-k c =
    let s = c.args in
    let long : length s.sums.refusals ≡ 15 = search rules in
    c.later_number.ensures ∙ sym (later_at s.sums long s.k (omega arith))

pub returns-then-k : goal.returns-then-k
returns-then-k c =
    let s = c.args in
    let long : length s.sums.refusals ≡ 15 = search rules in
    sym (refusal_at s.sums long s.k (omega arith) (omega arith))
