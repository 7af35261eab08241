-- A line after the other is read, and put again with its credit; and the total after them.
-- Assumes nothing.
use mathlib.Core.Path.{◌≡◌}
use mathlib.Core.List.{List}
use Prim.Native.Nat.{ℕ, ◌*◌, ◌≤◌}
use lib.IntN.{ℤ, pos}
use lib.ListN.{length, get_or}
use lib.Seq.{sets}
use Rattle.formulas.specs.declared.amount.Amount.{Amount}
use Rattle.formulas.specs.Bounds.{most_risk, figures_each}
use Rattle.formulas.proofs.SumLaws as sums
use Rattle.margin.specs.code.Tabled.{lines_at, credits_at}
use Rattle.margin.proofs.NumberLaws.{ToWrite, eights_on, total_on}
use Rattle.margin.proofs.tabled.put_credits.Given as goal

-- the lines that stood when the walk began, and their credits
abbrev pub credits : List ℕ → List ℤ → List Amount
credits earned out = credits_at earned (lines_at out)

abbrev pub invariant-loop-i : goal.invariant-loop-i
invariant-loop-i l =
    ToWrite l.count (eights_on l.count (lines_at l.initial.out) (credits l.earned l.initial.out)) (sets l.initial.out 0 (eights_on l.count (lines_at l.initial.out) (credits l.earned l.initial.out) 0)) l.i
    (l.i * figures_each) l.out
    × (sums.ToGo l.count (3 * most_risk) (total_on l.count (lines_at l.initial.out) (credits l.earned l.initial.out)) l.i l.total
    × ((length l.out ≡ length l.initial.out) × ((k : ℕ) → l.i * figures_each ≤ k → get_or l.out k (pos 0) ≡ get_or l.initial.out k (pos 0))))
