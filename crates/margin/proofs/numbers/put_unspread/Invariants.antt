-- Of each prompt three numbers, and 0 after them.
-- Assumes nothing.
use mathlib.Core.Path.{◌≡◌}
use Prim.Native.Nat.{◌*◌}
use lib.ListN.{length}
use lib.Seq.{sets}
use Rattle.margin.proofs.NumberLaws.{ToWrite, rest_on}
use Rattle.margin.proofs.numbers.put_unspread.Given as goal

abbrev pub invariant-loop-i : goal.invariant-loop-i
invariant-loop-i l = ToWrite l.prompts (rest_on l.prompts l.nets) (sets l.initial.out 0 (rest_on l.prompts l.nets 0)) l.i (l.i * 3) l.out
    × (length l.out ≡ length l.initial.out)
