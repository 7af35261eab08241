-- Three numbers a prompt, one prompt after the other.
-- Assumes nothing.
use mathlib.Core.Path.{◌≡◌}
use Prim.Native.Nat.{◌*◌}
use lib.ListN.{length}
use lib.Seq.{sets}
use Rattle.margin.proofs.NumberLaws.{ToWrite, threes_on}
use Rattle.margin.proofs.numbers.put_prompts.Given as goal

abbrev pub invariant-loop-i : goal.invariant-loop-i
invariant-loop-i l = ToWrite l.prompts (threes_on l.prompts l.nets l.used l.unused)
    (sets l.initial.out 0 (threes_on l.prompts l.nets l.used l.unused 0)) l.i (l.i * 3) l.out × (length l.out ≡ length l.initial.out)
