-- A step compared with what is sent for it: what is said of it, and the prompts as it leaves them.
-- Assumes nothing.
use Rattle.std.specs.Prelude.{ℕ, Bool, true, false, List, ◌≡◌, ℤ}
use Rattle.spread.specs.Accepted.{open_of, sound_prompts}
use Rattle.spread.specs.Steps.{step_of, formed, after}
use Rattle.spread.specs.Uses.{taken_of}
use Rattle.spread.specs.declared.Prompts.{Prompts}
use Rattle.spread.specs.declared.Spread.{Spread}
use Rattle.judging.specs.Judged.{alike, verdict_of}
use Rattle.judging.specs.declared.Compared.{Compared}
use Rattle.judging.specs.declared.Verdict.{Verdict}
use Rattle.judging.specs.declared.Verdict.TheVariants.{Right, MoreThanFormed, LessThanFormed, WrongUse, OtherCounts}

-- whether nothing is wrong
abbrev pub is_right : Verdict → Bool
is_right Right = true
is_right (MoreThanFormed step) = false
is_right (LessThanFormed step) = false
is_right (WrongUse step) = false
is_right OtherCounts = false

pub record ComparedTo (p : Prompts) (s : Spread) (second : Bool) (step : ℕ) (number : ℤ) (uses : List ℤ) (r : Compared) : Type 0 where
  pub verdict : r.verdict ≡ verdict_of step (formed (step_of second s) (open_of p)) number (alike uses (taken_of (step_of second s) (open_of p))) Right
  pub opens : open_of r.left ≡ after (step_of second s) (formed (step_of second s) (open_of p)) (open_of p)
  pub sound : sound_prompts r.left ≡ true
  pub count : r.left.count ≡ p.count
