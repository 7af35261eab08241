-- Request 2026-10 of document 02, 'The clearing house's own spread list': what is said of a list of spreads that others send.
-- Numbers of spreads and uses are in ten-thousandths.
-- Assumes nothing.
use Rattle.std.specs.Prelude.{ℕ, suc, ◌*◌, Bool, true, false, cond, not, ◌&&◌, List, [], ◌∷◌, eqb, ℤ, pos, length, take, drop}
use Rattle.std.specs.Int.Signed.{lt_z}
use Rattle.spread.specs.Accepted.{open_of, steps_of, sound}
use Rattle.spread.specs.Steps.{Open, Taker, formed, after}
use Rattle.spread.specs.Uses.{taken_of}
use Rattle.spread.specs.declared.Prompts.{Prompts}
use Rattle.spread.specs.declared.Table.{Table}
use Rattle.judging.specs.declared.Verdict.{Verdict}
use Rattle.judging.specs.declared.Verdict.TheVariants.{Right, MoreThanFormed, LessThanFormed, WrongUse, OtherCounts}

-- "Some members send us the spreads they say were formed: for each step its number and, per prompt, what it used."
pub record Told : Type 0 where
  pub number : ℤ
  pub used : List ℤ

-- as it is lent: a number for each step; the uses of one step after the other, one for each prompt
abbrev pub told_of : ℕ → List ℤ → List ℤ → List Told
told_of prompts [] uses = []
told_of prompts (x ∷ numbers) uses = record { number = x; used = take prompts uses } ∷ told_of prompts numbers (drop prompts uses)

-- neither is below the other
abbrev pub level : ℤ → ℤ → Bool
level a b = not (lt_z a b) && not (lt_z b a)

abbrev pub alike : List ℤ → List ℤ → Bool
alike [] [] = true
alike [] (y ∷ ys) = false
alike (x ∷ xs) [] = false
alike (x ∷ xs) (y ∷ ys) = level x y && alike xs ys

-- "its number is more than can be formed, or less, or the number is right and some prompt's use is not"
abbrev pub verdict_of : ℕ → ℕ → ℤ → Bool → Verdict → Verdict
verdict_of step most number rightUses otherwise =
    cond (lt_z (pos most) number) (MoreThanFormed step)
    (cond (lt_z number (pos most)) (LessThanFormed step)
    (cond rightUses otherwise (WrongUse step)))

-- "name the first step that is wrong, and why": what the steps before, all right till then, have left is handed to the next
abbrev pub judged_from : ℕ → List (List Taker) → List Open → List Told → Verdict
judged_from step [] ps [] = Right
judged_from step [] ps (t ∷ ts) = OtherCounts
judged_from step (s ∷ ss) ps [] = OtherCounts
judged_from step (s ∷ ss) ps (t ∷ ts) =
    verdict_of step (formed s ps) t.number (alike t.used (taken_of s ps)) (judged_from (suc step) ss (after s (formed s ps) ps) ts)

-- "step count or prompt count differs from the account's": a number for each step, and a use for each prompt in each step
abbrev pub same_counts : ℕ → ℕ → ℕ → ℕ → ℕ → Bool
same_counts steps prompts sent numbers uses = eqb numbers steps && (eqb sent prompts && eqb uses (steps * prompts))

-- "Steps count from 0; uses are signed as in 01."
abbrev pub judged_list : List (List Taker) → List Open → ℕ → List ℤ → List ℤ → Verdict
judged_list ss ps sent numbers uses =
    cond (same_counts (length ss) (length ps) sent (length numbers) (length uses)) (judged_from 0 ss ps (told_of sent numbers uses)) OtherCounts

-- prompts and spreads that are not accepted have no list
abbrev pub judged : Prompts → Table → ℕ → List ℤ → List ℤ → Verdict
judged p t sent numbers uses = cond (sound p t) (judged_list (steps_of t) (open_of p) sent numbers uses) OtherCounts
