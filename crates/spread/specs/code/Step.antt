-- What comes back for one step over prompts.
-- Assumes nothing.
use Rattle.std.specs.Prelude.{Bool, false, cond, [], ◌∷◌, ◌≡◌, pos, replicate}
use Rattle.spread.specs.Accepted.{open_of, sound_prompts, prompt_places}
use Rattle.spread.specs.code.Book.{by_place, delta_entry}
use Rattle.spread.specs.Steps.{step_of, formed, after, unused_of}
use Rattle.spread.specs.declared.Prompts.{Prompts}
use Rattle.spread.specs.declared.Spread.{Spread}
use Rattle.spread.specs.declared.stepwise.Step.{Step}
use Rattle.spread.specs.Uses.{taken_of, sound_for}

-- The promise: the number formed, what is taken of prompt k at place k, and the prompts with what is left of each; which are
-- the prompts that the step leaves, and can be stepped over again.
pub record Stepped (p : Prompts) (s : Spread) (second : Bool) (r : Step) : Type 0 where
  pub accepted : r.accepted ≡ sound_for p s
  pub number : r.number.0 ≡ cond (sound_for p s) (formed (step_of second s) (open_of p)) 0
  pub taken : r.taken ≡ by_place prompt_places (delta_entry (cond (sound_for p s) (taken_of (step_of second s) (open_of p)) []))
  pub count : r.left.count ≡ p.count
  pub tiers : r.left.tier ≡ p.tier
  pub nets : r.left.net ≡ cond (sound_for p s) (by_place prompt_places (delta_entry (unused_of (step_of second s ∷ []) (open_of p)))) p.net
  pub leaves : open_of r.left ≡ cond (sound_for p s) (after (step_of second s) (formed (step_of second s) (open_of p)) (open_of p)) (open_of p)
  pub sound : sound_prompts r.left ≡ sound_prompts p

pub record NotTaken (p : Prompts) (r : Step) : Type 0 where
  pub accepted : r.accepted ≡ false
  pub number : r.number.0 ≡ 0
  pub taken : r.taken ≡ replicate prompt_places (record { 0 = pos 0 })
  pub left : r.left ≡ p
