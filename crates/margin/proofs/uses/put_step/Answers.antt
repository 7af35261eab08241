-- What a step takes is written, and what it leaves is handed back.
-- Assumes nothing.
use mathlib.Core.Path.{◌≡◌, ap, ◌∙◌}
use borrow.Author.Rules.{rules}
use lib.ListN.{length}
use lib.Seq.{sets}
use Rattle.spread.specs.Accepted.{sound_prompts, sound_spread, prompt_places}
use Rattle.spread.proofs.Both.{and_left}
use Rattle.spread.proofs.Gathering.{few}
use Rattle.margin.proofs.UsesLaws.{left_by, taken_is}
use Rattle.margin.proofs.uses.put_step.Goals as goal

pub put_deltas-requires : goal.put_deltas-requires
put_deltas-requires c =
    let p = c.args.prompts in
    (few p (and_left (sound_prompts p) (sound_spread c.args.spread) c.requires.0), c.requires.1)

pub returns : goal.returns
returns c =
    let p = c.args.prompts in
    let d = c.args.spread in
    let step = c.step_over-step in
    let lt : length p.tier ≡ prompt_places = search rules in
    let ln : length p.net ≡ prompt_places = search rules in (
      left_by p d c.args.second step.result step.ensures c.requires.0,
      c.put_deltas.ensures ∙ ap (sets c.args.out.now c.args.at)
          (taken_is p d c.args.second step.result step.ensures c.requires.0 lt ln (few p (and_left (sound_prompts p) (sound_spread d) c.requires.0))),
    )
