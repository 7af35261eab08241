-- `sound_prompts`: what the iterator says of all prompts.
use mathlib.Core.Bool.{Bool, true, ◌&&◌}
use mathlib.Core.Path.{◌≡◌, sym, ◌∙◌, ap}
use Prim.Native.Nat.{ℕ, ◌<◌}
use lib.ListN.{length, get_or}
use Rattle.std.proofs.iter.runs.Sources.{ranges}
use Rattle.spread.proofs.Gathering.{no_delta}
use borrow.Author.Rules.{rules}
use borrow.Author.Tests.{le-leb}
use Rattle.std.specs.Prelude.{◌↔◌, IsTrue}
use Rattle.spread.specs.Accepted.{every, open_of, sound_prompt, prompt_places}
use Rattle.spread.proofs.Every.{prompts_all}
use Rattle.spread.proofs.accepted.sound_prompts.Goals as goal

pub returns-then-prompts-le-MOST_PROMPTS : goal.returns-then-prompts-le-MOST_PROMPTS
returns-then-prompts-le-MOST_PROMPTS c =
    let p = c.args.prompts in
    let e : IsTrue c.all.result
    ↔ ((k : ℕ) → k < p.count → sound_prompt (record { tier = get_or p.tier k 0; unused = (get_or p.net k no_delta).0 }) ≡ true) = search (rules, ranges) in
    let lt : length p.tier ≡ prompt_places = search rules in
    let ln : length p.net ≡ prompt_places = search rules in
    prompts_all sound_prompt p c.all.result 0 no_delta lt ln c.if-prompts-le-MOST_PROMPTS.true e
    ∙ sym (ap (λ (b : Bool). b && every sound_prompt (open_of p)) (le-leb p.count prompt_places c.if-prompts-le-MOST_PROMPTS.true))
