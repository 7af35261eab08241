-- `compare`: the step that is taken, its number and its uses beside those that are sent.
-- Assumes nothing.
use mathlib.Core.Path.{◌≡◌}
use borrow.Author.Rules.{rules}
use lib.ListN.{length}
use Prim.Native.Nat.{◌≤◌}
use native.Mathlib.Omega.{arith}
use Rattle.spread.specs.Accepted.{sound_prompts, sound_spread, prompt_places}
use Rattle.spread.proofs.Both.{and_left}
use Rattle.spread.proofs.Gathering.{few}
use Rattle.exact.proofs.Integers.{seen}
use lib.IntN.{ℤ}
use Rattle.judging.specs.Judged.{verdict_of}
use Rattle.judging.specs.declared.Verdict.TheVariants.{Right}
use Rattle.judging.proofs.Walking.{compared}
use Rattle.judging.proofs.compare.Goals as goal

pub same_uses-alike-requires : goal.same_uses-alike-requires
same_uses-alike-requires c =
    let p = c.args.prompts in
    let n : p.count ≤ prompt_places = few p (and_left (sound_prompts p) (sound_spread c.args.spread) c.requires.0) in
    omega (arith, c.requires.1)

pub returns : goal.returns
returns c =
    let a = c.args in
    let p = a.prompts in
    let st = c.step_over-taking in
    let lt : length p.tier ≡ prompt_places = search rules in
    let ln : length p.net ≡ prompt_places = search rules in
    compared p a.spread a.second st.result st.ensures c.requires.0 lt ln a.step a.number a.uses.now c.requires.1
    c.verdict_of.result c.same_uses-alike.result c.same_uses-alike.ensures
    (seen (λ (z : ℤ). verdict_of a.step st.result.number.0 z c.same_uses-alike.result Right) a.number c.ranges.number
    c.verdict_of.ensures)
