-- The figures of an account, in its place among the lent numbers.
-- Assumes nothing.
use mathlib.Core.Path.{◌≡◌, ap, ◌∙◌}
use Prim.Native.Nat.{ℕ, ◌+◌, ◌-◌, ◌*◌}
use native.Mathlib.Omega.{arith}
use lib.ListN.{length, length-drop, take, drop}
use lib.Seq.{length-take-le}
use Rattle.formulas.specs.Bounds.{longest_figures}
use Rattle.questions.specs.Questions.{figures_answer, after_figures}
use Rattle.margin.proofs.PlaceLaws.{put-place}
use Rattle.runs.proofs.place_figures.Goals as goal

pub returns : goal.returns
returns c =
    let out = c.args.out.now in
    let at = longest_figures * c.args.place in
    let f = c.answer.ensures in
    let width : at + longest_figures - at ≡ longest_figures = omega arith in
    let d = length-drop at out in
    let lent : length (take (at + longest_figures - at) (drop at out)) ≡ longest_figures =
    ap (λ (n : ℕ). length (take n (drop at out))) width ∙ length-take-le longest_figures (drop at out) (let p = c.requires in omega (arith, d, p))
    in (
      f.0 ∙ ap (figures_answer c.args.account.now) lent,
      put-place longest_figures at out c.answer.new.out
          (after_figures c.args.account.now) f.1,
    )
