-- `touches_of`: the same prompts and numbers, as plain ones.
-- Assumes nothing.
use mathlib.Core.Bool.{true}
use mathlib.Core.Path.{◌≡◌, ◌∙◌, ap, subst⁻¹}
use Rattle.spread.specs.Accepted.{open_of, steps_of, sound}
use Rattle.spread.specs.code.Lent.{spreads_from}
use Rattle.spread.specs.code.Passing.{FormedBy}
use Rattle.spread.specs.Touches.{touches}
use Rattle.spread.specs.declared.Prompts.{Prompts}
use Rattle.spread.proofs.Lent.{prompts_back}
use Rattle.spread.proofs.touches.touches_of.Goals as goal

pub touches_in-requires : goal.touches_in-requires
touches_in-requires c =
    let same = prompts_back c.args.prompts c.plain.result c.plain.ensures in
    let t = c.args.table in
    let formed = c.requires.1 in
    let first = spreads_from c.numbers_of.result in
    let second = spreads_from c.numbers_of-2.result in (
      subst⁻¹ (λ (p : Prompts). sound p t ≡ true) same c.requires.0,
      subst⁻¹ (λ (p : Prompts). FormedBy p t first second) same
          (record { firsts = c.numbers_of.ensures ∙ formed.firsts; seconds = c.numbers_of-2.ensures ∙ formed.seconds }),
    )

pub returns : goal.returns
returns c =
    c.touches_in.ensures
    ∙ ap (λ (p : Prompts). touches (steps_of c.args.table) (open_of p)) (prompts_back c.args.prompts c.plain.result c.plain.ensures)
