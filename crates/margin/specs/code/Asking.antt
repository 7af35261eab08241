-- What a question asks about, as the code holds it.
-- Assumes nothing.
use Rattle.std.specs.Prelude.{◌≡◌, Bool, true, List, ◌*◌, length}
use Rattle.spread.specs.Accepted as given
use Rattle.spread.specs.Accepted.{open_of, sound_prompts, sound}
use Rattle.spread.specs.Steps.{step_of, Open, Taker, formed, after}
use Rattle.spread.specs.Uses.{uses_of}
use Rattle.spread.specs.declared.Delta.{Delta}
use Rattle.spread.specs.declared.Prompts.{Prompts}
use Rattle.spread.specs.declared.Spread.{Spread}
use Rattle.record.specs.Layout.{Record}
use Rattle.formulas.specs.declared.rows.Position.{Position}
use Rattle.formulas.specs.code.Promised.{BookFit}
use Rattle.margin.specs.declared.uses.Asking.{Asking}

-- prompts as a step leaves them, to be stepped over again
pub record LeftBy (p : Prompts) (s : Spread) (second : Bool) (r : Prompts) : Type 0 where
  pub opens : open_of r ≡ after (step_of second s) (formed (step_of second s) (open_of p)) (open_of p)
  pub sound : sound_prompts r ≡ true
  pub count : r.count ≡ p.count

-- net deltas of a position that some rows within their ranges come to
pub record NetsFit (prompts spreads : List Record) (nets : List Delta) : Type 0 where
  pub position : Position
  pub nets_are : position.nets ≡ nets
  pub fits : BookFit prompts spreads position

-- what a question asks about: its steps, over its prompts, and the steps accept it
pub record Asks (ss : List (List Taker)) (ps : List Open) (a : Asking) : Type 0 where
  pub steps : given.steps_of a.table ≡ ss
  pub opens : open_of a.prompts ≡ ps
  pub accepted : sound a.prompts a.table ≡ true
  pub many : length (uses_of ss ps) ≡ a.table.count * (2 * a.prompts.count)
