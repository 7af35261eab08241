-- The records at the place, of the file that it names.
-- Assumes nothing.
use Prim.Native.Nat.{ℕ}
use mathlib.Core.Path.{ap, ◌∙◌}
use mathlib.Core.Bool.{cond}
use mathlib.Core.List.{List}
use lib.Dec.{eqb}
use Rattle.account.specs.Records.{stretch}
use Rattle.account.specs.declared.noon.Place.{Place}
use Rattle.account.proofs.noon.prompts.Goals as goal

pub returns : goal.returns
returns c =
    let p = c.prompt_place-place in
    c.stretch.ensures
    ∙ ap (λ (f : List ℕ). stretch f p.result.first p.result.records) c.supplier-file.ensures
    ∙ ap (λ (q : Place). stretch (cond (eqb q.file 2) c.args.noon.now c.args.morning.now) q.first q.records) p.ensures
