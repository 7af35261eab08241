use native.Mathlib.Omega.{arith}
use mathlib.Core.Path.{◌≡◌}
use lib.IntN.{pos}
use lib.ListN.{length, get_or}
use borrow.Author.Rules.{rules}
use Rattle.spread.specs.Accepted.{prompt_places}
use Rattle.spread.specs.declared.Delta.{Delta}
use Rattle.spread.proofs.Filling.{filled_none, filled_next}
use Rattle.spread.proofs.Gathering.{no_delta}
use Rattle.spread.proofs.Lent.{filled-from}
use Rattle.spread.proofs.plain.plain.Goals as goal

pub loop-k-init : goal.loop-k-init
loop-k-init c = filled_none prompt_places (pos 0) (λ j. (get_or c.args.deltas j no_delta).0)

pub loop-k-preserved : goal.loop-k-preserved
loop-k-preserved c =
    let l = c.loop-k in
    let ds = c.args.deltas in
    filled_next prompt_places (pos 0) (λ j. (get_or ds j no_delta).0) l.k l.numbers _ l.invariant (omega arith)
    (search rules)

pub returns : goal.returns
returns c =
    let l = c.loop-k in
    let ds = c.args.deltas in
    let len : length ds ≡ prompt_places = c.well_formed.0.1.0.1 in
    filled-from (λ (d : Delta). d.0) prompt_places no_delta ds l.k l.numbers len (omega arith) l.invariant
