use native.Mathlib.Omega.{arith}
use mathlib.Core.Path.{◌≡◌, refl, ◌∙◌, ap}
use lib.ListN.{length, get_or}
use Rattle.spread.specs.Accepted.{spread_places}
use Rattle.spread.specs.code.Lent.{spreads_from}
use Rattle.spread.specs.declared.Spreads.{Spreads}
use Rattle.spread.proofs.Filling.{filled_none, filled_next}
use Rattle.spread.proofs.Lent.{filled-from, spreads_back}
use Rattle.spread.proofs.Running.{no_spreads}
use Rattle.spread.proofs.plain.numbers_of.Goals as goal

pub loop-i-init : goal.loop-i-init
loop-i-init c = filled_none spread_places 0 (λ j. (get_or c.args.spreads j no_spreads).0)

pub loop-i-preserved : goal.loop-i-preserved
loop-i-preserved c =
    let l = c.loop-i in
    let ss = c.args.spreads in
    filled_next spread_places 0 (λ j. (get_or ss j no_spreads).0) l.i l.numbers _ l.invariant (omega arith) refl

pub returns : goal.returns
returns c =
    let l = c.loop-i in
    let ss = c.args.spreads in
    let len : length ss ≡ spread_places = c.well_formed.0.1.0.1 in
    ap spreads_from (filled-from (λ (x : Spreads). x.0) spread_places no_spreads ss l.i l.numbers len (omega arith) l.invariant) ∙ spreads_back ss
