use Prim.Native.Nat.{ℕ}
use native.Mathlib.Omega.{arith}
use mathlib.Core.Path.{refl}
use lib.ListN.{get_or}
use Rattle.spread.specs.Accepted.{spread_places}
use Rattle.spread.proofs.Filling.{filled_none, filled_next}
use Rattle.spread.proofs.Running.{no_spreads}
use Rattle.spread.proofs.Lent.{filled-from}
use Rattle.spread.proofs.plain.spreads_from.Goals as goal

pub loop-i-init : goal.loop-i-init
loop-i-init c = filled_none spread_places no_spreads (λ j. record { 0 = get_or c.args.numbers j 0 })

pub loop-i-preserved : goal.loop-i-preserved
loop-i-preserved c =
    let l = c.loop-i in
    let ns = c.args.numbers in
    filled_next spread_places no_spreads (λ j. record { 0 = get_or ns j 0 }) l.i l.spreads _ l.invariant (omega arith) refl

pub returns : goal.returns
returns c =
    let l = c.loop-i in
    filled-from (λ (n : ℕ). record { 0 = n }) spread_places 0 c.args.numbers l.i l.spreads c.well_formed.0.1.0.1 (omega arith) l.invariant
