use native.Mathlib.Omega.{arith}
use lib.IntN.{ℤ, pos}
use lib.ListN.{get_or}
use borrow.Author.Rules.{rules}
use Rattle.spread.specs.Accepted.{prompt_places}
use Rattle.spread.proofs.Filling.{filled_none, filled_next}
use Rattle.spread.proofs.Gathering.{no_delta}
use Rattle.spread.proofs.Lent.{filled-from}
use Rattle.spread.proofs.plain.deltas_from.Goals as goal

pub loop-k-init : goal.loop-k-init
loop-k-init c = filled_none prompt_places no_delta (λ j. record { 0 = get_or c.args.numbers j (pos 0) })

pub loop-k-preserved : goal.loop-k-preserved
loop-k-preserved c =
    let l = c.loop-k in
    let zs = c.args.numbers in
    filled_next prompt_places no_delta (λ j. record { 0 = get_or zs j (pos 0) }) l.k l.deltas _ l.invariant (omega arith)
    (search rules)

pub returns : goal.returns
returns c =
    let l = c.loop-k in
    filled-from (λ (z : ℤ). record { 0 = z }) prompt_places (pos 0) c.args.numbers l.k l.deltas c.well_formed.0.1.0.1 (omega arith) l.invariant
