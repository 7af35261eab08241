use mathlib.Core.Path.{◌≡◌, ◌∙◌, sym, ap, subst}
use mathlib.Core.List.{List, ◌∷◌}
use Prim.Native.Nat.{ℕ, ◌+◌, ◌-◌}
use native.Mathlib.Omega.{arith}
use Rattle.record.specs.Layout.{Record}
use Rattle.account.specs.code.Rates.{RatesOf}
use Rattle.account.specs.Records.{record_at, record_count}
use Rattle.account.proofs.Walk.{cut_on}
use Rattle.account.proofs.rates.rates_of.Invariants.{from-here}
use Rattle.account.proofs.rates.rates_of.Goals as goal

pub loop-i-preserved : goal.loop-i-preserved
loop-i-preserved c =
    let file = c.args.rates.now in
    let i = c.loop-i in
    let back_one : i.i - 1 + 1 ≡ i.i = omega arith in
    let more : from-here file (i.i - 1) ≡ record_at file (i.i - 1) ∷ from-here file i.i =
    cut_on file (record_count file) (i.i - 1) (omega arith)
    ∙ ap (λ (k : ℕ). record_at file (i.i - 1) ∷ from-here file k) back_one in
    subst (λ (rates : List Record). RatesOf rates c.put_rate.new.t)
    (ap (λ (r : Record). r ∷ from-here file i.i) c.whole_at.ensures ∙ sym more)
    (c.put_rate.ensures (from-here file i.i) i.invariant)
