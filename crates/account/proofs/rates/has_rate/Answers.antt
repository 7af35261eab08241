-- `has_rate`: a factor that is not 0.
-- Assumes nothing.
use mathlib.Core.Path.{◌≡◌, ◌∙◌, sym, ap}
use mathlib.Core.Bool.{Bool, false, not, ◌||◌}
use Prim.Native.Nat.{ℕ}
use lib.Dec.{eqb}
use lib.ListN.{get_or}
use borrow.Author.Tests.{ne_eqb}
use Rattle.exact.specs.Lists.{any}
use Rattle.record.specs.Layout.{currency}
use Rattle.account.specs.Products.{of_currency}
use Rattle.account.proofs.ProductLaws.{rate_known}
use Rattle.account.proofs.rates.has_rate.Goals as goal

pub returns-else-c-eq0 : goal.returns-else-c-eq0
returns-else-c-eq0 c =
    let row = c.args.row.now in
    let is : c.currency-c.result ≡ currency row = c.currency-c.ensures.0 in
    let some : eqb (currency row) 0 ≡ false = ne_eqb (currency row) 0 (λ e. c.if-c-eq0.false (is ∙ e)) in
    λ rates held within.
    ap (λ (n : ℕ). not (eqb n 0)) (ap (λ (k : ℕ). get_or c.args.t.raised k 0) is ∙ held.raised_are (currency row) c.requires)
    ∙ rate_known rates (currency row) within
    ∙ ap (λ (t : Bool). t || any (of_currency (currency row)) rates) (sym some)
