-- `product`: at most 1,000,000,000 × 100,000, and half of a unit more.
-- Assumes nothing.
use Rattle.std.proofs.Common.{◌≡◌, ◌∙◌, ap, subst, sym, ◌≤◌, ℤ, nat_abs, ◌*ℤ◌}
use Rattle.exact.specs.Rounding.{half_away_to}
use Rattle.formulas.specs.Bounds.{most_product}
use Rattle.formulas.proofs.ProductLaws.{rounded_most, half_fits, product_size, product_is}
use Rattle.formulas.proofs.SignedCalls.{sized_back}
use Rattle.formulas.proofs.rows.product.Goals as goal

pub half_away_to-requires : goal.half_away_to-requires
half_away_to-requires c =
    let a = c.args in
    rw (product_is a.each a.loss c.ranges.each c.ranges.loss c.requires.0 c.requires.1)
    (half_fits a.unit (a.each *ℤ a.loss) c.requires.2 (product_size a.each a.loss c.ranges.each c.ranges.loss c.requires.0 c.requires.1))

pub returns : goal.returns
returns c =
    let a = c.args in
    let z = a.each *ℤ a.loss in
    let is : c.half_away_to.result ≡ half_away_to z a.unit =
    c.half_away_to.ensures ∙ ap (λ (x : ℤ). half_away_to x a.unit) (product_is a.each a.loss c.ranges.each c.ranges.loss c.requires.0 c.requires.1)
    in
    sized_back c.half_away_to.result (record { sfits = c.half_away_to.type_inv })
    (record {
      is = is;
      size =
          subst (λ (r : ℤ). nat_abs r ≤ most_product) (sym is)
          (rounded_most a.unit z c.requires.2 (product_size a.each a.loss c.ranges.each c.ranges.loss c.requires.0 c.requires.1));
    })
