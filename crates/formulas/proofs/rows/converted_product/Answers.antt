-- `converted_product`: at most what 15 lets pass, and half of a unit more.
-- Assumes nothing.
use Rattle.std.proofs.Common.{◌≡◌, ◌∙◌, ap, subst, sym, ◌≤◌, ℤ, nat_abs, ◌*ℤ◌}
use Rattle.exact.specs.Rounding.{half_away_to}
use Rattle.exact.proofs.Integers.{back}
use Rattle.account.specs.Products.{converted_at}
use Rattle.formulas.specs.Bounds.{most_product}
use Rattle.formulas.proofs.Calls.{handed}
use Rattle.formulas.proofs.ProductLaws.{rounded_most, half_fits, product_fits, product_size, product_is}
use Rattle.formulas.proofs.SignedCalls.{sized_back}
use Rattle.formulas.proofs.rows.converted_product.Goals as goal
use Rattle.formulas.proofs.rows.converted_product.Goals.{After-converted}

-- the product, converted
module _ (c : After-converted) where
  abbrev z : ℤ
  z = converted_at c.args.f.raised c.args.f.lowered (c.args.each *ℤ c.args.loss)

  is : c.converted.result ≡ z
  is =
      c.converted.ensures
      ∙ ap (converted_at c.args.f.raised c.args.f.lowered)
      (product_is c.args.each c.args.loss c.ranges.each c.ranges.loss c.requires.0 c.requires.1.0)

  read : handed c.converted.result ≡ z
  read = back c.converted.result (record { sfits = c.converted.type_inv }) ∙ is

pub overflow_mul-each : goal.overflow_mul-each
overflow_mul-each c = product_fits c.args.each c.args.loss c.ranges.each c.ranges.loss c.requires.0 c.requires.1.0

pub converted-requires : goal.converted-requires
converted-requires c = (
  rw (product_is c.args.each c.args.loss c.ranges.each c.ranges.loss c.requires.0 c.requires.1.0)
      (product_size c.args.each c.args.loss c.ranges.each c.ranges.loss c.requires.0 c.requires.1.0),
  (c.requires.1.1.1.0, c.requires.1.1.1.1.0),
)

pub half_away_to-requires : goal.half_away_to-requires
half_away_to-requires c =
    rw (read c) (half_fits c.args.unit (z c) c.requires.1.1.0 c.requires.1.1.1.1.1)

pub returns : goal.returns
returns c =
    let at = (goal.at.returns c).After-converted in
    let same : c.half_away_to.result ≡ half_away_to (z at) c.args.unit =
    c.half_away_to.ensures ∙ ap (λ (x : ℤ). half_away_to x c.args.unit) (read at)
    in
    sized_back c.half_away_to.result (record { sfits = c.half_away_to.type_inv })
    (record {
      is = same;
      size =
          subst (λ (r : ℤ). nat_abs r ≤ most_product) (sym same) (rounded_most c.args.unit (z at) c.requires.1.1.0 c.requires.1.1.1.1.1);
    })
