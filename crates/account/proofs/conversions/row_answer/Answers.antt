-- The two tests of a row, in their order.
-- Assumes nothing.
use borrow.Author.Tests.{eq-eqb}
use mathlib.Core.Path.{◌≡◌, sym, ap, ◌∙◌}
use mathlib.Core.Bool.{Bool, not, ◌&&◌, ◌||◌}
use Rattle.exact.specs.Lists.{any}
use Rattle.record.specs.Bytes.{count_from}
use Rattle.record.specs.Layout.{currency, scenario_count}
use Rattle.account.specs.Products.{of_currency, beyond_in}
use Rattle.account.proofs.RateLaws.{row_none, row_beyond, row_unrated}
use Rattle.account.proofs.conversions.row_answer.Goals as goal

pub returns-then-currency-eq0 : goal.returns-then-currency-eq0
returns-then-currency-eq0 c rates of each =
    let r = c.args.row.now in
    let none : currency r ≡ 0 = sym c.currency.ensures.0 ∙ c.if-currency-eq0.true in
    let margin = eq-eqb (currency r) 0 none in
    row_none rates c.args.k r c.requires.0.is_row
    (ap (λ (t : Bool). t || any (of_currency (currency r)) rates) margin)
    (ap (λ (t : Bool). not t && any (beyond_in rates r) (count_from 1 scenario_count)) margin)

pub has_rate-requires : goal.has_rate-requires
has_rate-requires c =
    c.requires.0.within.currencies

pub conversion_beyond-requires : goal.conversion_beyond-requires
conversion_beyond-requires c =
    (c.requires.0.within, c.requires.1)

pub returns-then-conversion_beyond : goal.returns-then-conversion_beyond
returns-then-conversion_beyond c rates of each =
    row_beyond rates c.args.k c.args.row.now c.requires.0.is_row
    (sym (c.has_rate.ensures rates of each) ∙ c.if-has_rate.true)
    (sym (c.conversion_beyond.ensures rates of) ∙ c.if-conversion_beyond.true)

pub returns-then-has_rate : goal.returns-then-has_rate
returns-then-has_rate c rates of each =
    row_none rates c.args.k c.args.row.now c.requires.0.is_row
    (sym (c.has_rate.ensures rates of each) ∙ c.if-has_rate.true)
    (sym (c.conversion_beyond.ensures rates of) ∙ c.if-conversion_beyond.false)

pub returns : goal.returns
returns c rates of each =
    row_unrated rates c.args.k c.args.row.now c.requires.0.is_row
    (sym (c.has_rate.ensures rates of each) ∙ c.if-has_rate.false)
