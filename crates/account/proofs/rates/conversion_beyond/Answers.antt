-- `conversion_beyond`: by the table's factors of the row's currency.
-- Assumes nothing.
use mathlib.Core.Path.{◌≡◌, ◌∙◌, sym, ap, ap₂, subst}
use mathlib.Core.Bool.{Bool, false, not, ◌&&◌, cond}
use mathlib.Core.List.{List}
use Prim.Native.Nat.{ℕ, ◌≤◌}
use lib.Dec.{eqb, ltb}
use lib.IntN.{ℤ, pos, nat_abs, ◌*ℤ◌}
use lib.ListN.{get_or}
use borrow.Author.Tests.{ne_eqb}
use Rattle.exact.specs.Lists.{any}
use Rattle.exact.proofs.Integers.{back}
use Rattle.record.specs.Bytes.{count_from}
use Rattle.record.specs.Layout.{Record, currency, lots, value, loss, scenario_count}
use Rattle.account.specs.Products.{in_own, rate_for, raised, lowered, converted_at, converted, most_conversion, most_factor, most_per_tick}
use Rattle.account.specs.code.Rates.{RatesOf}
use Rattle.account.proofs.ProductLaws.{factors_within}
use Rattle.account.proofs.rates.conversion_beyond.Goals as goal
use Rattle.account.proofs.rates.conversion_beyond.Goals.{After-factors_of}

-- the refusal, by whether the row is in the margin currency
abbrev by-currency : List Record → Record → Bool → Bool
by-currency rates row own =
    not own && any (λ s. ltb most_conversion (nat_abs (cond own (in_own s row) (converted (rate_for rates (currency row)) (in_own s row)))))
    (count_from 1 scenario_count)

abbrev by-factors : Record → ℕ → ℕ → ℤ → Bool
by-factors row up down each = any (λ s. ltb most_conversion (nat_abs (converted_at up down (each *ℤ loss row s)))) (count_from 1 scenario_count)

-- the factors are those of the row's currency
module _ (c : After-factors_of) where
  abbrev row : Record
  row = c.args.row.now

  raised_is : (rates : List Record) → RatesOf rates c.args.t → c.factors_of.result.raised ≡ raised (rate_for rates (currency row))
  raised_is rates held =
      c.factors_of.ensures.0
      ∙ ap (λ (k : ℕ). get_or c.args.t.raised k 0) c.currency-c.ensures.0
      ∙ held.raised_are (currency row) c.requires.0.currencies

  lowered_is : (rates : List Record) → RatesOf rates c.args.t → c.factors_of.result.lowered ≡ lowered (rate_for rates (currency row))
  lowered_is rates held =
      c.factors_of.ensures.1
      ∙ ap (λ (k : ℕ). get_or c.args.t.lowered k 0) c.currency-c.ensures.0
      ∙ held.lowered_are (currency row) c.requires.0.currencies

pub beyond_in_any-requires : goal.beyond_in_any-requires
beyond_in_any-requires c =
    let h = c.requires.1 in
    let w = factors_within h.rates (currency c.args.row.now) h.within in (
      subst (λ (z : ℤ). nat_abs z ≤ most_per_tick) (sym (back c.per_tick.result (record { sfits = c.per_tick.type_inv }))) c.per_tick.ensures.size,
      (
        c.requires.0,
        (
          subst (λ (n : ℕ). n ≤ most_factor) (sym (raised_is (goal.at.beyond_in_any-requires c).After-factors_of h.rates h.held)) w.up,
          subst (λ (n : ℕ). n ≤ most_factor) (sym (lowered_is (goal.at.beyond_in_any-requires c).After-factors_of h.rates h.held)) w.down,
        ),
      ),
    )

pub returns-then-c-ne0 : goal.returns-then-c-ne0
returns-then-c-ne0 c =
    let row = c.args.row.now in
    let t = c.per_tick in
    let is = c.currency-c.ensures.0 in
    let other : eqb (currency row) 0 ≡ false = ne_eqb (currency row) 0 (λ e. c.if-c-ne0.true (is ∙ e)) in
    λ rates held.
    c.beyond_in_any.ensures
    ∙ ap (by-factors row c.factors_of.result.raised c.factors_of.result.lowered) (back t.result (record { sfits = t.type_inv }) ∙ t.ensures.is)
    ∙ ap₂ (λ (up down : ℕ). by-factors row up down (lots row *ℤ pos (value row))) (raised_is (goal.at.returns-then-c-ne0 c).After-factors_of rates held) (lowered_is (goal.at.returns-then-c-ne0 c).After-factors_of rates held)
    ∙ ap (by-currency rates row) (sym other)
