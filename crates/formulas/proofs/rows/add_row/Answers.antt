-- `add_row`: by the row's currency and the contract's unit.
-- Assumes nothing.
use mathlib.Core.Path.{◌≡◌, sym, ◌∙◌, ap, ap₂, subst}
use mathlib.Core.Bool.{Bool, true, false, cond}
use mathlib.Core.List.{List}
use Prim.Native.Nat.{ℕ, ◌+◌, ◌≤◌}
use native.Mathlib.Omega.{arith}
use lib.Dec.{eqb}
use lib.IntN.{ℤ, pos, nat_abs, ◌*ℤ◌}
use lib.ListN.{get_or}
use borrow.Author.Tests.{eq-eqb, ne_eqb}
use mir.Syntax.{w64}
use mir.Val.{to_z, of_z}
use Rattle.exact.specs.Rounding.{half_away_to}
use Rattle.exact.proofs.Integers.{back}
use Rattle.exact.proofs.UnitLaws.{one_away}
use Rattle.record.specs.Layout.{Record, lots, value, loss, currency, most_currency, scenario_count}
use Rattle.account.specs.Products.{in_own, rate_for, raised, lowered, converted, converted_at, most_conversion, most_factor, most_per_tick}
use Rattle.account.specs.code.Rates.{RatesOf}
use Rattle.formulas.specs.code.Position.{Added, FactorsFit, products, own_products, converted_products}
use Rattle.formulas.specs.code.Raised.{SumsRoom, settled}
use Rattle.formulas.proofs.AddedLaws.{same_added}
use Rattle.formulas.proofs.PositionBounds.{product_most}
use Rattle.formulas.proofs.RaisedLaws.{totals-added, totals-room, sums_added, sums_room}
use Rattle.formulas.proofs.rows.add_row.Goals as goal
use Rattle.formulas.proofs.rows.add_row.Goals.{After-factors_of, After-per_tick-each, Else-c-ne0, Start}

-- what a row comes to, by whether it is in the margin currency
abbrev by-currency : List Record → Record → ℕ → Bool → ℤ
by-currency rates row s own = cond own (in_own s row) (converted (rate_for rates (currency row)) (in_own s row))

-- the factors are those of the row's currency
module _ (c : After-factors_of) where
  abbrev row : Record
  row = c.args.row.now

  number : c.currency-c.result ≡ currency row
  number = c.currency-c.ensures.0

  other : eqb (currency row) 0 ≡ false
  other = ne_eqb (currency row) 0 (λ e. c.if-c-ne0.true (number ∙ e))

  raised_is : (rates : List Record) → RatesOf rates c.args.rates → currency row ≤ most_currency
      → c.factors_of.result.raised ≡ raised (rate_for rates (currency row))
  raised_is rates held small =
      c.factors_of.ensures.0
      ∙ ap (λ (k : ℕ). get_or c.args.rates.raised k 0) number
      ∙ held.raised_are (currency row) small

  lowered_is : (rates : List Record) → RatesOf rates c.args.rates → currency row ≤ most_currency
      → c.factors_of.result.lowered ≡ lowered (rate_for rates (currency row))
  lowered_is rates held small =
      c.factors_of.ensures.1
      ∙ ap (λ (k : ℕ). get_or c.args.rates.lowered k 0) number
      ∙ held.lowered_are (currency row) small

  factors-fit : FactorsFit c.factors_of.result.raised c.factors_of.result.lowered row
  factors-fit =
      let rated = c.requires.1.1.0 in
      let here = rated.each 0 (omega arith) in
      let up = raised_is rated.rates rated.held here.currency_within in
      let down = lowered_is rated.rates rated.held here.currency_within in
      record {
        up_within = subst (λ (n : ℕ). n ≤ most_factor) (sym up) here.raised_within;
        down_within = subst (λ (n : ℕ). n ≤ most_factor) (sym down) here.lowered_within;
        conversion_within =
            λ s l h.
            subst (λ (z : ℤ). nat_abs z ≤ most_conversion)
            (ap (by-currency rated.rates row s) other ∙ sym (ap₂ (λ (x y : ℕ). converted_at x y (in_own s row)) up down))
            (here.conversion_within s l h);
      }

-- a row that the totals have, the sums being as they were
module _ (s : Start) (us : List ℤ)
    (a : (held : List Record) → RatesOf held s.args.rates
    → Added scenario_count (products held s.args.unit s.args.row.now) s.args.totals.now us) where
  in-totals : ((held : List Record) → RatesOf held s.args.rates → Added scenario_count (products held s.args.unit s.args.row.now)
      (settled s.args.totals.now s.args.sums.now s.args.sizes) (settled us s.args.sums.now s.args.sizes))
      × ((n : ℕ) → SumsRoom n s.args.totals.now s.args.sums.now s.args.sizes → SumsRoom (n + 1) us s.args.sums.now s.args.sizes)
  in-totals =
      let row = s.args.row.now in
      let ts = s.args.totals.now in
      let sums = s.args.sums.now in
      let sizes = s.args.sizes in
      let by = s.requires.1.1.0 in (
        λ held is. totals-added ts us sums sizes (products held s.args.unit row) s.requires.1.1.1.totals_most.as_many (a held is),
        λ n r.
            totals-room n ts us sums sizes (products by.rates s.args.unit row) r (a by.rates by.held)
            (λ k h. product_most by.rates s.args.unit s.requires.0 row (by.each 0 (omega arith)) (k + 1) (omega arith) (omega arith)),
      )

-- a row in the margin currency
own_is : (c : Else-c-ne0) → eqb (currency c.args.row.now) 0 ≡ true
own_is c = eq-eqb (currency c.args.row.now) 0 (sym c.currency-c.ensures.0 ∙ c.if-c-ne0.false)

-- lots × value, as its calls have it
module _ (c : After-per_tick-each) where
  abbrev each : ℤ
  each = to_z w64 (of_z w64 c.per_tick-each.result)

  each_is : each ≡ c.per_tick-each.result
  each_is = back c.per_tick-each.result (record { sfits = c.per_tick-each.type_inv })

  each-most : nat_abs each ≤ most_per_tick
  each-most = omega (arith, ap nat_abs each_is, c.per_tick-each.ensures.size)

pub factors_of-requires : goal.factors_of-requires
factors_of-requires c =
    omega (arith, c.currency-c.ensures.0, (c.requires.1.1.0.each 0 (omega arith)).currency_within)

pub add_converted-requires : goal.add_converted-requires
add_converted-requires c =
    (c.requires.0, (c.requires.1.0, (factors-fit c, c.requires.1.1.1.totals_most)))

pub returns-then-c-ne0 : goal.returns-then-c-ne0
returns-then-c-ne0 c =
    let row = c.args.row.now in
    let f = c.factors_of.result in
    let unit = c.args.unit in
    let small = (c.requires.1.1.0.each 0 (omega arith)).currency_within in
    let both =
    in-totals (goal.at.returns-then-c-ne0 c).Start c.add_converted.new.totals
    (λ held is.
    same_added scenario_count (converted_products f.raised f.lowered unit row) (products held unit row) c.args.totals.now c.add_converted.new.totals
    (λ k.
    ap₂ (λ (up down : ℕ). half_away_to (converted_at up down (in_own (k + 1) row)) unit) (raised_is (goal.at.returns-then-c-ne0 c).After-factors_of held is small)
    (lowered_is (goal.at.returns-then-c-ne0 c).After-factors_of held is small)
    ∙ ap (λ (t : Bool). half_away_to (by-currency held row (k + 1) t) unit) (sym (other (goal.at.returns-then-c-ne0 c).After-factors_of)))
    c.add_converted.ensures)
    in record { added = both.0; room = both.1 }

pub returns-then-unit-ne1 : goal.returns-then-unit-ne1
returns-then-unit-ne1 c =
    let row = c.args.row.now in
    let unit = c.args.unit in
    let both =
    in-totals (goal.at.returns-then-unit-ne1 c).Start c.add_own.new.totals
    (λ held is.
    same_added scenario_count (own_products unit row) (products held unit row) c.args.totals.now c.add_own.new.totals
    (λ k. ap (λ (t : Bool). half_away_to (by-currency held row (k + 1) t) unit) (sym (own_is (goal.at.returns-then-unit-ne1 c).Else-c-ne0))) c.add_own.ensures)
    in record { added = both.0; room = both.1 }

pub returns : goal.returns
returns c =
    let row = c.args.row.now in
    let unit = c.args.unit in
    let ts = c.args.totals.now in
    let xs = c.args.sums.now in
    let ys = c.add_raised.new.sums in
    let e = c.args.sizes in
    let z = each (goal.at.returns c).After-per_tick-each in
    let z-is : z ≡ lots row *ℤ pos (value row) = each_is (goal.at.returns c).After-per_tick-each ∙ c.per_tick-each.ensures.is in
    let again = sym (ap (λ (m : ℕ). e + m) c.magnitude.ensures) in record {
      added = λ held is.
          subst (λ (m : ℕ). Added scenario_count (products held unit row) (settled ts xs e) (settled ts ys m)) again
          (same_added scenario_count (λ k. z *ℤ loss row (k + 1)) (products held unit row) (settled ts xs e) (settled ts ys (e + nat_abs z))
          (λ k.
          ap (λ (y : ℤ). y *ℤ loss row (k + 1)) z-is
          ∙ sym (one_away (in_own (k + 1) row))
          ∙ ap (half_away_to (in_own (k + 1) row)) (sym c.if-unit-ne1.false)
          ∙ ap (λ (t : Bool). half_away_to (by-currency held row (k + 1) t) unit) (sym (own_is (goal.at.returns c).Else-c-ne0)))
          (sums_added ts xs ys e z row c.requires.1.1.1.totals_most.as_many c.requires.1.0 c.add_raised.ensures));
      room = λ n r.
          subst (λ (m : ℕ). SumsRoom (n + 1) ts ys m) again
          (sums_room n ts xs ys e z row r c.requires.1.0 (each-most (goal.at.returns c).After-per_tick-each) c.add_raised.ensures);
    }
