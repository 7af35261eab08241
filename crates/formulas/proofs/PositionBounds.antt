-- How large totals, net deltas and short lots of rows within their ranges can be.
-- Assumes nothing.
use mathlib.Core.Path.{◌≡◌, refl, sym, ◌∙◌, ap, subst}
use mathlib.Core.Bool.{Bool, true, false, cond}
use mathlib.Core.List.{List, [], ◌∷◌, map}
use Prim.Native.Nat.{ℕ, suc, ◌+◌, ◌*◌, ◌≤◌, ◌<◌, zero-le}
use native.Mathlib.Nat.{le_refl, le_trans, mul-le-mul_right, not-suc-le-zero}
use native.Mathlib.Omega.{arith}
use lib.Dec.{eqb, ltb}
use lib.IntN.{ℤ, pos, negsuc, nat_abs}
use Rattle.exact.proofs.UnitLaws.{away_above}
use lib.ListN.{length, get_or, take, length-take}
use lib.Seq.{get_or-take}
use borrow.Author.Tests.{ltb-true, ltb-false}
use Rattle.exact.specs.Lists.{cons_if, keep, sum_ℤ}
use Rattle.record.specs.Layout.{Record, day, lots, delta, row_type, scenario_count, hundred_thousand, most_unit}
use Rattle.formulas.specs.declared.rows.Position.{Position}
use Rattle.formulas.specs.Bounds.{most_product, most_row_delta}
use Rattle.formulas.specs.Scanning.{in_hundredths, product, total}
use Rattle.formulas.specs.Deltas.{row_delta, of_day}
use Rattle.formulas.specs.Margin.{short, short_options, short_lots}
use Rattle.formulas.specs.code.Position.{RowFit, RowRated, RowsFit, PositionOf, Bounded, deltas_in, net_on, rows_net}
use Rattle.formulas.proofs.SignedCalls.{abs_times, abs_plus}
use Rattle.formulas.proofs.PositionLaws.{totals_at, net_here}

-- ---- of one row

pub product_most : (rates : List Record) (unit : ℕ) → unit ≤ most_unit → (row : Record) → RowRated rates row → (s : ℕ) → 1 ≤ s → s ≤ scenario_count
    → nat_abs (product rates unit s row) ≤ most_product
product_most rates unit hu row w s l h = omega (arith, w.conversion_within s l h, away_above unit (in_hundredths rates s row))

pub delta_most : (row : Record) → RowFit row → nat_abs (row_delta row) ≤ most_row_delta
delta_most row w = abs_times (lots row) (delta row) w.lots_within w.delta_within

short_le : (z : ℤ) → short z ≤ nat_abs z
short_le (pos n) = zero-le
short_le (negsuc n) = le_refl (suc n)

pub shorts_most : (row : Record) → RowFit row → short_options row ≤ hundred_thousand
shorts_most row w = go (eqb (row_type row) 0)
  where
    go : (t : Bool) → cond t 0 (short (lots row)) ≤ hundred_thousand
    go true = zero-le
    go false = le_trans (short_le (lots row)) w.lots_within

-- ---- of several

abbrev pub Each : List Record → Type 0
Each rows = (k : ℕ) → k < length rows → RowFit (get_or rows k [])

-- and each at its rate
abbrev pub Rated : List Record → List Record → Type 0
Rated rates rows = (k : ℕ) → k < length rows → RowRated rates (get_or rows k [])

pub total_most : (rates : List Record) (unit : ℕ) → unit ≤ most_unit → (rows : List Record) → Rated rates rows → (s : ℕ) → 1 ≤ s → s ≤ scenario_count
    → nat_abs (total rates unit rows s) ≤ length rows * most_product
total_most rates unit hu [] e s l h = zero-le
total_most rates unit hu (row ∷ rows) e s l h =
    let one = product_most rates unit hu row (e 0 (omega arith)) s l h in
    let rest = total_most rates unit hu rows (λ k l. e (suc k) (omega arith)) s l h in
    let both = abs_plus (product rates unit s row) (total rates unit rows s) one rest in
    omega arith

pub net_most : (rows : List Record) → Each rows → (d : ℕ) → nat_abs (net_on rows d) ≤ length rows * most_row_delta
net_most [] e d = zero-le
net_most (row ∷ rows) e d = go (of_day d row) (net_most rows (λ k l. e (suc k) (omega arith)) d)
  where
    go : (t : Bool) → nat_abs (net_on rows d) ≤ length rows * most_row_delta → nat_abs (sum_ℤ (map row_delta (cons_if t row (keep (of_day d) rows)))) ≤ suc
        (length rows) * most_row_delta
    go true rest =
        let both = abs_plus (row_delta row) (net_on rows d) (delta_most row (e 0 (omega arith))) rest in
        omega arith
    go false rest = omega arith

pub rows_net_most : (rows : List Record) → Each rows → nat_abs (rows_net rows) ≤ length rows * most_row_delta
rows_net_most [] e = zero-le
rows_net_most (row ∷ rows) e =
    let both = abs_plus (row_delta row) (rows_net rows) (delta_most row (e 0 (omega arith))) (rows_net_most rows (λ k l. e (suc k) (omega arith))) in
    omega arith

pub short-lots_most : (rows : List Record) → Each rows → short_lots rows ≤ length rows * hundred_thousand
short-lots_most [] e = zero-le
short-lots_most (row ∷ rows) e =
    let one = shorts_most row (e 0 (omega arith)) in
    let rest = short-lots_most rows (λ k l. e (suc k) (omega arith)) in
    omega arith

-- ---- of a position

-- the nets of the prompts and those past them
net_place : (rates : List Record) (unit : ℕ) (prompts rows : List Record) (p : Position) → Each rows → PositionOf rates unit prompts rows p → (j : ℕ)
    → nat_abs (get_or (deltas_in p.nets) j (pos 0)) ≤ length rows * most_row_delta
net_place rates unit prompts rows p e is j = go (ltb j (length prompts)) refl
  where
    go : (t : Bool) → ltb j (length prompts) ≡ t → nat_abs (get_or (deltas_in p.nets) j (pos 0)) ≤ length rows * most_row_delta
    go true h =
        subst (λ (z : ℤ). nat_abs z ≤ length rows * most_row_delta) (sym (net_here rates unit prompts rows p is j (ltb-true j (length prompts) h)))
        (net_most rows e (day (get_or prompts j [])))
    go false h =
        subst (λ (z : ℤ). nat_abs z ≤ length rows * most_row_delta) (sym (is.nets_beyond j (ltb-false j (length prompts) h))) zero-le

pub bounded : (rates : List Record) (unit : ℕ) → unit ≤ most_unit → (prompts rows : List Record) (p : Position) → RowsFit rows → Rated rates rows
    → PositionOf rates unit prompts rows p → Bounded (length rows) p
bounded rates unit hu prompts rows p w rated is =
    record {
      totals_most =
          record {
            as_many = ap length is.totals_are;
            size = λ k h.
                subst (λ (z : ℤ). nat_abs z ≤ length rows * most_product)
                (sym (ap (λ (zs : List ℤ). get_or zs k (pos 0)) is.totals_are ∙ totals_at rates unit rows k h))
                (total_most rates unit hu rows rated (k + 1) (omega arith) (omega arith));
          };
      nets_most = record { as_many = is.places; size = λ j h. net_place rates unit prompts rows p w.each is j };
      shorts_most = subst (λ (n : ℕ). n ≤ length rows * hundred_thousand) (sym is.shorts_are) (short-lots_most rows w.each);
    }

pub no_rows : RowsFit []
no_rows = record { few = zero-le; each = λ k h. absurd (not-suc-le-zero h) }

-- what n rows cannot go past, m rows cannot either
pub wider : (n m : ℕ) (p : Position) → n ≤ m → Bounded n p → Bounded m p
wider n m p h b =
    record {
      totals_most = record { as_many = b.totals_most.as_many; size = λ k l. le_trans (b.totals_most.size k l) (mul-le-mul_right most_product h) };
      nets_most = record { as_many = b.nets_most.as_many; size = λ j l. le_trans (b.nets_most.size j l) (mul-le-mul_right most_row_delta h) };
      shorts_most = le_trans b.shorts_most (mul-le-mul_right hundred_thousand h);
    }

pub each_take : (P : Record → Type 0) (rows : List Record) (n : ℕ) → ((k : ℕ) → k < length rows → P (get_or rows k [])) → (k : ℕ)
    → k < length (take n rows) → P (get_or (take n rows) k [])
each_take P rows n e k h =
    let n-above : k < n = omega (arith, length-take n rows) in
    let rows_above : k < length rows = omega (arith, length-take n rows) in
    subst P (sym (get_or-take n rows k [] n-above)) (e k rows_above)
