-- The walks over rows: what is added so far, that there is room for the next row, and what is added in the end.
-- Assumes nothing.
use mathlib.Core.Path.{◌≡◌, refl, sym, ◌∙◌, ap, ap₂, subst, subst₂}
use mathlib.Core.List.{List, [], ◌∷◌, ◌++◌}
use Prim.Native.Nat.{ℕ, ◌+◌, ◌-◌, ◌*◌, ◌≤◌, ◌<◌}
use native.Mathlib.Numerals.{add-one}
use native.Mathlib.Omega.{arith}
use lib.IntN.{ℤ, nat_abs, ◌+ℤ◌, +ℤ_idr}
use lib.ListN.{length, get_or, take, length-take}
use lib.Seq.{take-suc, take_all}
use Rattle.account.specs.Check.{most_rows}
use Rattle.spread.specs.Accepted.{prompt_places}
use Rattle.spread.specs.code.Lent.{deltas_from}
use Rattle.record.specs.Layout.{Record, day, scenario_count, hundred_thousand, most_unit}
use Rattle.formulas.specs.Bounds.{most_delta, most_product, most_row_delta}
use Rattle.formulas.specs.Scanning.{total}
use Rattle.formulas.specs.Deltas.{row_delta}
use Rattle.formulas.specs.Margin.{short_options, short_lots}
use Rattle.formulas.specs.declared.rows.Days.{Days}
use Rattle.formulas.specs.declared.rows.Position.{Position}
use Rattle.formulas.specs.code.Position.{RowFit, RowsFit, AtMost, Added, Bounded, WithRows, products, adds_on, net_on, position_in, deltas_in}
use Rattle.formulas.specs.code.Position.{rows_net}
use Rattle.formulas.proofs.AddedLaws.{nothing-added, twice, at_most_added, at_most_wider}
use Rattle.spread.proofs.Lent.{deltas_again}
use Rattle.formulas.proofs.PositionLaws.{total_append, total_one, net_append, net_one, rows_net_append, shorts_append}
use Rattle.formulas.proofs.PositionBounds.{Rated, total_most, net_most, rows_net_most, short-lots_most, each_take}

-- one row more
passed_row : (rows : List Record) (i : ℕ) (row : Record) → i < length rows → get_or rows i [] ≡ row → take i rows ++ row ∷ [] ≡ take (i + 1) rows
passed_row rows i row h e =
    ap (λ (r : Record). take i rows ++ r ∷ []) (sym e) ∙ sym (take-suc rows i [] h) ∙ ap (λ (m : ℕ). take m rows) (sym (add-one i))

-- the net deltas with it, and that there is room for it
pub nets_next : (rows : List Record) (count : ℕ) (days : List ℕ) (i : ℕ) (ns ms ms' : List ℤ) (row : Record) → i < length rows → get_or rows i [] ≡ row
    → Added count (λ j. net_on (take i rows) (get_or days j 0)) ns ms → Added count (adds_on days (day row) (row_delta row)) ms ms'
    → Added count (λ j. net_on (take (i + 1) rows) (get_or days j 0)) ns ms'
nets_next rows count days i ns ms ms' row h e =
    twice count (λ j. net_on (take i rows) (get_or days j 0)) (adds_on days (day row) (row_delta row)) (λ j. net_on (take (i + 1) rows) (get_or days j 0)) ns ms ms'
    (λ j l.
    ap (λ (z : ℤ). net_on (take i rows) (get_or days j 0) +ℤ z) (net_one row (get_or days j 0))
    ∙ sym (net_append (take i rows) (row ∷ []) (get_or days j 0))
    ∙ ap (λ (rs : List Record). net_on rs (get_or days j 0)) (passed_row rows i row h e))

pub nets_room : (rows : List Record) (count : ℕ) (days : List ℕ) (ns : List ℤ) → RowsFit rows → AtMost prompt_places ((most_rows - length rows) * most_row_delta) ns
    → (i n : ℕ) (ms : List ℤ) → Added count (λ j. net_on (take i rows) (get_or days j 0)) ns ms → most_rows - length rows + i ≤ n
    → AtMost prompt_places (n * most_row_delta) ms
nets_room rows count days ns w most i n ms a h =
    let few : length (take i rows) ≤ i = omega (arith, length-take i rows) in
    at_most_wider prompt_places ((most_rows - length rows) * most_row_delta + length (take i rows) * most_row_delta) (n * most_row_delta) ms (omega arith)
    (at_most_added prompt_places count ((most_rows - length rows) * most_row_delta) (length (take i rows) * most_row_delta)
    (λ j. net_on (take i rows) (get_or days j 0)) ns ms
    most a (λ j l. net_most (take i rows) (each_take RowFit rows i w.each) (get_or days j 0)))

-- the net delta of all rows together with it, and that there is room for it
pub rows_net_next : (rows : List Record) (i : ℕ) (z r : ℤ) (row : Record) → i < length rows → get_or rows i [] ≡ row → z ≡ rows_net (take i rows)
    → r ≡ z +ℤ row_delta row → r ≡ rows_net (take (i + 1) rows)
rows_net_next rows i z r row h e so_far f =
    f
    ∙ ap₂ ◌+ℤ◌ so_far (sym (+ℤ_idr (row_delta row)))
    ∙ sym (rows_net_append (take i rows) (row ∷ []))
    ∙ ap rows_net (passed_row rows i row h e)

pub rows_net-room : (rows : List Record) → RowsFit rows → (i : ℕ) (z : ℤ) → z ≡ rows_net (take i rows) → nat_abs z ≤ most_delta
rows_net-room rows w i z e =
    let most = rows_net_most (take i rows) (each_take RowFit rows i w.each) in
    omega (arith, ap nat_abs e, length-take i rows, w.few)

-- totals us are ts with the first i rows, whose short lots are v
pub record SoFar (rates : List Record) (unit : ℕ) (rows : List Record) (ts : List ℤ) (i : ℕ) (us : List ℤ) (v : ℕ) : Type 0 where
  pub passed : i ≤ length rows
  pub totals_so_far : Added scenario_count (λ k. total rates unit (take i rows) (k + 1)) ts us
  pub shorts_so_far : v ≡ short_lots (take i rows)

module _ (rates : List Record) (unit : ℕ) (rows : List Record) (ts : List ℤ) where
  pub start : SoFar rates unit rows ts 0 ts 0
  start =
      record {
        passed = omega arith;
        totals_so_far = nothing-added scenario_count (λ k. total rates unit [] (k + 1)) ts (λ k. refl);
        shorts_so_far = refl;
      }

  pub next : (i : ℕ) (us us' : List ℤ) (v v' : ℕ) (row : Record) → SoFar rates unit rows ts i us v → i < length rows → get_or rows i [] ≡ row
      → Added scenario_count (products rates unit row) us us' → v' ≡ v + short_options row → SoFar rates unit rows ts (i + 1) us' v'
  next i us us' v v' row s h e t o =
      let passed = passed_row rows i row h e in
      record {
        passed = omega arith;
        totals_so_far =
            twice scenario_count (λ k. total rates unit (take i rows) (k + 1)) (products rates unit row)
            (λ k. total rates unit (take (i + 1) rows) (k + 1)) ts us us'
            (λ k l.
            ap (λ (z : ℤ). total rates unit (take i rows) (k + 1) +ℤ z) (total_one rates unit row (k + 1))
            ∙ sym (total_append rates unit (take i rows) (row ∷ []) (k + 1))
            ∙ ap (λ (rs : List Record). total rates unit rs (k + 1)) passed)
            s.totals_so_far t;
        shorts_so_far =
            let one : short_lots (take i rows ++ row ∷ []) ≡ short_lots (take i rows) + (short_options row + 0) = shorts_append (take i rows) (row ∷ []) in
            let all : short_lots (take i rows ++ row ∷ []) ≡ short_lots (take (i + 1) rows) = ap short_lots passed in
            omega (arith, s.shorts_so_far);
      }

  pub shorts_room : RowsFit rows → (i : ℕ) (us : List ℤ) (v : ℕ) → SoFar rates unit rows ts i us v → v ≤ most_rows * hundred_thousand
  shorts_room w i us v s =
      omega (arith, s.shorts_so_far, short-lots_most (take i rows) (each_take RowFit rows i w.each), length-take i rows, w.few)

  pub finish : (i : ℕ) (us : List ℤ) (v : ℕ) → length rows ≤ i → SoFar rates unit rows ts i us v
      → Added scenario_count (λ k. total rates unit rows (k + 1)) ts us × (v ≡ short_lots rows)
  finish i us v h s =
      subst (λ (rs : List Record). Added scenario_count (λ k. total rates unit rs (k + 1)) ts us × (v ≡ short_lots rs)) (take_all i rows h)
      (s.totals_so_far, s.shorts_so_far)

-- ---- a position of lent numbers

pub nets_lent : {n : ℕ} (us ms : List ℤ) (v : ℕ) → Bounded n (position_in us ms v) → AtMost prompt_places (n * most_row_delta) ms
nets_lent {n} us ms v b = subst (λ (zs : List ℤ). AtMost prompt_places (n * most_row_delta) zs) (deltas_again ms) b.nets_most

pub bounded_lent : {n : ℕ} (us ms : List ℤ) (v : ℕ) → AtMost scenario_count (n * most_product) us → AtMost prompt_places (n * most_row_delta) ms
    → v ≤ n * hundred_thousand
    → Bounded n (position_in us ms v)
bounded_lent {n} us ms v totals nets shorts =
    record {
      totals_most = totals;
      nets_most = subst (λ (zs : List ℤ). AtMost prompt_places (n * most_row_delta) zs) (sym (deltas_again ms)) nets;
      shorts_most = shorts;
    }

module _ (rates : List Record) (unit : ℕ) (rows : List Record) (days : Days) (ts ns us ms : List ℤ) (v : ℕ)
    (t : Added scenario_count (λ k. total rates unit rows (k + 1)) ts us) (n : Added days.count (λ j. net_on rows (get_or days.day j 0)) ns ms)
    (o : v ≡ short_lots rows) where
  pub all_added : WithRows rates unit days (position_in ts ns 0) rows (position_in us ms v)
  all_added =
      record {
        totals-added = t;
        nets_added = subst₂ (λ (xs ys : List ℤ). Added days.count (λ j. net_on rows (get_or days.day j 0)) xs ys) (sym (deltas_again ns))
            (sym (deltas_again ms)) n;
        shorts_added = omega (arith, o);
      }

  pub all_most : unit ≤ most_unit → RowsFit rows → Rated rates rows → Bounded (most_rows - length rows) (position_in ts ns 0)
      → Bounded most_rows (position_in us ms v)
  all_most hu w rated b =
      bounded_lent us ms v
      (at_most_wider scenario_count ((most_rows - length rows) * most_product + length rows * most_product) (most_rows * most_product) us
      (omega (arith, w.few))
      (at_most_added scenario_count scenario_count ((most_rows - length rows) * most_product) (length rows * most_product)
      (λ k. total rates unit rows (k + 1)) ts us
      b.totals_most t (λ k l. total_most rates unit hu rows rated (k + 1) (omega arith) (omega arith))))
      (nets_room rows days.count days.day ns w (nets_lent ts ns 0 b) (length rows) most_rows ms
      (subst (λ (rs : List Record). Added days.count (λ j. net_on rs (get_or days.day j 0)) ns ms) (sym (take_all (length rows) rows (omega arith))) n)
      (omega (arith, w.few)))
      (omega (arith, o, short-lots_most rows w.each, w.few))

-- a position with what rows add to its numbers
module _ (rates : List Record) (unit : ℕ) (rows : List Record) (days : Days) (p : Position) (ts ns : List ℤ) (n : ℕ)
    (w : WithRows rates unit days (position_in p.totals.0 (deltas_in p.nets) 0) rows (position_in ts ns n)) where
  pub with_lent : WithRows rates unit days p rows (position_in ts ns (p.shorts + n))
  with_lent =
      record {
        totals-added = w.totals-added;
        nets_added = subst (λ (xs : List ℤ). Added days.count (λ j. net_on rows (get_or days.day j 0)) xs (deltas_in (deltas_from ns)))
            (deltas_again (deltas_in p.nets)) w.nets_added;
        shorts_added = omega (arith, w.shorts_added);
      }

  pub with_most : RowsFit rows → Bounded (most_rows - length rows) p → Bounded most_rows (position_in ts ns n)
      → Bounded most_rows (position_in ts ns (p.shorts + n))
  with_most fit b m =
      record {
        totals_most = m.totals_most;
        nets_most = m.nets_most;
        shorts_most = omega (arith, w.shorts_added, b.shorts_most, short-lots_most rows fit.each, fit.few);
      }
