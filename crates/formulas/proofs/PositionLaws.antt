-- What one row more does to totals, net deltas and short lots, and how large they can be.
-- Assumes nothing.
use mathlib.Core.Path.{◌≡◌, refl, sym, ◌∙◌, ap, ap₂, subst}
use mathlib.Core.Bool.{Bool, true, false, cond}
use mathlib.Core.List.{List, [], ◌∷◌, ◌++◌, map, map-append}
use Prim.Native.Nat.{ℕ, zero, suc, ◌+◌, ◌≤◌, ◌<◌}
use native.Mathlib.Omega.{arith}
use borrow.Author.Tests.{ltb-true, ltb-false}
use lib.Dec.{eqb, eqb→eq, ltb}
use lib.IntN.{ℤ, pos, ◌+ℤ◌, +ℤ_idl, +ℤ_idr}
use lib.ListN.{length, get_or, take, replicate, length-map, get_or-eq_default}
use lib.Seq.{ext_get_or, get_or-take, length-take-le}
use Rattle.exact.specs.Lists.{cons_if, keep, sum, sum_ℤ}
use Rattle.exact.proofs.Table.{at}
use Rattle.exact.proofs.Lists.{keep_append, sum_append, sum_ℤ_append, get_d_map}
use Rattle.record.specs.Layout.{Record, day, scenario_count}
use Rattle.spread.specs.declared.Delta.{Delta}
use Rattle.spread.specs.Accepted.{prompt_places}
use Rattle.formulas.specs.declared.rows.Days.{Days}
use Rattle.formulas.specs.declared.rows.Position.{Position}
use Rattle.formulas.specs.Scanning.{product, total, scenarios, totals}
use Rattle.formulas.specs.Deltas.{row_delta, of_day, net_delta, net_deltas}
use Rattle.formulas.specs.Margin.{short_options, short_lots}
use Rattle.formulas.specs.code.Position.{Added, DaysOf, PositionOf, WithRows, net_on, rows_net, with_nets, position_in, deltas_in}
use Rattle.formulas.proofs.AddedLaws.{same_deltas}
use Rattle.spread.proofs.Lent.{deltas_again}

-- ---- rows before and rows after

pub total_append : (rates : List Record) (unit : ℕ) (xs ys : List Record) (s : ℕ)
    → total rates unit (xs ++ ys) s ≡ total rates unit xs s +ℤ total rates unit ys s
total_append rates unit xs ys s =
    ap sum_ℤ (map-append (product rates unit s) xs ys) ∙ sum_ℤ_append (map (product rates unit s) xs) (map (product rates unit s) ys)

pub rows_net_append : (xs ys : List Record) → rows_net (xs ++ ys) ≡ rows_net xs +ℤ rows_net ys
rows_net_append xs ys = ap sum_ℤ (map-append row_delta xs ys) ∙ sum_ℤ_append (map row_delta xs) (map row_delta ys)

pub net_append : (xs ys : List Record) (d : ℕ) → net_on (xs ++ ys) d ≡ net_on xs d +ℤ net_on ys d
net_append xs ys d = ap rows_net (keep_append (of_day d) xs ys) ∙ rows_net_append (keep (of_day d) xs) (keep (of_day d) ys)

pub shorts_append : (xs ys : List Record) → short_lots (xs ++ ys) ≡ short_lots xs + short_lots ys
shorts_append xs ys = ap sum (map-append short_options xs ys) ∙ sum_append (map short_options xs) (map short_options ys)

-- ---- one row

pub total_one : (rates : List Record) (unit : ℕ) (row : Record) (s : ℕ) → product rates unit s row ≡ total rates unit (row ∷ []) s
total_one rates unit row s = sym (+ℤ_idr (product rates unit s row))

pub net_one : (row : Record) (d : ℕ) → cond (of_day d row) (row_delta row) (pos 0) ≡ net_on (row ∷ []) d
net_one row d = go (of_day d row)
  where
    go : (t : Bool) → cond t (row_delta row) (pos 0) ≡ sum_ℤ (map row_delta (cons_if t row []))
    go true = sym (+ℤ_idr (row_delta row))
    go false = refl

-- ---- place by place

numbered : ℕ → ℕ → Bool
numbered k s = eqb s (k + 1)

scenario_at : (k : ℕ) → k < scenario_count → get_or scenarios k 0 ≡ k + 1
unfolding numbered
scenario_at k h = eqb→eq (get_or scenarios k 0) (k + 1) (at numbered scenarios tt k h)

pub totals_at : (rates : List Record) (unit : ℕ) (rows : List Record) (k : ℕ) → k < scenario_count
    → get_or (totals rates unit rows) k (pos 0) ≡ total rates unit rows (k + 1)
totals_at rates unit rows k h = get_d_map (total rates unit rows) scenarios k 0 (pos 0) h ∙ ap (total rates unit rows) (scenario_at k h)

pub nets_at : (prompts rows : List Record) (j : ℕ) → j < length prompts → get_or (net_deltas prompts rows) j (pos 0) ≡ net_delta rows (get_or prompts j [])
nets_at prompts rows j h = get_d_map (net_delta rows) prompts j [] (pos 0) h

-- a position's net at a place
pub net_here : (rates : List Record) (unit : ℕ) (prompts rows : List Record) (p : Position) → PositionOf rates unit prompts rows p → (j : ℕ)
    → j < length prompts → get_or (deltas_in p.nets) j (pos 0) ≡ net_delta rows (get_or prompts j [])
net_here rates unit prompts rows p is j h =
    sym (get_or-take (length prompts) (deltas_in p.nets) j (pos 0) h)
    ∙ ap (λ (zs : List ℤ). get_or zs j (pos 0)) is.nets_are
    ∙ nets_at prompts rows j h

-- ---- no rows

pub zeros : (n j : ℕ) → get_or (replicate n (pos 0)) j (pos 0) ≡ pos 0
zeros zero j = refl
zeros (suc n) zero = refl
zeros (suc n) (suc j) = zeros n j

pub nothing : (rates : List Record) (unit : ℕ) (prompts : List Record) (p : Position) → length prompts ≤ prompt_places
    → p.totals.0 ≡ replicate scenario_count (pos 0)
    → deltas_in p.nets ≡ replicate prompt_places (pos 0) → p.shorts ≡ 0 → PositionOf rates unit prompts [] p
nothing rates unit prompts p few et en es =
    let thirty_two : length (deltas_in p.nets) ≡ prompt_places = ap length en in
    let here : (j : ℕ) → get_or (deltas_in p.nets) j (pos 0) ≡ pos 0 = λ j. ap (λ (zs : List ℤ). get_or zs j (pos 0)) en ∙ zeros prompt_places j in
    let as_many : length (take (length prompts) (deltas_in p.nets)) ≡ length prompts = length-take-le (length prompts) (deltas_in p.nets) (omega arith) in
    record {
      totals_are = et;
      nets_are =
          ext_get_or (pos 0) (take (length prompts) (deltas_in p.nets)) (net_deltas prompts []) (as_many ∙ sym (length-map prompts (net_delta [])))
          (λ j h.
          let l : j < length prompts = omega arith in
          get_or-take (length prompts) (deltas_in p.nets) j (pos 0) l ∙ here j ∙ sym (nets_at prompts [] j l));
      nets_beyond = λ j h. here j;
      places = thirty_two;
      shorts_are = es;
    }

-- in lent arrays of zeros
pub nothing_lent : (rates : List Record) (unit : ℕ) (prompts : List Record) (ts ns : List ℤ) → length prompts ≤ prompt_places
    → ts ≡ replicate scenario_count (pos 0) → ns ≡ replicate prompt_places (pos 0) → PositionOf rates unit prompts [] (position_in ts ns 0)
nothing_lent rates unit prompts ts ns few et en = nothing rates unit prompts (position_in ts ns 0) few et (deltas_again ns ∙ en) refl

-- ---- rows come to one position

pub one_position : (rates : List Record) (unit : ℕ) (prompts rows : List Record) (p q : Position) → PositionOf rates unit prompts rows p
    → PositionOf rates unit prompts rows q → p ≡ q
one_position rates unit prompts rows p q a b =
    λ i.
    record {
      totals = record { 0 = (a.totals_are ∙ sym b.totals_are) i };
      nets = same_deltas p.nets q.nets nets_same i;
      shorts = (a.shorts_are ∙ sym b.shorts_are) i;
    }
  where
    here : (j : ℕ) (t : Bool) → ltb j (length prompts) ≡ t → get_or (deltas_in p.nets) j (pos 0) ≡ get_or (deltas_in q.nets) j (pos 0)
    here j true e = let h = ltb-true j (length prompts) e in net_here rates unit prompts rows p a j h ∙ sym (net_here rates unit prompts rows q b j h)
    here j false e = let h = ltb-false j (length prompts) e in a.nets_beyond j h ∙ sym (b.nets_beyond j h)

    nets_same : deltas_in p.nets ≡ deltas_in q.nets
    nets_same = ext_get_or (pos 0) (deltas_in p.nets) (deltas_in q.nets) (a.places ∙ sym b.places) (λ j h. here j (ltb j (length prompts)) refl)

-- ---- the position with more rows

module _ (rates : List Record) (unit : ℕ) (prompts earlier rows : List Record) (days : Days) (p q : Position) (known : DaysOf prompts days)
    (is : PositionOf rates unit prompts earlier p) (w : WithRows rates unit days p rows q) where
  same_totals : q.totals.0 ≡ totals rates unit (earlier ++ rows)
  same_totals =
      let sixteen : length q.totals.0 ≡ scenario_count = w.totals-added.as_many ∙ ap length is.totals_are in
      ext_get_or (pos 0) q.totals.0 (totals rates unit (earlier ++ rows)) sixteen (λ k h. here k (omega arith))
    where
      here : (k : ℕ) → k < scenario_count → get_or q.totals.0 k (pos 0) ≡ get_or (totals rates unit (earlier ++ rows)) k (pos 0)
      here k h =
          w.totals-added.added k h
          ∙ ap (λ (zs : List ℤ). get_or zs k (pos 0) +ℤ total rates unit rows (k + 1)) is.totals_are
          ∙ ap (λ (z : ℤ). z +ℤ total rates unit rows (k + 1)) (totals_at rates unit earlier k h)
          ∙ sym (total_append rates unit earlier rows (k + 1))
          ∙ sym (totals_at rates unit (earlier ++ rows) k h)

  same_nets : take (length prompts) (deltas_in q.nets) ≡ net_deltas prompts (earlier ++ rows)
  same_nets =
      let thirty_two : length (deltas_in q.nets) ≡ prompt_places = w.nets_added.as_many ∙ is.places in
      let as_many : length (take (length prompts) (deltas_in q.nets)) ≡ length prompts = length-take-le (length prompts) (deltas_in q.nets)
      (omega (arith, known.few, known.count_is)) in
      ext_get_or (pos 0) (take (length prompts) (deltas_in q.nets)) (net_deltas prompts (earlier ++ rows))
      (as_many ∙ sym (length-map prompts (net_delta (earlier ++ rows))))
      (λ j h. here j (omega arith))
    where
      here : (j : ℕ) → j < length prompts → get_or (take (length prompts) (deltas_in q.nets)) j (pos 0) ≡ get_or (net_deltas prompts (earlier ++ rows)) j (pos 0)
      here j h =
          get_or-take (length prompts) (deltas_in q.nets) j (pos 0) h
          ∙ w.nets_added.added j (omega (arith, known.count_is))
          ∙ ap₂ (λ (z : ℤ) (d : ℕ). z +ℤ net_on rows d) (net_here rates unit prompts earlier p is j h) (known.day_is j h)
          ∙ sym (net_append earlier rows (day (get_or prompts j [])))
          ∙ sym (nets_at prompts (earlier ++ rows) j h)

  -- what the rows before and these come to
  pub joined : PositionOf rates unit prompts (earlier ++ rows) q
  joined =
      record {
        totals_are = same_totals;
        nets_are = same_nets;
        nets_beyond = λ j h. w.nets_added.others j (omega (arith, known.count_is)) ∙ is.nets_beyond j h;
        places = w.nets_added.as_many ∙ is.places;
        shorts_are = w.shorts_added ∙ ap (λ (k : ℕ). k + short_lots rows) is.shorts_are ∙ sym (shorts_append earlier rows);
      }

-- ---- net deltas alone

module _ (rates : List Record) (unit : ℕ) (prompts rows : List Record) (days : Days) (p : Position) (nets : List Delta) (known : DaysOf prompts days)
    (is : PositionOf rates unit prompts [] p) (added : Added days.count (λ j. net_on rows (get_or days.day j 0)) (deltas_in p.nets) (deltas_in nets)) where
  its_totals : Added scenario_count (λ k. total rates unit rows (k + 1)) (totals rates unit []) (totals rates unit rows)
  its_totals =
      record {
        as_many = refl;
        added = λ k h.
            totals_at rates unit rows k h
            ∙ sym (+ℤ_idl (total rates unit rows (k + 1)))
            ∙ ap (λ (z : ℤ). z +ℤ total rates unit rows (k + 1)) (sym (totals_at rates unit [] k h));
        others = λ k h. get_or-eq_default (totals rates unit rows) (pos 0) h ∙ sym (get_or-eq_default (totals rates unit []) (pos 0) h);
      }

  pub nets_alone : PositionOf rates unit prompts rows (with_nets rates unit rows nets)
  nets_alone =
      joined rates unit prompts [] rows days p (with_nets rates unit rows nets) known is
      (record {
        totals-added = subst (λ (ts : List ℤ). Added scenario_count (λ k. total rates unit rows (k + 1)) ts (totals rates unit rows))
            (sym is.totals_are) its_totals;
        nets_added = added;
        shorts_added = omega (arith, is.shorts_are);
      })
