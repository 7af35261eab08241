-- What a contract's rows came to before the latest of them.
-- Assumes nothing.
use Prim.Native.Nat.{ℕ, ◌+◌, ◌-◌, ◌≤◌, ◌<◌}
use mathlib.Core.Path.{◌≡◌, refl, sym, ap, ap₂, ◌∙◌}
use mathlib.Core.List.{List, [], ◌∷◌, ◌++◌, map}
use native.Mathlib.Omega.{arith}
use lib.IntN.{ℤ, pos, ◌+ℤ◌}
use lib.ListN.{length, get_or, take, replicate, length-map, length-append, length-replicate, get_or-eq_default}
use lib.Seq.{take_at, get_or-append-add}
use Rattle.record.specs.Layout.{Record, day, scenario_count}
use Rattle.spread.specs.declared.Delta.{Delta}
use Rattle.spread.specs.Accepted.{prompt_places}
use Rattle.formulas.specs.Deltas.{net_delta, net_deltas}
use Rattle.formulas.specs.Margin.{short_lots}
use Rattle.formulas.specs.code.Position.{DaysOf, PositionOf, WithRows, net_on, deltas_in}
use Rattle.formulas.specs.Scanning.{total, scenarios, totals}
use Rattle.formulas.specs.declared.rows.Days.{Days}
use Rattle.formulas.specs.declared.rows.Position.{Position}
use Rattle.formulas.proofs.PositionLaws.{total_append, net_append, shorts_append, totals_at, net_here, zeros}

delta : ℤ → Delta
delta z = record { 0 = z }

-- ---- a position of any rows
module _ (rates : List Record) (unit : ℕ) (prompts rows : List Record) (few : length prompts ≤ prompt_places) where
  abbrev nets : List ℤ
  nets = net_deltas prompts rows ++ replicate (prompt_places - length prompts) (pos 0)

  pub came_to : Position
  came_to = record { totals = record { 0 = totals rates unit rows }; nets = map delta nets; shorts = short_lots rows }

  many : length (net_deltas prompts rows) ≡ length prompts
  many = length-map prompts (net_delta rows)

  deltas_are : deltas_in came_to.nets ≡ nets
  unfolding came_to delta
  deltas_are = go nets
    where
      go : (zs : List ℤ) → deltas_in (map delta zs) ≡ zs
      go [] = refl
      go (z ∷ zs) = ap (λ (ys : List ℤ). z ∷ ys) (go zs)

  beyond : (j : ℕ) → length prompts ≤ j → get_or nets j (pos 0) ≡ pos 0
  beyond j h =
      let e : length (net_deltas prompts rows) + (j - length prompts) ≡ j = omega (arith, many) in
      ap (λ (n : ℕ). get_or nets n (pos 0)) (sym e)
      ∙ get_or-append-add (net_deltas prompts rows) (replicate (prompt_places - length prompts) (pos 0)) (j - length prompts) (pos 0)
      ∙ zeros (prompt_places - length prompts) (j - length prompts)

  pub came_to_is : PositionOf rates unit prompts rows came_to
  unfolding came_to
  came_to_is =
      record {
        totals_are = refl;
        nets_are = ap (take (length prompts)) deltas_are ∙ take_at (net_deltas prompts rows) (replicate (prompt_places - length prompts) (pos 0))
            (length prompts) many;
        nets_beyond = λ j h. ap (λ (zs : List ℤ). get_or zs j (pos 0)) deltas_are ∙ beyond j h;
        places =
            ap length deltas_are ∙ length-append (net_deltas prompts rows) (replicate (prompt_places - length prompts) (pos 0))
            ∙ ap₂ (λ (a b : ℕ). a + b) many (length-replicate (prompt_places - length prompts) (pos 0)) ∙ omega arith;
        shorts_are = refl;
      }

-- ---- the position of more rows is that of the earlier ones with the others added
module _ (rates : List Record) (unit : ℕ) (prompts earlier rows : List Record) (days : Days) (b p : Position) (known : DaysOf prompts days)
    (is : PositionOf rates unit prompts earlier b) (whole : PositionOf rates unit prompts (earlier ++ rows) p) where
  sixteen : (rs : List Record) (q : Position) → PositionOf rates unit prompts rs q → length q.totals.0 ≡ scenario_count
  sixteen rs q w = ap length w.totals_are ∙ length-map scenarios (total rates unit rs)

  total_here : (rs : List Record) (q : Position) → PositionOf rates unit prompts rs q → (k : ℕ) → k < scenario_count
      → get_or q.totals.0 k (pos 0) ≡ total rates unit rs (k + 1)
  total_here rs q w k h = ap (λ (zs : List ℤ). get_or zs k (pos 0)) w.totals_are ∙ totals_at rates unit rs k h

  pub added_again : WithRows rates unit days b rows p
  added_again =
      record {
        totals-added =
            record {
              as_many = sixteen (earlier ++ rows) p whole ∙ sym (sixteen earlier b is);
              added = λ k h.
                  total_here (earlier ++ rows) p whole k h ∙ total_append rates unit earlier rows (k + 1)
                  ∙ ap (λ (z : ℤ). z +ℤ total rates unit rows (k + 1)) (sym (total_here earlier b is k h));
              others = λ k h.
                  get_or-eq_default p.totals.0 (pos 0) {n = k} (omega (arith, sixteen (earlier ++ rows) p whole))
                  ∙ sym (get_or-eq_default b.totals.0 (pos 0) {n = k} (omega (arith, sixteen earlier b is)));
            };
        nets_added =
            record {
              as_many = whole.places ∙ sym is.places;
              added = λ j h.
                  let l : j < length prompts = omega (arith, known.count_is) in
                  net_here rates unit prompts (earlier ++ rows) p whole j l ∙ net_append earlier rows (day (get_or prompts j []))
                  ∙ ap₂ (λ (z : ℤ) (d : ℕ). z +ℤ net_on rows d) (sym (net_here rates unit prompts earlier b is j l)) (sym (known.day_is j l));
              others = λ j h.
                  whole.nets_beyond j (omega (arith, known.count_is)) ∙ sym (is.nets_beyond j (omega (arith, known.count_is)));
            };
        shorts_added = whole.shorts_are ∙ shorts_append earlier rows ∙ ap (λ (n : ℕ). n + short_lots rows) (sym is.shorts_are);
      }
