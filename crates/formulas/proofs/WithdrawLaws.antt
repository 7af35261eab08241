-- What rows added to a position is taken away again: the position before, in every number.
-- Assumes nothing.
use mathlib.Core.Path.{◌≡◌, refl, ap, ap₂, ◌∙◌}
use mathlib.Core.Bool.{Bool, true, false}
use mathlib.Core.List.{List, []}
use Prim.Native.Nat.{ℕ, ◌+◌, ◌-◌, ◌≤◌, zero-le}
use native.Mathlib.Omega.{arith}
use borrow.Author.Tests.{ltb-true, ltb-false}
use lib.Dec.{ltb}
use lib.IntN.{ℤ, pos, neg_ℤ, ◌+ℤ◌, +ℤ_idl, +ℤ_idr, +ℤ-neg_ℤ_cancel}
use lib.ListN.{length, get_or}
use lib.Seq.{ext_get_or}
use Rattle.account.specs.Check.{most_rows}
use Rattle.spread.specs.Accepted.{prompt_places}
use Rattle.record.specs.Layout.{Record, scenario_count}
use Rattle.formulas.specs.declared.rows.Days.{Days}
use Rattle.formulas.specs.declared.rows.Position.{Position}
use Rattle.formulas.specs.code.Position.{PositionOf, Bounded, Added, WithRows, deltas_in, net_on}
use Rattle.formulas.specs.Scanning.{total}
use Rattle.formulas.proofs.AddedLaws.{same_deltas}
use Rattle.formulas.proofs.PositionLaws.{zeros}

-- numbers to which more was added, less what was added to zeros
undone : (n m : ℕ) (more : ℕ → ℤ) (xs ys zs none gone : List ℤ) → n ≤ m → length ys ≡ m → Added n more xs ys → ((k : ℕ) → get_or none k (pos 0) ≡ pos 0)
    → Added n more none gone
    → Added m (λ k. neg_ℤ (get_or gone k (pos 0))) ys zs → zs ≡ xs
undone n m more xs ys zs none gone h l a flat g b =
    ext_get_or (pos 0) zs xs (b.as_many ∙ a.as_many) (λ k i. b.added k (omega (arith, b.as_many)) ∙ go k (ltb k n) refl)
  where
    go : (k : ℕ) (t : Bool) → ltb k n ≡ t → get_or ys k (pos 0) +ℤ neg_ℤ (get_or gone k (pos 0)) ≡ get_or xs k (pos 0)
    go k true e =
        let i = ltb-true k n e in
        let away : get_or gone k (pos 0) ≡ more k = g.added k i ∙ ap (λ (z : ℤ). z +ℤ more k) (flat k) ∙ +ℤ_idl (more k) in
        ap₂ (λ (x y : ℤ). x +ℤ neg_ℤ y) (a.added k i) away ∙ +ℤ-neg_ℤ_cancel (get_or xs k (pos 0)) (more k)
    go k false e =
        let i = ltb-false k n e in
        ap₂ (λ (x y : ℤ). x +ℤ neg_ℤ y) (a.others k i) (g.others k i ∙ flat k) ∙ +ℤ_idr (get_or xs k (pos 0))

module _ (rates : List Record) (unit : ℕ) (days : Days) (rows : List Record) (before p flat gone q : Position)
    (w : WithRows rates unit days before rows p) (g : WithRows rates unit days flat rows gone)
    (none : PositionOf rates unit [] [] flat) (most : Bounded most_rows p) (few : days.count ≤ prompt_places)
    (et : Added scenario_count (λ k. neg_ℤ (get_or gone.totals.0 k (pos 0))) p.totals.0 q.totals.0)
    (en : Added prompt_places (λ j. neg_ℤ (get_or (deltas_in gone.nets) j (pos 0))) (deltas_in p.nets) (deltas_in q.nets))
    (es : q.shorts ≡ p.shorts - gone.shorts) where
  totals_back : q.totals.0 ≡ before.totals.0
  totals_back =
      undone scenario_count scenario_count (λ k. total rates unit rows (k + 1)) before.totals.0 p.totals.0 q.totals.0 flat.totals.0
      gone.totals.0
      (omega arith) most.totals_most.as_many
      w.totals-added (λ k. ap (λ (zs : List ℤ). get_or zs k (pos 0)) none.totals_are ∙ zeros scenario_count k) g.totals-added et

  shorts_back : q.shorts ≡ before.shorts
  shorts_back = omega (arith, es, w.shorts_added, g.shorts_added, none.shorts_are)

  nets_back : deltas_in q.nets ≡ deltas_in before.nets
  nets_back =
      undone days.count prompt_places (λ j. net_on rows (get_or days.day j 0)) (deltas_in before.nets) (deltas_in p.nets) (deltas_in q.nets)
      (deltas_in flat.nets) (deltas_in gone.nets) few most.nets_most.as_many
      w.nets_added (λ j. none.nets_beyond j zero-le) g.nets_added en

  pub taken_away : q ≡ before
  taken_away = λ i. record { totals = record { 0 = totals_back i }; nets = same_deltas q.nets before.nets nets_back i; shorts = shorts_back i }
