-- A contract's net deltas together: each row counts at one prompt at most.
-- Assumes nothing.
use mathlib.Core.Path.{◌≡◌, refl, sym, ap, ap₂, ◌∙◌, subst⁻¹}
use mathlib.Core.Bool.{Bool, true, false, cond}
use mathlib.Core.List.{List, [], ◌∷◌, map, map-map}
use Prim.Native.Nat.{ℕ, suc, ◌+◌, ◌*◌, ◌≤◌, ◌<◌}
use native.Mathlib.Nat.{le_trans, zero-mul, add-mul}
use native.Mathlib.Omega.{arith}
use lib.Dec.{eqb}
use lib.IntN.{ℤ, pos, nat_abs, ◌+ℤ◌, +ℤ_idl, +ℤ_idr, +ℤ_assoc, +ℤ_comm}
use lib.ListN.{length, get_or}
use Rattle.exact.specs.Lists.{cons_if, keep, count, one_if, sum, sum_ℤ}
use Rattle.account.specs.Accepted.{Each}
use Rattle.account.specs.Parts.{on_day}
use Rattle.exact.proofs.Integers.{abs_add}
use Rattle.exact.proofs.Lists.{sum-map_le, sum-map_add}
use Rattle.exact.proofs.Tests.{eqb_turned}
use Rattle.record.specs.Layout.{Record, day}
use Rattle.formulas.specs.Bounds.{most_delta, most_row_delta}
use Rattle.formulas.specs.Deltas.{row_delta, of_day, net_delta, net_deltas}
use Rattle.formulas.specs.code.Position.{RowFit, RowsFit, OneDay}
use Rattle.formulas.proofs.PositionBounds.{delta_most}

-- what a row adds to a prompt
abbrev pub adds : Record → Record → ℤ
adds row prompt = cond (of_day (day prompt) row) (row_delta row) (pos 0)

first_row : (row : Record) (rows : List Record) (prompt : Record) → net_delta (row ∷ rows) prompt ≡ adds row prompt +ℤ net_delta rows prompt
first_row row rows prompt = go (of_day (day prompt) row)
  where
    go : (t : Bool) → sum_ℤ (map row_delta (cons_if t row (keep (of_day (day prompt)) rows))) ≡ cond t (row_delta row) (pos 0) +ℤ net_delta rows prompt
    go true = refl
    go false = sym (+ℤ_idl (net_delta rows prompt))

-- what a row adds to each prompt, without its sign
abbrev added_size : Record → Record → ℕ
added_size row p = nat_abs (adds row p)

-- a row counts once for each prompt of its day
once : (row : Record) (ps : List Record) → sum (map (added_size row) ps) ≡ count (on_day (day row)) ps * nat_abs (row_delta row)
once row [] = sym (zero-mul (nat_abs (row_delta row)))
once row (p ∷ ps) =
    ap (λ (t : Bool). nat_abs (cond t (row_delta row) (pos 0)) + sum (map (added_size row) ps)) (eqb_turned (day row) (day p))
    ∙ go (eqb (day p) (day row)) (once row ps)
  where
    go : (t : Bool) → sum (map (added_size row) ps) ≡ count (on_day (day row)) ps * nat_abs (row_delta row)
        → nat_abs (cond t (row_delta row) (pos 0)) + sum (map (added_size row) ps) ≡ (one_if t + count (on_day (day row)) ps) * nat_abs (row_delta row)
    go true e = omega (arith, add-mul 1 (count (on_day (day row)) ps) (nat_abs (row_delta row)))
    go false e = omega (arith, add-mul 0 (count (on_day (day row)) ps) (nat_abs (row_delta row)))

one_day : (row : Record) (ps : List Record) → count (on_day (day row)) ps ≡ 1 → sum (map (added_size row) ps) ≤ nat_abs (row_delta row)
one_day row ps h = omega (arith, once row ps, ap (λ (n : ℕ). n * nat_abs (row_delta row)) h)

-- all net deltas together, without their signs
abbrev pub net_size : List Record → Record → ℕ
net_size rows p = nat_abs (net_delta rows p)

no_rows : (prompts : List Record) → sum (map (net_size []) prompts) ≡ 0
no_rows [] = refl
no_rows (p ∷ ps) = let h = no_rows ps in omega arith

size_first_row : (row : Record) (rows : List Record) (p : Record) → net_size (row ∷ rows) p ≤ added_size row p + net_size rows p
size_first_row row rows p = subst⁻¹ (λ (z : ℤ). nat_abs z ≤ added_size row p + net_size rows p) (first_row row rows p) (abs_add (adds row p) (net_delta rows p))

pub sizes_sum : (prompts rows : List Record) → OneDay prompts rows → ((k : ℕ) → k < length rows → RowFit (get_or rows k []))
    → sum (map (net_size rows) prompts) ≤ length rows * most_row_delta
sizes_sum prompts [] r e = omega (arith, no_rows prompts)
sizes_sum prompts (row ∷ rows) r e =
    let one : sum (map (added_size row) prompts) ≤ most_row_delta = le_trans (one_day row prompts (r 0 (omega arith))) (delta_most row (e 0 (omega arith))) in
    let rest = sizes_sum prompts rows (λ k h. r (suc k) (omega arith)) (λ k h. e (suc k) (omega arith)) in
    let each = sum-map_le (net_size (row ∷ rows)) (λ p. added_size row p + net_size rows p) (size_first_row row rows) prompts in
    let both = sum-map_add (added_size row) (net_size rows) prompts in
    omega arith

pub net_sizes_most : (prompts rows : List Record) → OneDay prompts rows → RowsFit rows → sum (map nat_abs (net_deltas prompts rows)) ≤ most_delta
net_sizes_most prompts rows r w =
    let e : map nat_abs (net_deltas prompts rows) ≡ map (net_size rows) prompts = map-map nat_abs (net_delta rows) prompts in
    let s = sizes_sum prompts rows r w.each in
    omega (arith, ap sum e, w.few)

-- ---- no row is left out: a row that counts at one prompt counts once in all net deltas together

none-added : (row : Record) (ps : List Record) → count (on_day (day row)) ps ≡ 0 → sum_ℤ (map (adds row) ps) ≡ pos 0
none-added row [] e = refl
none-added row (p ∷ ps) e = ap (λ (t : Bool). cond t (row_delta row) (pos 0) +ℤ sum_ℤ (map (adds row) ps)) (eqb_turned (day row) (day p))
    ∙ go (eqb (day p) (day row)) (none-added row ps) e
  where
    go : (t : Bool) → (count (on_day (day row)) ps ≡ 0 → sum_ℤ (map (adds row) ps) ≡ pos 0) → one_if t + count (on_day (day row)) ps ≡ 0
        → cond t (row_delta row) (pos 0) +ℤ sum_ℤ (map (adds row) ps) ≡ pos 0
    go true rest z = absurd (omega arith)
    go false rest z = +ℤ_idl (sum_ℤ (map (adds row) ps)) ∙ rest (omega arith)

once_added : (row : Record) (ps : List Record) → count (on_day (day row)) ps ≡ 1 → sum_ℤ (map (adds row) ps) ≡ row_delta row
once_added row [] e = absurd (omega arith)
once_added row (p ∷ ps) e = ap (λ (t : Bool). cond t (row_delta row) (pos 0) +ℤ sum_ℤ (map (adds row) ps)) (eqb_turned (day row) (day p))
    ∙ go (eqb (day p) (day row)) (once_added row ps) e
  where
    go : (t : Bool) → (count (on_day (day row)) ps ≡ 1 → sum_ℤ (map (adds row) ps) ≡ row_delta row) → one_if t + count (on_day (day row)) ps ≡ 1
        → cond t (row_delta row) (pos 0) +ℤ sum_ℤ (map (adds row) ps) ≡ row_delta row
    go true rest z = ap (λ (x : ℤ). row_delta row +ℤ x) (none-added row ps (omega arith)) ∙ +ℤ_idr (row_delta row)
    go false rest z = +ℤ_idl (sum_ℤ (map (adds row) ps)) ∙ rest (omega arith)

more_row : (row : Record) (rows ps : List Record) → sum_ℤ (net_deltas ps (row ∷ rows)) ≡ sum_ℤ (map (adds row) ps) +ℤ sum_ℤ (net_deltas ps rows)
more_row row rows [] = refl
more_row row rows (p ∷ ps) =
    ap₂ ◌+ℤ◌ (first_row row rows p) (more_row row rows ps)
    ∙ exchange (adds row p) (net_delta rows p) (sum_ℤ (map (adds row) ps)) (sum_ℤ (net_deltas ps rows))
  where
    exchange : (a b c d : ℤ) → (a +ℤ b) +ℤ (c +ℤ d) ≡ (a +ℤ c) +ℤ (b +ℤ d)
    exchange a b c d =
        +ℤ_assoc a b (c +ℤ d)
        ∙ ap (λ (x : ℤ). a +ℤ x) (sym (+ℤ_assoc b c d) ∙ ap (λ (x : ℤ). x +ℤ d) (+ℤ_comm b c) ∙ +ℤ_assoc c b d)
        ∙ sym (+ℤ_assoc a c (b +ℤ d))

nothing-added : (ps : List Record) → sum_ℤ (net_deltas ps []) ≡ pos 0
nothing-added [] = refl
nothing-added (p ∷ ps) = ap (λ (x : ℤ). pos 0 +ℤ x) (nothing-added ps)

pub all_rows_lem : (ps rows : List Record) → Each (λ r. count (on_day (day r)) ps ≡ 1) rows → sum_ℤ (net_deltas ps rows) ≡ sum_ℤ (map row_delta rows)
all_rows_lem ps [] e = nothing-added ps
all_rows_lem ps (row ∷ rows) e = more_row row rows ps ∙ ap₂ ◌+ℤ◌ (once_added row ps e.0) (all_rows_lem ps rows e.1)
