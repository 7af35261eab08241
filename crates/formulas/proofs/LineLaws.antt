-- A contract's line, from what its rows come to, its book, and its charges.
-- Assumes nothing.
use Prim.Native.Nat.{ℕ, zero, suc, ◌+◌, ◌*◌, ◌≤◌, ◌<◌, zero-le, suc-le-suc}
use native.Mathlib.Numerals.{add-one}
use native.Mathlib.Omega.{arith}
use mathlib.Core.Path.{◌≡◌, refl, sym, ap, ap₂, ◌∙◌, subst, subst⁻¹}
use mathlib.Core.Bool.{true, ◌&&◌}
use mathlib.Core.List.{List, [], ◌∷◌, map}
use borrow.Author.Tests.{lt-ltb, le-leb}
use lib.Dec.{leb, ltb}
use lib.IntN.{ℤ, pos, nat_abs, ◌+ℤ◌, +ℤ_idl}
use lib.ListN.{length, get_or, take, length-map}
use Rattle.exact.specs.Lists.{sum, sum_ℤ}
use Rattle.exact.proofs.Lists.{abs_sum, map-take, sum-take, sum_at, get_d_map, sum_ℤ-take-suc}
use Rattle.record.specs.Layout.{Record, tier}
use Rattle.spread.specs.Accepted.{every, whole, sound_prompt, sound_spread, tier_count, prompt_places, spread_places}
use Rattle.spread.specs.code.Book.{by_place, spreads_entry, delta_entry}
use Rattle.spread.specs.Demand.{whole_steps}
use Rattle.spread.specs.Steps.{Open, steps, numbers}
use Rattle.spread.specs.declared.Spread.{Spread}
use Rattle.spread.specs.declared.Spreads.{Spreads}
use Rattle.spread.specs.declared.Delta.{Delta}
use Rattle.spread.proofs.Both.{and_both}
use Rattle.spread.proofs.Demand3.{one_per_step_lem}
use Rattle.spread.proofs.Soundness.{whole-steps}
use Rattle.spread.proofs.Filling.{entries_at}
use Rattle.spread.proofs.Lengths.{steps-length}
use Rattle.formulas.specs.Bounds.{most_delta}
use Rattle.formulas.specs.Deltas.{opens_with, interprompt}
use Rattle.formulas.specs.code.Sums.{spreads_at, delta_in}
use Rattle.formulas.proofs.StepBounds.{sizes}

-- ---- prompts, open

pub opens_first : (rs : List Record) (ds : List ℤ) → opens_with rs ds ≡ opens_with rs (take (length rs) ds)
opens_first [] ds = refl
opens_first (r ∷ rs) [] = refl
opens_first (r ∷ rs) (d ∷ ds) = ap (λ (ps : List Open). record { tier = tier r; unused = d } ∷ ps) (opens_first rs ds)

pub opens_length : (rs : List Record) (ds : List ℤ) → length ds ≡ length rs → length (opens_with rs ds) ≡ length rs
opens_length [] ds e = refl
opens_length (r ∷ rs) [] e = absurd (omega arith)
opens_length (r ∷ rs) (d ∷ ds) e = ap suc (opens_length rs ds (omega arith))

pub opens_sizes : (rs : List Record) (ds : List ℤ) → sizes (opens_with rs ds) ≤ sum (map nat_abs ds)
opens_sizes [] ds = zero-le
opens_sizes (r ∷ rs) [] = zero-le
opens_sizes (r ∷ rs) (d ∷ ds) = let h = opens_sizes rs ds in omega arith

-- the spread steps accept them
pub opens_sound : (rs : List Record) (ds : List ℤ) → ((k : ℕ) → k < length rs → tier (get_or rs k []) < tier_count)
    → ((k : ℕ) → nat_abs (get_or ds k (pos 0)) ≤ most_delta) → every sound_prompt (opens_with rs ds) ≡ true
opens_sound [] ds ht hd = refl
opens_sound (r ∷ rs) [] ht hd = refl
opens_sound (r ∷ rs) (d ∷ ds) ht hd =
    and_both (ltb (tier r) tier_count && leb (nat_abs d) most_delta) (every sound_prompt (opens_with rs ds))
    (and_both (ltb (tier r) tier_count) (leb (nat_abs d) most_delta) (lt-ltb (tier r) tier_count (ht 0 (suc-le-suc zero-le))) (le-leb (nat_abs d) most_delta (hd 0)))
    (opens_sound rs ds (λ k h. ht (suc k) (suc-le-suc h)) (λ k. hd (suc k)))

pub spreads_sound : (made : Record → Spread) (rs : List Record) → ((k : ℕ) → k < length rs → sound_spread (made (get_or rs k [])) ≡ true)
    → every sound_spread (map made rs) ≡ true
spreads_sound made [] h = refl
spreads_sound made (r ∷ rs) h =
    and_both (sound_spread (made r)) (every sound_spread (map made rs)) (h 0 (suc-le-suc zero-le)) (spreads_sound made rs (λ k l. h (suc k) (suc-le-suc l)))

-- interprompt spreads have whole ratios
pub interprompt-whole : (rs : List Record) → whole_steps (steps (map interprompt rs)) ≡ true
interprompt-whole rs = whole-steps (map interprompt rs) (each rs)
  where
    each : (rs : List Record) → every whole (map interprompt rs) ≡ true
    each [] = refl
    each (r ∷ rs) = each rs

-- ---- how many numbers and deltas there are

pub numbers-length : (made : Record → Spread) (rs : List Record) (ps : List Open) → length (numbers (steps (map made rs)) ps) ≡ 2 * length rs
numbers-length made rs ps = one_per_step_lem (steps (map made rs)) ps ∙ steps-length (map made rs) ∙ ap (λ (n : ℕ). 2 * n) (length-map rs made)

-- ---- sums that run on into zeros

pub sum_zeros : (n : ℕ) (zs : List ℤ) → ((j : ℕ) → n ≤ j → get_or zs j (pos 0) ≡ pos 0) → sum_ℤ zs ≡ sum_ℤ (take n zs)
sum_zeros n [] h = ap sum_ℤ (sym (take_none n))
  where
    take_none : (n : ℕ) → ◌≡◌ {A = List ℤ} (take n []) []
    take_none zero = refl
    take_none (suc n) = refl
sum_zeros zero (z ∷ zs) h = ap₂ ◌+ℤ◌ (h 0 zero-le) (sum_zeros zero zs (λ j l. h (suc j) zero-le)) ∙ +ℤ_idl (sum_ℤ (take zero zs))
sum_zeros (suc n) (z ∷ zs) h = ap (λ (x : ℤ). z +ℤ x) (sum_zeros n zs (λ j l. h (suc j) (suc-le-suc l)))

pub size_zeros : (n : ℕ) (zs : List ℤ) → ((j : ℕ) → n ≤ j → get_or zs j (pos 0) ≡ pos 0) → sum (map nat_abs zs) ≡ sum (map nat_abs (take n zs))
size_zeros n [] h = ap (λ (xs : List ℤ). sum (map nat_abs xs)) (sym (take_none n))
  where
    take_none : (n : ℕ) → ◌≡◌ {A = List ℤ} (take n []) []
    take_none zero = refl
    take_none (suc n) = refl
size_zeros zero (z ∷ zs) h = let a = ap nat_abs (h 0 zero-le) in let b = size_zeros zero zs (λ j l. h (suc j) zero-le) in omega arith
size_zeros (suc n) (z ∷ zs) h = ap (λ (x : ℕ). nat_abs z + x) (size_zeros n zs (λ j l. h (suc j) (suc-le-suc l)))

-- ---- the arrays of a book, within their bounds

pub first_within : (numbers : List ℕ) (f : ℕ → ℕ) (most : ℕ) → ((j : ℕ) → get_or numbers j 0 ≤ most) → (k : ℕ) → k < spread_places
    → spreads_at (by_place spread_places (λ i. spreads_entry numbers (f i))) k ≤ most
first_within numbers f most h k l =
    subst⁻¹ (λ (x : Spreads). x.0 ≤ most) (entries_at spread_places (λ i. spreads_entry numbers (f i)) k (record { 0 = 0 }) l) (h (f k))

pub delta_within : (zs : List ℤ) (most : ℕ) → ((j : ℕ) → nat_abs (get_or zs j (pos 0)) ≤ most) → (k : ℕ) → k < prompt_places
    → nat_abs (delta_in (by_place prompt_places (delta_entry zs)) k) ≤ most
delta_within zs most h k l =
    subst⁻¹ (λ (d : Delta). nat_abs d.0 ≤ most) (entries_at prompt_places (delta_entry zs) k (record { 0 = pos 0 }) l) (h k)

-- ---- net deltas added up, one after the other

pub net_so_far : (zs : List ℤ) (i : ℕ) (most : ℕ) → i < length zs → sum (map nat_abs zs) ≤ most
    → nat_abs (sum_ℤ (take i zs)) + nat_abs (get_or zs i (pos 0)) ≤ 2 * most
net_so_far zs i most h m =
    let a = abs_sum (take i zs) in
    let b : sum (map nat_abs (take i zs)) ≤ sum (map nat_abs zs) = subst⁻¹ (λ (xs : List ℕ). sum xs ≤ sum (map nat_abs zs)) (map-take nat_abs i zs)
    (sum-take i (map nat_abs zs)) in
    let c : nat_abs (get_or zs i (pos 0)) ≤ sum (map nat_abs zs) =
    subst (λ (n : ℕ). n ≤ sum (map nat_abs zs)) (get_d_map nat_abs zs i (pos 0) 0 h) (sum_at (map nat_abs zs) i (rw length-map h))
    in
    omega arith

pub net_next : (zs : List ℤ) (i : ℕ) (z r : ℤ) → i < length zs → z ≡ sum_ℤ (take i zs) → r ≡ z +ℤ get_or zs i (pos 0) → r ≡ sum_ℤ (take (i + 1) zs)
net_next zs i z r h e f =
    f ∙ ap (λ (x : ℤ). x +ℤ get_or zs i (pos 0)) e ∙ sym (sum_ℤ-take-suc zs i h) ∙ ap (λ (n : ℕ). sum_ℤ (take n zs)) (sym (add-one i))
