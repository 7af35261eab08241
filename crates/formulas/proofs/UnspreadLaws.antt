-- A book without spreads: nothing is formed, nothing is used, and all of each net delta is left.
-- Assumes nothing.
use Prim.Native.Nat.{ℕ, zero, suc, ◌*◌, ◌+◌, ◌/◌, ◌≤◌, ◌<◌, zero-le, suc-le-suc}
use native.Mathlib.Omega.{arith}
use mathlib.Core.Path.{◌≡◌, refl, sym, ap, ap₂, ◌∙◌, subst⁻¹}
use mathlib.Core.List.{List, [], ◌∷◌, map}
use lib.IntN.{ℤ, pos, +ℤ_invr}
use lib.ListN.{length, get_or, take, replicate}
use Rattle.record.specs.Bytes.{record_bytes}
use Rattle.record.specs.Layout.{Record}
use Rattle.account.specs.Records.{cut, records}
use Rattle.spread.specs.Accepted.{prompt_places, spread_places}
use Rattle.spread.specs.code.Book.{by_place, spreads_entry, delta_entry}
use Rattle.spread.specs.code.Lent.{deltas_from, spreads_from, book_in}
use Rattle.spread.specs.Touches.{touches}
use Rattle.spread.specs.Steps.{Open, minus, steps, used_of}
use Rattle.spread.specs.declared.Delta.{Delta}
use Rattle.spread.proofs.Filling.{filled_none, filled_all}
use Rattle.formulas.specs.Deltas.{opens_with, interprompt}
use Rattle.formulas.specs.code.Promised.{BookOf}
use Rattle.formulas.specs.code.Sums.{deltas_in}
use Rattle.spread.specs.Accepted as given

pub unused_given : (n : ℕ) (ts : List ℕ) (ds : List Delta) → length ds ≤ length ts
    → map (λ p. p.unused) (take n (given.opens_from ts ds)) ≡ take n (deltas_in ds)
unused_given zero ts ds h = refl
unused_given (suc n) [] [] h = refl
unused_given (suc n) [] (d ∷ ds) h = absurd (omega arith)
unused_given (suc n) (t ∷ ts) [] h = refl
unused_given (suc n) (t ∷ ts) (d ∷ ds) h = ap (λ (xs : List ℤ). d.0 ∷ xs) (unused_given n ts ds (omega arith))

none_used : (zs : List ℤ) (k : ℕ) → get_or (minus zs zs) k (pos 0) ≡ pos 0
none_used [] k = refl
none_used (z ∷ zs) zero = +ℤ_invr z
none_used (z ∷ zs) (suc k) = none_used zs k

all_unused : (rs : List Record) (zs : List ℤ) (n : ℕ) → length zs ≡ n → ((j : ℕ) → length rs ≤ j → get_or zs j (pos 0) ≡ pos 0)
    → deltas_from zs ≡ by_place n (delta_entry (map (λ p. p.unused) (opens_with rs zs)))
unfolding by_place
all_unused rs [] zero e h = refl
all_unused rs [] (suc n) e h = absurd (omega arith)
all_unused rs (z ∷ zs) zero e h = absurd (omega arith)
all_unused [] (z ∷ zs) (suc n) e h =
    ap₂ ◌∷◌ (λ i. record { 0 = h 0 zero-le i }) (all_unused [] zs n (omega arith) (λ j l. h (suc j) zero-le))
all_unused (r ∷ rs) (z ∷ zs) (suc n) e h =
    ap (λ (xs : List Delta). record { 0 = z } ∷ xs) (all_unused rs zs n (omega arith) (λ j l. h (suc j) (suc-le-suc l)))

pub unspread : (rs : List Record) (part : List ℕ) (nets : List ℤ) (first second : List ℕ) (used unused : List ℤ) → length part < record_bytes
    → length nets ≡ prompt_places
    → ((j : ℕ) → length rs ≤ j → get_or nets j (pos 0) ≡ pos 0)
    → first ≡ replicate spread_places 0 → second ≡ replicate spread_places 0
    → used ≡ replicate prompt_places (pos 0)
    → unused ≡ nets
    → BookOf (steps (map interprompt (records part))) (opens_with rs nets) (book_in first second used unused)
unspread rs part nets first second used unused short len beyond f s u v =
    let e : length part / record_bytes ≡ 0 = omega arith in
    let ps = opens_with rs nets in
    subst⁻¹ (λ (es : List Record). BookOf (steps (map interprompt es)) ps (book_in first second used unused)) (ap (λ (n : ℕ). cut n part) e)
    (record {
      first_is = ap spreads_from f ∙ filled_all spread_places (record { 0 = 0 }) (λ k. spreads_entry [] (2 * k)) 0 _
          (filled_none spread_places (record { 0 = 0 }) (λ k. spreads_entry [] (2 * k)))
          (λ k l. refl);
      second_is = ap spreads_from s ∙ filled_all spread_places (record { 0 = 0 }) (λ k. spreads_entry [] (2 * k + 1)) 0 _
          (filled_none spread_places (record { 0 = 0 }) (λ k. spreads_entry [] (2 * k + 1))) (λ k l. refl);
      used_is = ap deltas_from u ∙ filled_all prompt_places (record { 0 = pos 0 }) (delta_entry (used_of [] ps)) 0 _
          (filled_none prompt_places (record { 0 = pos 0 }) (delta_entry (used_of [] ps)))
          (λ k l i. record { 0 = none_used (map (λ p. p.unused) ps) k i });
      unused_is = ap deltas_from v ∙ all_unused rs nets prompt_places len beyond;
    })

-- and no prompt is touched
pub untouched : (part : List ℕ) (ps : List Open) → length part < record_bytes → 0 ≡ touches (steps (map interprompt (records part))) ps
untouched part ps short =
    let e : length part / record_bytes ≡ 0 = omega arith in
    ap (λ (n : ℕ). touches (steps (map interprompt (cut n part))) ps) (sym e)
