-- A record that gets no 6 has every field within its range, kind by kind.
-- Assumes nothing.
use Prim.Native.Nat.{ℕ, zero, suc, ◌+◌, ◌≤◌, ◌<◌}
use mathlib.Core.Path.{◌≡◌, refl, sym, ap, ◌∙◌}
use mathlib.Core.Bool.{Bool, true, false, cond, ◌&&◌, ◌||◌}
use mathlib.Core.List.{List, [], ◌∷◌, map}
use lib.Dec.{eqb, leb, lit≤}
use lib.IntN.{ℤ, pos, negsuc, neg_ℤ, nat_abs}
use lib.Signed.{le_z}
use native.Mathlib.Omega.{arith}
use borrow.Author.Tests.{leb-true, not-false, eqb-true, eqb-false}
use mathlib.Core.Logic.{◌⊎◌, inl, inr, ⊎_elim}
use Rattle.record.specs.Bytes.{Record, Field, count_from, number_in, plain, signed, twos_complement}
use Rattle.record.specs.Layout.{kind, contract, short_option_rate, unit_field, unit_from, tier, day, spread_rate_of, outright_rate_of, row_type, currency, value, put}
use Rattle.record.specs.Layout.{leg_count, rate_per_spread, leg_tier, leg_side, leg_ratio, second_contract, percent, first_ratio, second_ratio, tenths, most_tier}
use Rattle.record.specs.Layout.{most_entry_ratio, fields_of, contract_fields, prompt_fields, row_fields, spread_fields, entry_fields, rate_fields, leg_fields}
use Rattle.record.specs.Layout.{third_leg, rate_currency, spot_rate, adjustment, lots_field, delta_field, loss_field, hundred_thousands, scenario_count}
use Rattle.record.specs.Layout.{most_contract}
use Rattle.record.specs.Ranges.{unknown_kind, field_outside, beyond, outside, outside_among}
use Rattle.record.specs.Within.{Between, ContractWithin, PromptWithin, RowWithin, LegWithin, SpreadWithin, EntryWithin, RateWithin}
use Rattle.record.proofs.Dispatch.{of_contract_lem, of_prompt, of_row, of_spread, of_entry, of_rate}

-- ---- tests that fail together
pub never : false ≡ true → ⊥
never h =
    let z : ◌≡◌ {A = ℕ} 0 1 = cc in
    omega arith

pub both_true : (a b : Bool) → a && b ≡ true → (a ≡ true) × (b ≡ true)
both_true true b h = (refl, h)
both_true false b h = absurd (never h)

pub neither : (a b : Bool) → a || b ≡ false → (a ≡ false) × (b ≡ false)
neither true b h = absurd (never (sym h))
neither false b h = (refl, h)

pub between : (low high x : ℕ) → beyond (plain low high) x ≡ false → Between low x high
between low high x h =
    let t = both_true (leb low x) (leb x high) (not-false _ h) in
    record { least = leb-true low x t.0; most = leb-true x high t.1 }

most : (low high x : ℕ) → beyond (plain low high) x ≡ false → x ≤ high
most low high x h = (between low high x h).most

eq_or_more : (n s : ℕ) → n ≤ s → (n ≡ s) ⊎ (n < s)
eq_or_more n s l = go (eqb n s) refl
  where
    go : (t : Bool) → eqb n s ≡ t → (n ≡ s) ⊎ (n < s)
    go true e = inl (eqb-true n s e)
    go false e =
        let d = eqb-false n s e in
        inr (omega arith)

size :
    (low high m : ℕ) (z : ℤ) → low ≤ m → high ≤ m → le_z (neg_ℤ (pos low)) z ≡ true → le_z z (pos high) ≡ true
    → nat_abs z ≤ m
size low high m (pos n) l h a b = omega (arith, leb-true n high b)
size zero high m (negsuc n) l h a b = absurd (never a)
size (suc low) high m (negsuc n) l h a b = omega (arith, leb-true n low a)

sized :
    (low high m x : ℕ) → low ≤ m → high ≤ m → beyond (signed (neg_ℤ (pos low)) (pos high)) x ≡ false
    → nat_abs (twos_complement x) ≤ m
sized low high m x l h e =
    let z = twos_complement x in
    let t = both_true (le_z (neg_ℤ (pos low)) z) (le_z z (pos high)) (not-false _ e) in
    size low high m z l h t.0 t.1

module _ (r : Record) where
  -- each of the fields is within its range
  abbrev AllIn : List Field → Type 0
  AllIn [] = Unit
  AllIn (f ∷ fs) = (outside r f ≡ false) × AllIn fs

  all_in : (fs : List Field) → outside_among fs r ≡ false → AllIn fs
  all_in [] h = tt
  all_in (f ∷ fs) h =
      let t = neither (outside r f) (outside_among fs r) h in
      (t.0, all_in fs t.1)

  by : (fs : List Field) → fields_of r ≡ fs → field_outside r ≡ false → AllIn fs
  by fs e h = all_in fs (ap (λ (gs : List Field). outside_among gs r) (sym e) ∙ h)

  pub contract_within : kind r ≡ 1 → field_outside r ≡ false → ContractWithin r
  contract_within k h =
      let a = by contract_fields (of_contract_lem r k) h in
      record {
        contracts = most 0 most_contract (contract r) a.0;
        rates = most 0 10000000 (short_option_rate r) a.1.0;
        units = unit_in (number_in unit_field r) (most 0 1000 (number_in unit_field r) a.1.1.0);
      }
    where
      unit_in : (n : ℕ) → n ≤ 1000 → Between 1 (unit_from n) 1000
      unit_in n h = go (eqb n 0) refl
        where
          go : (t : Bool) → eqb n 0 ≡ t → Between 1 (cond t 1 n) 1000
          go true e = record { least = lit≤ tt; most = lit≤ tt }
          go false e = let d = eqb-false n 0 e in record { least = omega arith; most = h }

  pub prompt_within : kind r ≡ 2 → field_outside r ≡ false → PromptWithin r
  prompt_within k h =
      let a = by prompt_fields (of_prompt r k) h in
      record {
        contracts = most 0 most_contract (contract r) a.0;
        tiers = between 1 most_tier (tier r) a.1.0;
        days = between 1 99999999 (day r) a.1.1.0;
        spread_rates = most 0 10000000 (spread_rate_of r) a.1.1.1.0;
        outright_rates = most 0 10000000 (outright_rate_of r) a.1.1.1.1.0;
      }

  loss_in_lem :
      (n k s : ℕ) → AllIn (map loss_field (count_from n k)) → n ≤ s → s < n + k
      → beyond hundred_thousands (number_in (loss_field s) r) ≡ false
  loss_in_lem n zero s a l h = absurd (omega arith)
  loss_in_lem n (suc k) s a l h = ⊎_elim
      (λ e. ap (λ (x : ℕ). beyond hundred_thousands (number_in (loss_field x) r)) (sym e) ∙ a.0)
      (λ g. loss_in_lem (n + 1) k s a.1 (omega arith) (omega arith))
      (eq_or_more n s l)

  pub row_within : kind r ≡ 3 → field_outside r ≡ false → RowWithin r
  row_within k h =
      let a = by (row_fields r) (of_row r k) h in
      record {
        contracts = most 0 most_contract (contract r) a.0;
        types = most 0 2 (row_type r) a.1.0;
        currencies = most 0 7 (currency r) a.1.1.0;
        days = between 1 99999999 (day r) a.1.1.1.0;
        lotss = sized 100000 100000 100000 (number_in lots_field r) (lit≤ tt) (lit≤ tt) a.1.1.1.1.1.0;
        deltas = delta_in_lem (put r) a.1.1.1.1.1.1.0;
        values = between 1 10000 (value r) a.1.1.1.1.1.1.1.0;
        losses =
            λ s b.
            sized 100000 100000 100000 (number_in (loss_field s) r) (lit≤ tt) (lit≤ tt)
            (loss_in_lem 1 scenario_count s a.1.1.1.1.1.1.1.1 b.least (omega arith));
      }
    where
      delta_in_lem :
          (b : Bool) → outside r (delta_field b) ≡ false
          → nat_abs (twos_complement (number_in (delta_field b) r)) ≤ 10000
      delta_in_lem true e = sized 10000 0 10000 (number_in (delta_field true) r) (lit≤ tt) (lit≤ tt) e
      delta_in_lem false e = sized 0 10000 10000 (number_in (delta_field false) r) (lit≤ tt) (lit≤ tt) e

  leg_in : (leg : ℕ) → AllIn (leg_fields leg) → LegWithin r leg
  leg_in leg a =
      record {
        tiers = between 1 most_tier (leg_tier r leg) a.0;
        sides = between 1 2 (leg_side r leg) a.1.0;
        ratios = between 1 100 (leg_ratio r leg) a.1.1.0;
      }

  pub spread_within : kind r ≡ 4 → field_outside r ≡ false → SpreadWithin r
  spread_within k h =
      let a = by (spread_fields r) (of_spread r k) h in
      let b = a.1.1.1 in
      let d = b.1.1.1 in
      record {
        contracts = most 0 most_contract (contract r) a.0;
        leg_counts = between 2 3 (leg_count r) a.1.0;
        rates = most 0 10000000 (rate_per_spread r) a.1.1.0;
        first_leg = leg_in 0 (b.0, (b.1.0, (b.1.1.0, tt)));
        second_leg = leg_in 1 (d.0, (d.1.0, (d.1.1.0, tt)));
        third_leg = λ e. leg_in 2 (third e d.1.1.1);
      }
    where
      third : leg_count r ≡ 3 → AllIn (third_leg r) → AllIn (leg_fields 2)
      third e a = rw e at a

  pub entry_within : kind r ≡ 5 → field_outside r ≡ false → EntryWithin r
  entry_within k h =
      let a = by (entry_fields r) (of_entry r k) h in
      record {
        contracts = most 0 most_contract (contract r) a.0;
        seconds = most 0 most_contract (second_contract r) a.1.0;
        percents = most 0 100 (percent r) a.1.1.0;
        first_ratios = between 1 (most_entry_ratio (tenths r)) (first_ratio r) a.1.1.1.0;
        second_ratios = between 1 (most_entry_ratio (tenths r)) (second_ratio r) a.1.1.1.1.0;
      }

  pub rate_within : kind r ≡ 6 → field_outside r ≡ false → RateWithin r
  rate_within k h =
      let a = by rate_fields (of_rate r k) h in
      record {
        currencies = between 1 7 (rate_currency r) a.0;
        spot_rates = between 1 100000000 (spot_rate r) a.1.0;
        adjustments = most 0 50 (adjustment r) a.1.1.0;
      }

-- ---- the kinds
pub by_kind :
    (P : ℕ → Type 0) → P 1 → P 2 → P 3 → P 4 → P 5 → P 6 → (k : ℕ) → 1 ≤ k → k ≤ 6 → P k
by_kind P a b c d e f zero l h = absurd (omega arith)
by_kind P a b c d e f (suc zero) l h = a
by_kind P a b c d e f (suc (suc zero)) l h = b
by_kind P a b c d e f (suc (suc (suc zero))) l h = c
by_kind P a b c d e f (suc (suc (suc (suc zero)))) l h = d
by_kind P a b c d e f (suc (suc (suc (suc (suc zero))))) l h = e
by_kind P a b c d e f (suc (suc (suc (suc (suc (suc zero)))))) l h = f
by_kind P a b c d e f (suc (suc (suc (suc (suc (suc (suc k))))))) l h = absurd (omega arith)

module _ (r : Record) where
  pub kind_known : unknown_kind r ≡ false → Between 1 (kind r) 6
  kind_known h = between 1 6 (kind r) h

  -- of every kind, byte 1 is within the range of a contract
  pub contract_known : unknown_kind r ≡ false → field_outside r ≡ false → contract r ≤ 15
  contract_known u h =
      let k = kind_known u in
      by_kind (λ n. kind r ≡ n → contract r ≤ 15) (λ e. (contract_within r e h).contracts)
      (λ e. (prompt_within r e h).contracts) (λ e. (row_within r e h).contracts) (λ e. (spread_within r e h).contracts)
      (λ e. (entry_within r e h).contracts) (λ e. let w = (rate_within r e h).currencies.most in omega arith) (kind r) k.least k.most refl
