-- A lawful account's contracts and entries are within the ranges that the figures rest on.
-- Assumes nothing.
use Prim.Native.Nat.{ℕ, zero, suc, ◌≤◌, ◌<◌, zero-le}
use native.Mathlib.Nat.{not-suc-le-zero}
use native.Mathlib.Omega.{arith}
use mathlib.Core.Path.{◌≡◌, refl, sym, subst⁻¹}
use mathlib.Core.Bool.{Bool, true, false, not, ◌&&◌, ◌||◌, false≢true}
use mathlib.Core.List.{List, []}
use borrow.Author.Tests.{lt-ltb, eqb-true, eqb-false}
use lib.Dec.{eqb, lit≤}
use lib.ListN.{length, get_or}
use Rattle.record.specs.Layout.{Record, contract, second_contract, day, leg_count, legs_of, leg_tier, leg_side, leg_ratio, currency}
use Rattle.record.specs.Within as ranges
use Rattle.record.proofs.Within.{neither}
use Rattle.exact.specs.Lists.{count}
use Rattle.account.specs.Check.{alike_among, no_leg_on, legs_clash, with_itself, same_leg}
use Rattle.account.specs.Accepted.{Each}
use Rattle.account.specs.Lawful.{Lawful}
use Rattle.account.specs.Parts.{on_day, contracts_of, prompts_of, rows_of, spreads_of, entries_of, rates_of}
use Rattle.account.specs.code.Rates.{RatesOf}
use Rattle.account.specs.Products.{Convertible}
use Rattle.account.specs.declared.rates.Rates.{Rates}
use Rattle.account.proofs.Orders.{every_at}
use Rattle.account.proofs.ProductLaws.{factors_within, unrated_within}
use Rattle.spread.specs.Accepted.{sound_leg, sound_spread, tier_count}
use Rattle.formulas.specs.Deltas.{leg_of, interprompt}
use Rattle.formulas.specs.code.Position.{RowFit, RowRated, RatedBy}
use Rattle.formulas.specs.code.Within.{SpreadFit, ContractFit, EntriesFit}
use Rattle.formulas.proofs.PositionBounds.{Rated}

-- a leg within its ranges is one that the spread steps accept
side_sound : (s : ℕ) → 1 ≤ s → s ≤ 2 → eqb s 1 || eqb s 2 ≡ true
side_sound zero l h = absurd (omega arith)
side_sound (suc zero) l h = refl
side_sound (suc (suc zero)) l h = refl
side_sound (suc (suc (suc s))) l h = absurd (omega arith)

leg_sound : (s : Record) (i : ℕ) → ranges.LegWithin s i → sound_leg (leg_of s i) ≡ true
leg_sound s i w =
    rw (
      lt-ltb (leg_tier s i) tier_count (omega (arith, w.tiers.most)),
      side_sound (leg_side s i) w.sides.least w.sides.most,
      lt-ltb 0 (leg_ratio s i)
          w.ratios.least,
    )

two_legs_lem : (x y : Bool) (p : Bool) → x ≡ true → y ≡ true → (p || false) || (false || false) ≡ false → x && (not (p || false) && y) ≡ true
two_legs_lem true true true e f g = absurd (false≢true (sym g))
two_legs_lem true true false e f g = refl
two_legs_lem true false p e f g = absurd (false≢true f)
two_legs_lem false y p e f g = absurd (false≢true e)

three_legs : (x y z : Bool) (p q r : Bool) → x ≡ true → y ≡ true → z ≡ true → (p || (q || false)) || ((r || false) || (false || false)) ≡ false
    → x && (not (p || (q || false)) && (y && (not (r || false) && z))) ≡ true
three_legs true true true true q r e f g h = absurd (false≢true (sym h))
three_legs true true true false true r e f g h = absurd (false≢true (sym h))
three_legs true true true false false true e f g h = absurd (false≢true (sym h))
three_legs true true true false false false e f g h = refl
three_legs true true false p q r e f g h = absurd (false≢true g)
three_legs true false z p q r e f g h = absurd (false≢true f)
three_legs false y z p q r e f g h = absurd (false≢true e)

legs_two : (s : Record) → leg_count s ≡ 2 → alike_among s (legs_of s) ≡ false → ranges.LegWithin s 0 → ranges.LegWithin s 1 → sound_spread (interprompt s) ≡ true
legs_two s e a w0 w1 =
    rw e (two_legs_lem (sound_leg (leg_of s 0)) (sound_leg (leg_of s 1)) (same_leg s 0 1) (leg_sound s 0 w0) (leg_sound s 1 w1) (rw e at a))

legs_three : (s : Record) → leg_count s ≡ 3 → alike_among s (legs_of s) ≡ false → ranges.LegWithin s 0 → ranges.LegWithin s 1 → ranges.LegWithin s 2
    → sound_spread (interprompt s) ≡ true
legs_three s e a w0 w1 w2 =
    rw e (three_legs (sound_leg (leg_of s 0)) (sound_leg (leg_of s 1)) (sound_leg (leg_of s 2)) (same_leg s 0 1) (same_leg s 0 2) (same_leg s 1 2)
    (leg_sound s 0 w0) (leg_sound s 1 w1) (leg_sound s 2 w2) (rw e at a))

spread_within : (s : Record) → ranges.SpreadWithin s → legs_clash s ≡ false → SpreadFit s
spread_within s w h =
    let apart = (neither (alike_among s (legs_of s)) (no_leg_on 1 s || no_leg_on 2 s) h).0 in
    record { rate = w.rates; sound = go (eqb (leg_count s) 2) refl apart }
  where
    go : (t : Bool) → eqb (leg_count s) 2 ≡ t → alike_among s (legs_of s) ≡ false → sound_spread (interprompt s) ≡ true
    go true e apart = legs_two s (eqb-true (leg_count s) 2 e) apart w.first_leg w.second_leg
    go false e apart =
        let n = eqb-false (leg_count s) 2 e in
        let three : leg_count s ≡ 3 = omega (arith, n, w.leg_counts.least, w.leg_counts.most) in
        legs_three s three apart w.first_leg w.second_leg (w.third_leg three)

row_within : (r : Record) → ranges.RowWithin r → RowFit r
row_within r w =
    record {
      lots_within = w.lotss;
      delta_within = w.deltas;
      value_within = w.values.most;
      loss_within = λ s l h. w.losses s (record { least = l; most = h });
    }

-- a row that the check accepts, at the account's rates; and at none, where its amounts are not asked for
module _ (row : Record) (w : ranges.RowWithin row) where
  row_rated : (rates : List Record) → Each ranges.RateWithin rates → Convertible rates row → RowRated rates row
  row_rated rates each c =
      let f = factors_within rates (currency row) each in
      record {
        currency_within = w.currencies;
        raised_within = f.up;
        lowered_within = f.down;
        conversion_within = λ s l h. c.within s (record { least = l; most = h });
      }

  row_unrated : RowRated [] row
  row_unrated =
      record {
        currency_within = w.currencies;
        raised_within = zero-le;
        lowered_within = zero-le;
        conversion_within = λ s l h. unrated_within row s w (record { least = l; most = h });
      }

-- a contract without a record of its own
pub none_within : ranges.ContractWithin []
none_within = record { contracts = zero-le; rates = zero-le; units = record { least = lit≤ tt; most = lit≤ tt } }

module _ (account : List Record) (ok : Lawful account) where
  -- a contract of the account, with its parts
  pub contract_within : (own : Record) (c : ℕ) → ranges.ContractWithin own → ContractFit own (prompts_of c account) (rows_of c account) (spreads_of c account)
  contract_within own c w =
      record {
        number = w.contracts;
        rate = w.rates;
        unit_within = w.units;
        few_prompts = ok.limits.prompts c;
        few_spreads = ok.limits.spreads c;
        each_prompt =
            λ k h.
            let p = every_at ranges.PromptWithin (prompts_of c account) (ok.ranges.prompts c) k h in
            record { tier_within = omega (arith, p.tiers.most); spread_rate = p.spread_rates; outright_rate = p.outright_rates };
        one_day = every_at (λ r. count (on_day (day r)) (prompts_of c account) ≡ 1) (rows_of c account) (ok.one_prompt c);
        rows_within =
            record {
              few = ok.limits.rows c;
              each = λ k h. row_within (get_or (rows_of c account) k [])
                  (every_at ranges.RowWithin (rows_of c account) (ok.ranges.rows c) k h);
            };
        each_spread =
            λ k h.
            spread_within (get_or (spreads_of c account) k []) (every_at ranges.SpreadWithin (spreads_of c account) (ok.ranges.spreads c) k h)
            (every_at (λ s. legs_clash s ≡ false) (spreads_of c account) (ok.orders.spreads c) k h);
      }

  its_row : (c k : ℕ) → k < length (rows_of c account) → ranges.RowWithin (get_or (rows_of c account) k [])
  its_row c k h = every_at ranges.RowWithin (rows_of c account) (ok.ranges.rows c) k h

  -- its rows at the rates of the account, and at none
  pub its_rated : (c : ℕ) → Rated (rates_of account) (rows_of c account)
  its_rated c k h =
      row_rated (get_or (rows_of c account) k []) (its_row c k h) (rates_of account) ok.ranges.rates
      (every_at (Convertible (rates_of account)) (rows_of c account) (ok.conversions c) k h)

  pub rows_rated : (c : ℕ) (t : Rates) → RatesOf (rates_of account) t → RatedBy t (rows_of c account)
  rows_rated c t held = record { rates = rates_of account; held = held; each = its_rated c }

  pub each_unrated : (c k : ℕ) → k < length (rows_of c account) → RowRated [] (get_or (rows_of c account) k [])
  each_unrated c k h = row_unrated (get_or (rows_of c account) k []) (its_row c k h)

  pub own_within : (k : ℕ) → k < length (contracts_of account) → ranges.ContractWithin (get_or (contracts_of account) k [])
  own_within k h = every_at ranges.ContractWithin (contracts_of account) ok.ranges.contracts k h

  pub entries_within : EntriesFit (entries_of account)
  entries_within =
      record {
        few = ok.limits.entries;
        each =
            λ k h.
            let w = every_at ranges.EntryWithin (entries_of account) ok.ranges.entries k h in
            let n = every_at (λ e. with_itself e ≡ false) (entries_of account) ok.orders.entries k h in
            record {
              apart = eqb-false (contract (get_or (entries_of account) k [])) (second_contract (get_or (entries_of account) k [])) n;
              first_number_lem = w.contracts;
              second_number_lem = w.seconds;
              first_ratio_lem = w.first_ratios.least;
              second_ratio_lem = w.second_ratios.least;
              percent_within = w.percents;
            };
      }

  -- contract numbers differ
  pub numbers_rise : (i j : ℕ) → i < j → j < length (contracts_of account) → contract (get_or (contracts_of account) i []) < contract
      (get_or (contracts_of account) j [])
  numbers_rise i zero l h = absurd (not-suc-le-zero l)
  numbers_rise i (suc j) l h = go (eqb i j) refl (λ m. numbers_rise i j m (omega arith))
    where
      go : (t : Bool) → eqb i j ≡ t → (i < j → contract (get_or (contracts_of account) i []) < contract (get_or (contracts_of account) j []))
          → contract (get_or (contracts_of account) i []) < contract (get_or (contracts_of account) (suc j) [])
      go true e before = subst⁻¹ (λ (n : ℕ). contract (get_or (contracts_of account) n []) < contract (get_or (contracts_of account) (suc j) []))
          (eqb-true i j e) (ok.orders.contracts j h)
      go false e before =
          let n = eqb-false i j e in
          let a = before (omega (arith, n)) in
          let b = ok.orders.contracts j h in
          omega arith
