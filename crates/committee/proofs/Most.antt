-- How large the margin of an accepted account can be: each of its prompts, rows and interprompt spreads brings at most
-- 134,000,000,001,000, and an account has at most 640 records.
-- Assumes nothing.
use Prim.Native.Nat.{ℕ, zero, suc, ◌+◌, ◌-◌, ◌*◌, ◌≤◌, ◌<◌, max, zero-le}
use native.Mathlib.Nat.{le_trans, mul-le-mul, mul-le-mul_left, mul-le-mul_right, mul_assoc, mul-add}
use native.Mathlib.Omega.{arith}
use mathlib.Core.Path.{◌≡◌, sym, ap, subst, ◌∙◌}
use mathlib.Core.List.{List, [], ◌∷◌, map, map-map}
use lib.IntN.{ℤ, pos, nat_abs}
use lib.ListN.{length, get_or}
use Rattle.exact.specs.Largest.{largest}
use Rattle.exact.specs.Lists.{sum, count}
use Rattle.exact.proofs.Lists.{length-keep}
use Rattle.exact.proofs.Totals.{largest-held}
use Rattle.exact.proofs.UnitLaws.{up_above}
use Rattle.exact.proofs.Integers.{or_zero_abs}
use Rattle.record.specs.Layout.{Record, contract, unit, rate_per_spread, spread_rate_of, outright_rate_of, most_rate, most_unit, hundred_thousand}
use Rattle.record.specs.Within.{ContractWithin}
use Rattle.account.specs.Accepted.{Each}
use Rattle.account.specs.Lawful.{Lawful}
use Rattle.account.specs.Parts.{of_contract, contracts_of, prompts_of, rows_of, spreads_of, rates_of}
use Rattle.account.specs.Whole.{parts_by, Whole}
use Rattle.account.specs.Check.{most_rows, most_spreads}
use Rattle.spread.specs.Steps.{Open}
use Rattle.formulas.specs.Charges.{charged, prompt_charges}
use Rattle.formulas.specs.Contract.{Contract, contract_from, parts_in, contracts, contract_steps, opens_of, step_numbers, used_deltas, unused_deltas, scanning_of}
use Rattle.formulas.specs.Contract.{interprompt_of, prompt_of, credit_of, minimum_of, margin_of}
use Rattle.formulas.specs.Deltas.{net_delta, net_deltas}
use Rattle.margin.specs.Figures.{total_margin}
use Rattle.formulas.specs.Scanning.{totals}
use Rattle.margin.specs.Skipped.{over_places, spread_at, NothingOver}
use Rattle.formulas.specs.code.Within.{PromptFit, ContractFit}
use Rattle.margin.proofs.AcceptLaws.{contract_within, its_rated}
use Rattle.formulas.proofs.LineLaws.{opens_sizes, interprompt-whole}
use Rattle.formulas.proofs.NetLaws.{sizes_sum}
use Rattle.formulas.proofs.PositionBounds.{Rated, total_most, short-lots_most}
use Rattle.formulas.proofs.PositionLaws.{totals_at}
use Rattle.formulas.proofs.StepBounds.{sizes, whole_number_within, used_within, unused_within}
use Rattle.committee.specs.code.Sums.{most_total}
use Rattle.formulas.specs.Bounds.{most_row_delta}

-- ---- charges over places and over prompts

places_most : (most n : ℕ) (f : ℕ → ℕ) → ((i : ℕ) → i < n → f i ≤ most) → over_places n f ≤ n * most
places_most most zero f h = zero-le
places_most most (suc n) f h =
    let first = h 0 (omega arith) in
    let rest = places_most most n (λ i. f (suc i)) (λ i l. h (suc i) (omega arith)) in
    omega arith

-- numbers or deltas of a size, at a rate; rounding to the unit adds at most half of the largest
charge_most : (unit a b size rate rate' : ℕ) → unit ≤ most_unit → a ≤ size → b ≤ size → rate ≤ most_rate → rate' ≤ most_rate
    → charged unit (a * rate + b * rate') ≤ 2000 * size + 500
charge_most unit a b size rate rate' hu ha hb hr hr' =
    let x : a * rate ≤ size * 10000000 = mul-le-mul ha hr in
    let y : b * rate' ≤ size * 10000000 = mul-le-mul hb hr' in
    omega (arith, up_above unit 10000 (a * rate + b * rate'))

spread_most : (unit first second size rate : ℕ) → unit ≤ most_unit → first ≤ size → second ≤ size → rate ≤ most_rate
    → charged unit ((first + second) * rate) ≤ 2000 * size + 500
spread_most unit first second size rate hu hf hs hr =
    let both : first + second ≤ 2 * size = omega arith in
    let x : (first + second) * rate ≤ 2 * size * 10000000 = mul-le-mul both hr in
    omega (arith, up_above unit 10000 ((first + second) * rate))

-- each prompt is charged for what of its net delta is used and for what is not
prompts_most : (unit : ℕ) → unit ≤ most_unit → (ps : List Record) (used unused nets : List ℤ) → ((k : ℕ) → k < length ps → PromptFit (get_or ps k []))
    → ((k : ℕ) → nat_abs (get_or used k (pos 0)) ≤ nat_abs (get_or nets k (pos 0))) → ((k : ℕ) → nat_abs (get_or unused k (pos 0)) ≤ nat_abs (get_or nets k (pos 0)))
    → prompt_charges unit ps used unused ≤ 2000 * sum (map nat_abs nets) + 500 * length ps
prompts_most unit o [] used unused nets fit hu hn = zero-le
prompts_most unit o (p ∷ ps) [] unused nets fit hu hn = zero-le
prompts_most unit o (p ∷ ps) (u ∷ used) [] nets fit hu hn = zero-le
prompts_most unit o (p ∷ ps) (u ∷ used) (n ∷ unused) [] fit hu hn =
    let f = fit 0 (omega arith) in
    let first = charge_most unit (nat_abs u) (nat_abs n) 0 (spread_rate_of p) (outright_rate_of p) o (hu 0) (hn 0) f.spread_rate f.outright_rate in
    let rest = prompts_most unit o ps used unused [] (λ k l. fit (suc k) (omega arith)) (λ k. hu (suc k)) (λ k. hn (suc k)) in
    omega arith
prompts_most unit o (p ∷ ps) (u ∷ used) (n ∷ unused) (z ∷ nets) fit hu hn =
    let f = fit 0 (omega arith) in
    let first = charge_most unit (nat_abs u) (nat_abs n) (nat_abs z) (spread_rate_of p) (outright_rate_of p) o (hu 0) (hn 0) f.spread_rate f.outright_rate in
    let rest = prompts_most unit o ps used unused nets (λ k l. fit (suc k) (omega arith)) (λ k. hu (suc k)) (λ k. hn (suc k)) in
    omega arith

-- ---- one contract

-- what prompts, rows and spreads bring, over plain numbers
risk_most : (p r s scanning interprompt prompt : ℕ) → scanning ≤ r * 100000000000500 → interprompt ≤ r * 32000000000000 + s * 128000000000500
    → prompt ≤ r * 2000000000000 + p * 500 → scanning + interprompt + prompt ≤ (p + r + s) * 134000000001000
risk_most p r s scanning interprompt prompt hs hi hp = omega arith

larger_most : (p r s minimum risk credit : ℕ) → minimum ≤ r * 1000000000000 → risk ≤ (p + r + s) * 134000000001000
    → max minimum (risk - credit) ≤ (p + r + s) * 134000000001000
larger_most p r s minimum risk credit hm hr = omega arith

module _ (rates : List Record) (own : Record) (prompts rows spreads : List Record) (w : ContractFit own prompts rows spreads) (rated : Rated rates rows)
    (over : NothingOver (contract_from rates own prompts rows spreads)) where
  abbrev k : Contract
  k = contract_from rates own prompts rows spreads

  pub scanning_most : scanning_of k ≤ length rows * 100000000000500
  scanning_most =
      let held = largest-held (totals rates (unit own) rows) (omega arith) in
      let here : nat_abs (get_or (totals rates (unit own) rows) held.place (pos 0)) ≤ length rows * 100000000000500 =
      subst (λ (z : ℤ). nat_abs z ≤ length rows * 100000000000500) (sym (totals_at rates (unit own) rows held.place held.within))
      (total_most rates (unit own) w.unit_within.most rows rated (held.place + 1) (omega arith) (let l = held.within in omega arith))
      in
      le_trans (or_zero_abs (largest (totals rates (unit own) rows)))
      (subst (λ (z : ℤ). nat_abs z ≤ length rows * 100000000000500) held.holds here)

  -- all deltas of its prompts together
  sizes_most : sizes (opens_of k) ≤ length rows * most_row_delta
  sizes_most =
      let e = ap sum (map-map nat_abs (net_delta rows) prompts) in
      let s = sizes_sum prompts rows w.one_day w.rows_within.each in
      let o = opens_sizes prompts (net_deltas prompts rows) in
      omega arith

  pub prompt_most : prompt_of k ≤ length rows * 2000000000000 + length prompts * 500
  prompt_most =
      let nets = map (λ (p : Open). p.unused) (opens_of k) in
      let all =
      prompts_most (unit own) w.unit_within.most prompts (used_deltas k) (unused_deltas k) nets w.each_prompt
      (used_within (contract_steps k) (opens_of k)) (unused_within (contract_steps k) (opens_of k))
      in
      let e = ap sum (map-map nat_abs (λ (p : Open). p.unused) (opens_of k)) in
      let s = sizes_most in
      omega arith

  number_most : (j : ℕ) → get_or (step_numbers k) j 0 ≤ length rows * most_row_delta
  number_most j = le_trans (whole_number_within (contract_steps k) (opens_of k) j (interprompt-whole spreads)) sizes_most

  -- each of at most 32 spreads, over at most 128 rows
  pub interprompt_most : interprompt_of k ≤ length rows * 32000000000000 + length spreads * 128000000000500
  interprompt_most =
      let each : (j : ℕ) → j < length spreads → spread_at k j ≤ 2000 * (length rows * most_row_delta) + 500 =
      λ j l.
      spread_most (unit own) (get_or (step_numbers k) (2 * j) 0) (get_or (step_numbers k) (2 * j + 1) 0) (length rows * most_row_delta) (rate_per_spread
      (get_or spreads j []))
      w.unit_within.most (number_most (2 * j)) (number_most (2 * j + 1)) (w.each_spread j l).rate
      in
      let all = places_most (2000 * (length rows * most_row_delta) + 500) (length spreads) (spread_at k) each in
      let e = over.interprompt in
      let apart : length spreads * (2000 * (length rows * most_row_delta) + 500) ≡ length spreads * length rows * 2000000000000 + length spreads * 500 =
      product (length spreads) (length rows)
      in
      let by_rows : length spreads * length rows ≤ most_spreads * length rows = mul-le-mul_right (length rows) w.few_spreads in
      let by-spreads : length spreads * length rows ≤ length spreads * most_rows = mul-le-mul_left (length spreads) w.rows_within.few in
      omega arith
    where
      product : (s r : ℕ) → s * (2000 * (r * most_row_delta) + 500) ≡ s * r * 2000000000000 + s * 500
      product s r =
          let e : 2000 * (r * most_row_delta) ≡ r * 2000000000000 = omega arith in
          mul-add s (2000 * (r * most_row_delta)) 500
          ∙ ap (λ (n : ℕ). s * n + s * 500) e
          ∙ ap (λ (n : ℕ). n + s * 500) (sym (mul_assoc s r 2000000000000))

  minimum_most : minimum_of k ≤ length rows * 1000000000000
  minimum_most =
      let l = short-lots_most rows w.rows_within.each in
      let x : minimum_of k ≤ length rows * hundred_thousand * 10000000 = mul-le-mul l w.rate in
      omega arith

  pub margin_most : (entries : List Record) (table : List Open) → margin_of entries table k ≤ (length prompts + length rows + length spreads) * 134000000001000
  margin_most entries table =
      larger_most (length prompts) (length rows) (length spreads) (minimum_of k) (scanning_of k + interprompt_of k + prompt_of k) (credit_of entries table k)
      minimum_most
      (risk_most (length prompts) (length rows) (length spreads) (scanning_of k) (interprompt_of k) (prompt_of k) scanning_most interprompt_most prompt_most)

-- ---- all contracts of an account

abbrev records_of : List Record → Record → ℕ
records_of account own =
    length (prompts_of (contract own) account) + length (rows_of (contract own) account) + length (spreads_of (contract own) account)

all_parts : (account owns : List Record)
    → sum (map (records_of account) owns) ≤ sum (map (λ part. count part account) (parts_by owns))
all_parts account [] = zero-le
all_parts account (own ∷ owns) =
    let rest = all_parts account owns in
    let p = length-keep (of_contract 2 (contract own)) account in
    let r = length-keep (of_contract 3 (contract own)) account in
    let s = length-keep (of_contract 4 (contract own)) account in
    omega arith

module _ (account : List Record) (law : Lawful account) (over : (own : Record) → NothingOver (parts_in account own)) (entries : List Record)
    (table : List Open) where
  margins_most : (owns : List Record) → Each ContractWithin owns
      → total_margin entries table (map (parts_in account) owns) ≤ sum (map (records_of account) owns) * 134000000001000
  margins_most [] e = zero-le
  margins_most (own ∷ owns) e =
      let c = contract own in
      let first =
      margin_most (rates_of account) own (prompts_of c account) (rows_of c account) (spreads_of c account) (contract_within account law own c e.0)
      (its_rated account law c) (over own) entries table
      in
      let rest = margins_most owns e.1 in
      omega arith

  pub margin_within : Whole account → total_margin entries table (contracts account) ≤ most_total
  margin_within whole =
      let all = margins_most (contracts_of account) law.ranges.contracts in
      let parts = all_parts account (contracts_of account) in
      let together = whole.together in
      let few = law.limits.all in
      omega arith
