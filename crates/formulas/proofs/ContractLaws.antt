-- A contract within its ranges: what its rows come to and its book are within theirs, and the charges over the book's arrays
-- are the contract's charges.
-- Assumes nothing.
use Prim.Native.Nat.{ℕ, ◌+◌, ◌-◌, ◌*◌, ◌≤◌, ◌<◌, zero-le}
use native.Mathlib.Nat.{le_trans}
use native.Mathlib.Decide.{dec_lt}
use native.Mathlib.Omega.{arith}
use mathlib.Core.Path.{◌≡◌, refl, ap, ap₂, ◌∙◌, subst⁻¹, sym, subst}
use mathlib.Core.List.{List, map}
use lib.IntN.{ℤ, pos, nat_abs}
use lib.ListN.{length, get_or, length-map, get_or-eq_default}
use Rattle.account.specs.Check.{most_rows}
use Rattle.exact.specs.Lists.{sum, sum_ℤ}
use Rattle.exact.proofs.Lists.{abs_sum}
use Rattle.exact.proofs.Totals.{first_within as first-holding}
use Rattle.record.specs.Layout.{Record, contract, short_option_rate, unit, rate_per_spread, scenario_count}
use Rattle.spread.specs.Steps.{Open, Taker, steps, numbers, used_of, unused_of}
use Rattle.spread.specs.declared.Spreads.{Spreads}
use Rattle.spread.specs.declared.Delta.{Delta}
use Rattle.spread.specs.Accepted.{prompt_places, spread_places}
use Rattle.spread.specs.code.Book.{by_place, spreads_entry, delta_entry}
use Rattle.spread.specs.code.Lent.{deltas_from, spreads_from, book_in}
use Rattle.spread.proofs.Filling.{entries_length}
use Rattle.spread.proofs.Lengths.{used_length, unused_length}
use Rattle.formulas.specs.declared.rows.Position.{Position}
use Rattle.formulas.specs.declared.line.Line.{Line}
use Rattle.formulas.specs.Bounds.{most_delta, most_risk, most_lots, most_rate}
use Rattle.formulas.specs.Charges.{spread_charge, interprompt_charge, prompt_charges}
use Rattle.formulas.specs.Contract.{Contract, contract_from, interprompt_of, prompt_of, contract_net}
use Rattle.formulas.specs.Credit.{twice_price_risk}
use Rattle.formulas.specs.Margin.{short_option_minimum}
use Rattle.formulas.specs.Scanning.{totals, scanning_risk, active_scenario}
use Rattle.formulas.specs.Deltas.{opens_with, interprompt, net_deltas}
use Rattle.formulas.specs.code.Position.{PositionOf, Bounded}
use Rattle.formulas.specs.code.Promised.{BookOf, BookRoom, Charged, LineOf, contract_with}
use Rattle.formulas.specs.code.Risks.{TotalsWithin, Scanned}
use Rattle.formulas.specs.code.Sums.{interleaved, deltas_in, delta_in, SpreadsWithin, PromptsWithin}
use Rattle.formulas.specs.code.Within.{ContractFit}
use Rattle.formulas.proofs.BookLaws.{over_arrays, prompts_arrays}
use Rattle.spread.proofs.Lent.{deltas_again}
use Rattle.formulas.proofs.LentLaws.{delta-from}
use Rattle.formulas.proofs.LineLaws.{opens_first, opens_length, opens_sizes, opens_sound, spreads_sound, interprompt-whole, numbers-length, sum_zeros}
use Rattle.formulas.proofs.LineLaws.{size_zeros, first_within, delta_within}
use Rattle.formulas.proofs.NetLaws.{net_sizes_most}
use Rattle.formulas.proofs.StepBounds.{sizes, whole_number_within, used_within, unused_within, size_at}

-- a bound on the places of a list holds past its end too
everywhere : (n most : ℕ) (zs : List ℤ) → length zs ≡ n → ((k : ℕ) → k < n → nat_abs (get_or zs k (pos 0)) ≤ most) → (k : ℕ) → nat_abs (get_or zs k (pos 0)) ≤ most
everywhere n most zs e h k = go (dec_lt k n)
  where
    go : Dec (k < n) → nat_abs (get_or zs k (pos 0)) ≤ most
    go (yes l) = h k l
    go (no l) = subst⁻¹ (λ (z : ℤ). nat_abs z ≤ most) (get_or-eq_default zs (pos 0) (omega (arith, l))) zero-le

module _ (rates : List Record) (own : Record) (prompts rows spreads : List Record) (w : ContractFit own prompts rows spreads) (q : Position)
    (is : PositionOf rates (unit own) prompts rows q) (most : Bounded most_rows q) where
  abbrev nets : List ℤ
  nets = deltas_in q.nets

  abbrev k : Contract
  k = contract_from rates own prompts rows spreads

  abbrev ps : List Open
  ps = opens_with prompts (deltas_in q.nets)

  abbrev ss : List (List Taker)
  ss = steps (map interprompt spreads)

  net_most : (j : ℕ) → nat_abs (get_or nets j (pos 0)) ≤ most_delta
  net_most = everywhere prompt_places most_delta nets most.nets_most.as_many most.nets_most.size

  pub book-room : BookRoom prompts nets spreads
  book-room =
      record {
        few_prompts = w.few_prompts;
        few_spreads = w.few_spreads;
        nets_beyond = is.nets_beyond;
        prompts_sound = opens_sound prompts nets (λ j h. (w.each_prompt j h).tier_within) net_most;
        spreads_sound = spreads_sound interprompt spreads (λ j h. (w.each_spread j h).sound);
      }

  pub totals-room : TotalsWithin q.totals.0
  totals-room = record { each = λ s. everywhere scenario_count most_risk q.totals.0 most.totals_most.as_many most.totals_most.size (s - 1) }

  pub nets_are : opens_with prompts nets ≡ opens_with prompts (net_deltas prompts rows)
  nets_are = opens_first prompts nets ∙ ap (opens_with prompts) is.nets_are

  sizes_within : sizes ps ≤ most_delta
  sizes_within =
      subst⁻¹ (λ (x : List Open). sizes x ≤ most_delta) nets_are
      (le_trans (opens_sizes prompts (net_deltas prompts rows)) (net_sizes_most prompts rows w.one_day w.rows_within))

  -- the net delta of the contract
  pub net_is : sum_ℤ nets ≡ contract_net k
  net_is = sum_zeros (length prompts) nets is.nets_beyond ∙ ap sum_ℤ is.nets_are

  pub net_sizes : sum (map nat_abs nets) ≤ most_delta
  net_sizes =
      subst⁻¹ (λ (n : ℕ). n ≤ most_delta) (size_zeros (length prompts) nets is.nets_beyond ∙ ap (λ (zs : List ℤ). sum (map nat_abs zs)) is.nets_are)
      (net_sizes_most prompts rows w.one_day w.rows_within)

  number_most : (j : ℕ) → get_or (numbers ss ps) j 0 ≤ most_delta
  number_most j = le_trans (whole_number_within ss ps j (interprompt-whole spreads)) sizes_within

  used_most : (j : ℕ) → nat_abs (get_or (used_of ss ps) j (pos 0)) ≤ most_delta
  used_most j = le_trans (used_within ss ps j) (le_trans (size_at ps j) sizes_within)

  unused_most : (j : ℕ) → nat_abs (get_or (unused_of ss ps) j (pos 0)) ≤ most_delta
  unused_most j = le_trans (unused_within ss ps j) (le_trans (size_at ps j) sizes_within)

  prompts_open : length ps ≡ length prompts
  prompts_open = ap length nets_are ∙ opens_length prompts (net_deltas prompts rows) (length-map prompts _)

  lent_there : (zs ds : List ℤ) → deltas_from zs ≡ by_place prompt_places (delta_entry ds) → length prompts ≤ length zs
  lent_there zs ds e =
      let n : length (deltas_from zs) ≡ length zs = length-map zs _ in
      omega (arith, w.few_prompts, ap length e, entries_length prompt_places (delta_entry ds))

  lent_within : (zs ds : List ℤ) (j : ℕ) → j < prompt_places → deltas_from zs ≡ by_place prompt_places (delta_entry ds)
      → ((i : ℕ) → nat_abs (get_or ds i (pos 0)) ≤ most_delta) → nat_abs (get_or zs j (pos 0)) ≤ most_delta
  lent_within zs ds j l e most =
      subst (λ (z : ℤ). nat_abs z ≤ most_delta) (sym (ap (λ (xs : List Delta). delta_in xs j) e) ∙ delta-from zs j) (delta_within ds most_delta most j l)

  module _ (first second : List ℕ) (used unused : List ℤ) (bk : BookOf ss ps (book_in first second used unused)) where
    pub spreads_room : SpreadsWithin (unit own) spreads (spreads_from first) (spreads_from second)
    spreads_room =
        record {
          most = w.few_spreads;
          firsts_there = omega (arith, w.few_spreads, ap length bk.first_is, entries_length spread_places (λ k. spreads_entry (numbers ss ps) (2 * k)));
          seconds_there = omega (arith, w.few_spreads, ap length bk.second_is, entries_length spread_places (λ k. spreads_entry (numbers ss ps) (2 * k + 1)));
          each =
              λ j h.
              let l : j < spread_places = omega (arith, w.few_spreads) in
              record {
                unit_within = w.unit_within.most;
                rate = (w.each_spread j h).rate;
                first_within = rw bk.first_is (first_within (numbers ss ps) (λ i. 2 * i) most_delta number_most j l);
                second_within = rw bk.second_is (first_within (numbers ss ps) (λ i. 2 * i + 1) most_delta number_most j l);
              };
        }

    pub prompts_room : PromptsWithin (unit own) prompts used unused
    prompts_room =
        record {
          most = w.few_prompts;
          used_there = lent_there used (used_of ss ps) bk.used_is;
          unused_there = lent_there unused (unused_of ss ps) bk.unused_is;
          each =
              λ j h.
              let l : j < prompt_places = omega (arith, w.few_prompts) in
              record {
                unit_within = w.unit_within.most;
                spread_rate = (w.each_prompt j h).spread_rate;
                outright_rate = (w.each_prompt j h).outright_rate;
                used_within = lent_within used (used_of ss ps) j l bk.used_is used_most;
                unused_within = lent_within unused (unused_of ss ps) j l bk.unused_is unused_most;
              };
        }

    pub interprompt_is : interprompt_charge (unit own) spreads (interleaved (spreads_from first) (spreads_from second)) ≡ interprompt_of k
    interprompt_is =
        ap₂ (λ (x y : List Spreads). interprompt_charge (unit own) spreads (interleaved x y)) bk.first_is bk.second_is
        ∙ over_arrays (λ s. spread_charge (unit own) (rate_per_spread s)) spreads (numbers ss ps) spread_places (numbers-length interprompt spreads ps)
        w.few_spreads
        ∙ ap (λ (x : List Open). interprompt_charge (unit own) spreads (numbers ss x)) nets_are

    pub prompt_is : prompt_charges (unit own) prompts used unused ≡ prompt_of k
    prompt_is =
        ap₂ (prompt_charges (unit own) prompts) (sym (deltas_again used)) (sym (deltas_again unused))
        ∙ ap₂ (λ (x y : List Delta). prompt_charges (unit own) prompts (deltas_in x) (deltas_in y)) bk.used_is bk.unused_is
        ∙ prompts_arrays (unit own) prompts (used_of ss ps) (unused_of ss ps) prompt_places (used_length ss ps ∙ prompts_open) (unused_length ss ps ∙ prompts_open)
        w.few_prompts
        ∙ ap (λ (x : List Open). prompt_charges (unit own) prompts (used_of ss x) (unused_of ss x)) nets_are

    -- the line, from what was made of the rows, the book and the contract's own record
    pub line_is : (l : Line) (rate : ℕ) → l.contract ≡ contract own → l.unit ≡ unit own → Scanned q.totals.0 l.active l.scanning.0
        l.twice_price → Charged (unit own) prompts spreads first second used unused l.interprompt.0 l.prompt.0
        → rate ≡ short_option_rate own → l.minimum.0 ≡ short_option_minimum q.shorts rate → l.minimum.0 ≤ most_lots * most_rate
        → l.net.0 ≡ sum_ℤ nets → LineOf k l
    line_is l rate ec eu sc ch er em hm en =
        let active : l.active ≡ active_scenario (totals rates (unit own) rows) = sc.active_is ∙ ap active_scenario is.totals_are in
        let sixteen : length (totals rates (unit own) rows) ≡ scenario_count = refl in
        let few : active_scenario (totals rates (unit own) rows) ≤ scenario_count = first-holding (totals rates (unit own) rows) (omega arith) in
        record {
          contract_is = ec;
          unit_is = eu;
          active_is = active;
          scanning_is = sc.scanning_is ∙ ap scanning_risk is.totals_are;
          interprompt_is = ch.interprompt_is ∙ interprompt_is;
          prompt_is = ch.prompt_is ∙ prompt_is;
          minimum_is = em ∙ ap₂ short_option_minimum is.shorts_are er;
          price_is = sc.price_is ∙ ap twice_price_risk is.totals_are;
          net_is = en ∙ net_is;
          within =
              record {
                contract_within = omega (arith, w.number);
                active_within = omega arith;
                scanning_within = sc.scanning_within;
                interprompt_within = omega (arith, ch.interprompt_within);
                prompt_within = omega (arith, ch.prompt_within);
                minimum_within = hm;
              };
          unit_within = record { least = omega (arith, eu, w.unit_within.least); most = omega (arith, eu, w.unit_within.most) };
          price_within = sc.price_within;
          net_within = subst⁻¹ (λ (z : ℤ). nat_abs z ≤ most_delta) en (le_trans (abs_sum nets) net_sizes);
        }

-- a contract known by its rows is the one known by what they come to
pub contract_with_lem : (rates : List Record) (own : Record) (prompts rows spreads : List Record) (p : Position)
    → PositionOf rates (unit own) prompts rows p → contract_from rates own prompts rows spreads ≡ contract_with own prompts spreads p
contract_with_lem rates own prompts rows spreads p is =
    λ i. record {
      own = own;
      prompts = prompts;
      spreads = spreads;
      totals = sym is.totals_are i;
      nets = sym is.nets_are i;
      shorts = sym
          is.shorts_are i;
    }

pub line_with : (rates : List Record) (own : Record) (prompts rows spreads : List Record) (p : Position) → PositionOf rates (unit own) prompts rows p
    → (l : Line) → LineOf (contract_from rates own prompts rows spreads) l → LineOf (contract_with own prompts spreads p) l
line_with rates own prompts rows spreads p is l = subst (λ (k : Contract). LineOf k l) (contract_with_lem rates own prompts rows spreads p is)
