-- "Reckoned examples" of document 01, P1 to P10, those of requests 2026-03, 2026-04 and 2026-11 with their corners, where 2026-05
-- converts and where 2026-09 rounds, one claim. Deltas and numbers of spreads stand in ten-thousandths, amounts in hundredths.
-- Assumes nothing.
use Rattle.std.specs.Prelude.{ℕ, ◌*◌, ◌≡◌, true, false, List, [], ◌∷◌, ◌++◌, map, ℤ, pos, negsuc, neg_ℤ, replicate, Ok}
use Rattle.record.specs.Layout.{Record}
use Rattle.account.specs.Records.{records}
use Rattle.account.specs.Checked.{checked}
use Rattle.account.specs.Products.{in_hundredths, has_rate, conversion_beyond}
use Rattle.margin.specs.Entered.{contract_record, prompt_record, row_in, row_record, spread_record, entry_record, rate_record}
use Rattle.formulas.specs.Scanning.{product, total, scanning_risk, active_scenario}
use Rattle.formulas.specs.Charges.{spread_charge, prompt_charge}
use Rattle.formulas.specs.Pairs.{pair_of}
use Rattle.formulas.specs.Credit.{unit_price_risk, credit}
use Rattle.spread.specs.Steps.{Open, Taker, numbers, unused_of}
use Rattle.spread.specs.Touches.{touches}
use Rattle.formulas.specs.Contract.{Contract, contract_from, step_numbers, unused_deltas, contract_touches, interprompt_of, prompt_of, margin_of, as_tier, table_steps}
use Rattle.margin.specs.Figures.{figures}

-- whole lots, long and short
abbrev pub lots_long : ℕ → ℤ
lots_long n = pos (n * 10000)

abbrev pub lots_short : ℕ → ℤ
lots_short n = neg_ℤ (pos (n * 10000))

-- a contract with given prompts, net deltas and spreads, and no rows but those that gave the nets
abbrev pub holding : List Record → List ℤ → List Record → Contract
holding prompts nets spreads =
    record {
      own = contract_record 0 0 0;
      prompts = prompts;
      spreads = spreads;
      totals = replicate 16 (pos 0);
      nets = nets;
      shorts = 0;
    }

-- a prompt of a tier, with no rates
abbrev pub prompt_in : ℕ → ℕ → Record
prompt_in tier day = prompt_record 0 tier day 0 0

-- a spread between two tiers, one to one
abbrev pub one_to_one : ℕ → ℕ → ℕ → Record
one_to_one rate tierA tierB = spread_record 0 rate tierA 1 tierB 1

-- "P1, 002 Case Three: prompts tier 1: -30; tier 2: 20, -5; tier 3: 100, -10, -10; spreads 1-1, 2-2, 3-3, 1-2, 2-3, 1-3
-- at 100, 200, 350, 225, 325, 375 .. with rates 3/1 at the first prompt and 2/1 at the fourth"
abbrev pub case_three : Contract
case_three =
    holding
    (prompt_record 0 1 1 300 100
    ∷ prompt_in 2 2
    ∷ prompt_in 2 3
    ∷ prompt_record 0 3 4 200 100
    ∷ prompt_in 3 5
    ∷ prompt_in 3 6
    ∷ [])
    (lots_short 30 ∷ lots_long 20 ∷ lots_short 5 ∷ lots_long 100 ∷ lots_short 10 ∷ lots_short 10 ∷ [])
    (one_to_one 10000 1 1
    ∷ one_to_one 20000 2 2
    ∷ one_to_one 35000 3 3
    ∷ one_to_one 22500 1 2
    ∷ one_to_one 32500 2 3
    ∷ one_to_one 37500 1 3
    ∷ [])

-- "P2, 000: tier 1: 18, -6; tier 2: -4; tier 3: 3.8101; spreads 1-1, 1-2, 1-3"
abbrev pub three_tiers : Contract
three_tiers =
    holding (prompt_in 1 1 ∷ prompt_in 1 2 ∷ prompt_in 2 3 ∷ prompt_in 3 4 ∷ [])
    (lots_long 18 ∷ lots_short 6 ∷ lots_short 4 ∷ pos 38101 ∷ [])
    (one_to_one 0 1 1 ∷ one_to_one 0 1 2 ∷ one_to_one 0 1 3 ∷ [])

-- "P3: one tier, long 3.0001, short 5, A ratio 2, B ratio 1"
abbrev pub one_tier : Contract
one_tier = holding (prompt_in 1 1 ∷ prompt_in 1 2 ∷ []) (pos 30001 ∷ lots_short 5 ∷ []) (spread_record 0 0 1 2 1 1 ∷ [])

-- "P4: tier 1 long 10, tiers 2 and 3 short 10 each; 1-2 at 5.00, then 1-3 at 1.00"
abbrev pub by_priority : Contract
by_priority =
    holding (prompt_in 1 1 ∷ prompt_in 2 2 ∷ prompt_in 3 3 ∷ []) (lots_long 10 ∷ lots_short 10 ∷ lots_short 10 ∷ [])
    (one_to_one 500 1 2 ∷ one_to_one 100 1 3 ∷ [])

-- "P7: all totals -4"
abbrev pub gains : List ℤ
gains = replicate 16 (negsuc 3)

-- "P10: one short call, rate 500, nothing else above 0"
abbrev pub short_call : Contract
short_call =
    contract_from [] (contract_record 0 500 0) (prompt_in 1 1 ∷ [])
    (row_record 0 1 1 1850 (negsuc 0) (pos 5200) 1 (replicate 16 (pos 0)) ∷ []) []

-- 2026-09: the same at a rate of 549, in whole yen
abbrev pub yen_call : Contract
yen_call =
    contract_from [] (contract_record 0 549 100) (prompt_in 1 1 ∷ [])
    (row_record 0 1 1 1850 (negsuc 0) (pos 5200) 1 (replicate 16 (pos 0)) ∷ []) []

-- a forward of one lot that loses so many hundredths in scenario 1
abbrev pub losing : ℤ → Record
losing loss = row_record 0 0 1 0 (pos 1) (pos 0) 1 (loss ∷ replicate 15 (pos 0))

-- 2026-05: a forward in currency 1 that loses, or gains, in scenario 1: lots, value and loss
abbrev pub foreign : ℤ → ℕ → ℤ → Record
foreign lots value loss = row_in 1 0 0 1 0 lots (pos 0) value (loss ∷ replicate 15 (pos 0))

-- the one rate of an account, in millionths, and its percent
abbrev pub rate_of : ℕ → ℕ → List Record
rate_of spot_rate adjustment = rate_record 1 spot_rate adjustment ∷ []

-- 15.00 at a rate of 1 and 33 percent: lowered and raised it is the 10 and 20 in whole units that 002 compares
abbrev pub fifteen : ℤ → Record
fifteen = foreign (pos 1) 1

-- "Given contract 3 with short option rate 500; one prompt, tier 1, day 20260318, rates 0 and 1000; two rows at value 25,
-- being 002's forward array for 2 lots (delta 9800) and its call array at strike 1850 for -3 lots (delta 5200)"
abbrev pub forward_losses : List ℤ
forward_losses =
    pos 0
    ∷ pos 0
    ∷ neg_ℤ (pos 4900)
    ∷ neg_ℤ (pos 4900)
    ∷ pos 4900
    ∷ pos 4900
    ∷ neg_ℤ (pos 9800)
    ∷ neg_ℤ (pos 9800)
    ∷ pos 9800
    ∷ pos 9800
    ∷ neg_ℤ (pos 14700)
    ∷ neg_ℤ (pos 14700)
    ∷ pos 14700
    ∷ pos 14700
    ∷ neg_ℤ (pos 10300)
    ∷ pos 10300
    ∷ []

abbrev pub call_losses : List ℤ
call_losses =
    neg_ℤ (pos 1005)
    ∷ pos 1144
    ∷ neg_ℤ (pos 3845)
    ∷ neg_ℤ (pos 1753)
    ∷ pos 1363
    ∷ pos 3406
    ∷ neg_ℤ (pos 7125)
    ∷ neg_ℤ (pos 5231)
    ∷ pos 3254
    ∷ pos 5038
    ∷ neg_ℤ (pos 10795)
    ∷ neg_ℤ (pos 9188)
    ∷ pos 4690
    ∷ pos 6112
    ∷ neg_ℤ (pos 8093)
    ∷ pos 2480
    ∷ []

-- at a unit in hundredths, or 0
abbrev pub printed_at : ℕ → List ℕ
printed_at unit =
    contract_record 3 500 unit
    ++ prompt_record 3 1 20260318 0 1000
    ++ row_record 3 0 20260318 0 (pos 2) (pos 9800) 25 forward_losses
    ++ row_record 3 1 20260318 1850 (negsuc 2) (pos 5200) 25 call_losses

-- an entry of contract 1 against contract 2 with its ratios in tenths, and the two contracts with their net deltas
abbrev pub in_tenths_of : ℕ → ℕ → List (List Taker)
in_tenths_of first second = table_steps (entry_record 1 2 85 first second 1 ∷ [])

abbrev pub against : ℤ → ℤ → List Open
against first second = record { tier = 1; unused = first } ∷ record { tier = 2; unused = second } ∷ []

-- 2026-03: FEF to AEX at "9.6 to 1", "120.0000 against -1.0012"
abbrev pub fef_against_aex : List Open
fef_against_aex = against (lots_long 120) (neg_ℤ (pos 10012))

-- The numbers of a spread's first and second step stand side by side.
pub record Reckoned : Type 0 where
  -- "Formed 0, 5, 20, 15, 0, 15; charge 17,000; .. prompt charge 225."
  pub p1_formed : step_numbers case_three ≡ 0 ∷ 0 ∷ 50000 ∷ 0 ∷ 200000 ∷ 0 ∷ 0 ∷ 150000 ∷ 0 ∷ 0 ∷ 0 ∷ 150000 ∷ []
  pub p1_charge : interprompt_of case_three ≡ 1700000
  pub p1_prompts : prompt_of case_three ≡ 22500
  -- 2026-11: 2-2 takes of two prompts, 3-3 of three, 1-2 and 1-3 of two each
  pub p1_touches : contract_touches case_three ≡ 9
  -- "form 6, 4, 0"
  pub p2 : step_numbers three_tiers ≡ 60000 ∷ 0 ∷ 40000 ∷ 0 ∷ 0 ∷ 0 ∷ []
  -- "first step 1.5000, second 0.0001; left 0 long, 3.4998 short"
  pub p3_formed : step_numbers one_tier ≡ 15000 ∷ 1 ∷ []
  pub p3_left : unused_deltas one_tier ≡ pos 0 ∷ neg_ℤ (pos 34998) ∷ []
  -- both steps take of both prompts
  pub p3_touches : contract_touches one_tier ≡ 4
  -- "formed 10, 0; charge 50.00"
  pub p4_formed : step_numbers by_priority ≡ 100000 ∷ 0 ∷ 0 ∷ 0 ∷ []
  pub p4_charge : interprompt_of by_priority ≡ 5000
  -- "P5, P6: numbers 1.4999 and 1.5000 at a rate of one hundredth charge 1 and 2 hundredths"
  pub p5 : spread_charge 1 1 14999 0 ≡ 1
  pub p6 : spread_charge 1 1 15000 0 ≡ 2
  -- "scanning risk 0, active scenario 1"
  pub p7_risk : scanning_risk gains ≡ 0
  pub p7_active : active_scenario gains ≡ 1
  -- "P8, 000 AEX: price risk 5,100.42, used and net 1.0012, 85 percent: credit 4,335.36"
  pub p8 : credit 1 (2 * 510042) 10012 85 10012 ≡ 433536
  -- 2026-04: "A price risk of 100.00 on a fully used net delta of 30,000 at 100 percent now earns 99.00 and not 100.00."
  pub four-places : credit 1 (2 * 10000) 300000000 100 300000000 ≡ 9900
  -- half a ten-thousandth, from the half of a hundredth in a price risk of 100.005: on 666,700 lots 0.00015, which counts as 0.0002
  pub half_a_place : unit_price_risk 20001 6667000000 ≡ 2
  pub half_a_place-earns : credit 1 20001 6667000000 100 6667000000 ≡ 13334
  -- the largest price risk on the smallest net delta, 0.0001: a unit beyond 64 bits
  pub largest-unit : unit_price_risk (2 * 25600000000000000) 1 ≡ 25600000000000000000000
  pub largest-unit-earns : credit 1 (2 * 25600000000000000) 1 100 1 ≡ 25600000000000000
  -- "P9: active 15 pairs with 15"
  pub p9 : pair_of 15 ≡ 15
  -- "margin 500"
  pub p10 : margin_of [] (as_tier short_call ∷ []) short_call ≡ 500
  -- "FEF keeps 110.3885": 1.0012 are formed, and 9.6 × 1.0012 is 9.61152
  pub fef_formed : numbers (in_tenths_of 96 10) fef_against_aex ≡ 10012 ∷ 0 ∷ []
  pub fef_keeps : unused_of (in_tenths_of 96 10) fef_against_aex ≡ pos 1103885 ∷ pos 0 ∷ []
  -- a pool of 0.0001 at 1.4 forms nothing, although the use of 0.0001, rounded, would fit it
  pub unrounded-beyond : numbers (in_tenths_of 14 10) (against (pos 1) (lots_short 1)) ≡ 0 ∷ 0 ∷ []
  -- 0.0004 at 0.1 use 0.00004 of a pool, which rounds to nothing; 0.0005 use half a ten-thousandth, which goes up
  pub use_of-nothing : unused_of (in_tenths_of 1 10) (against (lots_long 1) (neg_ℤ (pos 4))) ≡ lots_long 1 ∷ pos 0 ∷ []
  -- and a leg that takes nothing touches nothing
  pub touch_of_nothing : touches (in_tenths_of 1 10) (against (lots_long 1) (neg_ℤ (pos 4))) ≡ 1
  pub use_of_half : unused_of (in_tenths_of 1 10) (against (lots_long 1) (neg_ℤ (pos 5))) ≡ pos 9999 ∷ pos 0 ∷ []
  -- 2026-05: at a rate of 1.25 and 10 percent a loss of 100.00 is 137.50, a gain of 100.00 is 112.50
  pub converted-loss : product (rate_of 1250000 10) 1 1 (foreign (pos 1) 1 (pos 10000)) ≡ pos 13750
  pub converted_gain : product (rate_of 1250000 10) 1 1 (foreign (pos 1) 1 (neg_ℤ (pos 10000))) ≡ neg_ℤ (pos 11250)
  -- "goes by the sign of lots × value × loss": a short lot gains where a long one loses
  pub converted-short : product (rate_of 1250000 10) 1 1 (foreign (negsuc 0) 1 (pos 10000)) ≡ neg_ℤ (pos 11250)
  -- "currency 0 is not converted"
  pub not-converted : product (rate_of 1250000 10) 1 1 (losing (pos 10000)) ≡ pos 10000
  -- half a hundredth goes away from zero, less than half does not
  pub converted_half : product (rate_of 500000 0) 1 1 (foreign (pos 1) 1 (pos 1)) ≡ pos 1
  pub converted_half_gained : product (rate_of 500000 0) 1 1 (foreign (pos 1) 1 (negsuc 0)) ≡ negsuc 0
  pub converted_below : product (rate_of 499999 0) 1 1 (foreign (pos 1) 1 (pos 1)) ≡ pos 0
  -- 002: "if -10 is compared to -20 then -10 is selected; .. if 10 is compared to 20 then 20 is selected"
  pub fifteen_gained : product (rate_of 1000000 33) 1 1 (fifteen (neg_ℤ (pos 1500))) ≡ neg_ℤ (pos 1005)
  pub fifteen_lost : product (rate_of 1000000 33) 1 1 (fifteen (pos 1500)) ≡ pos 1995
  -- and (2026-09) "after conversion to hundredths" to whole units
  pub fifteen_gained_whole : product (rate_of 1000000 33) 100 1 (fifteen (neg_ℤ (pos 1500))) ≡ neg_ℤ (pos 1000)
  pub fifteen_lost_whole : product (rate_of 1000000 33) 100 1 (fifteen (pos 1500)) ≡ pos 2000
  -- each row is converted, not what they come to: a lot long and one short leave 20.00 of 100.00 at 10 percent
  pub not_netted : total (rate_of 1000000 10) 1 (foreign (pos 1) 1 (pos 10000) ∷ foreign (negsuc 0) 1 (pos 10000) ∷ []) 1 ≡ pos 2000
  -- 14: no rate of its currency
  pub unrated : has_rate (rate_record 2 1000000 0 ∷ []) (foreign (pos 1) 1 (pos 1)) ≡ false
  -- 15: 100,000,000,000,000 passes on either side of zero, also as what 100,000,000,000,000.34 rounds to; one hundredth more does not
  pub largest-loss : in_hundredths (rate_of 1000000 0) 1 (foreign (pos 100000) 10000 (pos 100000)) ≡ pos 100000000000000
  pub largest-loss_passes : conversion_beyond (rate_of 1000000 0) (foreign (pos 100000) 10000 (pos 100000)) ≡ false
  pub largest_gain_passes : conversion_beyond (rate_of 1000000 0) (foreign (neg_ℤ (pos 100000)) 10000 (pos 100000)) ≡ false
  pub rounded_passes : conversion_beyond (rate_of 99990225 50) (foreign (pos 80702) 84 (pos 98353)) ≡ false
  pub one_more_lem : in_hundredths (rate_of 90130527 50) 1 (foreign (pos 80120) 117 (pos 78906)) ≡ pos 100000000000001
  pub one_more_refused : conversion_beyond (rate_of 90130527 50) (foreign (pos 80120) 117 (pos 78906)) ≡ true
  pub one_more_gained : in_hundredths (rate_of 99050910 0) 1 (foreign (pos 96314) 112 (neg_ℤ (pos 93591))) ≡ neg_ℤ (pos 100000000000001)
  pub one_more_gained_refused : conversion_beyond (rate_of 99050910 0) (foreign (pos 96314) 112 (neg_ℤ (pos 93591))) ≡ true
  -- 2026-09: a product of 1.50 in whole yen, one hundredth less, and the same the other way
  pub yen_half : product [] 100 1 (losing (pos 150)) ≡ pos 200
  pub yen_below : product [] 100 1 (losing (pos 149)) ≡ pos 100
  pub yen_half_gained : product [] 100 1 (losing (neg_ℤ (pos 150))) ≡ neg_ℤ (pos 200)
  pub yen_below_gained : product [] 100 1 (losing (neg_ℤ (pos 149))) ≡ neg_ℤ (pos 100)
  -- each is rounded "before adding": two of 1.50 are 4 yen
  pub yen_total : total [] 100 (losing (pos 150) ∷ losing (pos 150) ∷ []) 1 ≡ pos 400
  -- a charge of 1.49 and of 1.50; one of 1.495 in one rounding, which two would take to 2 yen
  pub yen_charge_below : spread_charge 100 149 10000 0 ≡ 100
  pub yen_charge : spread_charge 100 150 10000 0 ≡ 200
  pub yen_charge_once : spread_charge 100 50 29900 0 ≡ 100
  pub yen_prompt_below : prompt_charge 100 100 49 (pos 10000) (neg_ℤ (pos 10000)) ≡ 100
  pub yen_prompt : prompt_charge 100 100 50 (pos 10000) (neg_ℤ (pos 10000)) ≡ 200
  -- a credit of 1.49, of 1.495 and of 1.50
  pub yen_credit_below : credit 100 (2 * 149) 10000 100 10000 ≡ 100
  pub yen_credit_once : credit 100 299 10000 100 10000 ≡ 100
  pub yen_credit : credit 100 (2 * 150) 10000 100 10000 ≡ 200
  -- "The short option minimum stays exact."
  pub yen_minimum : margin_of [] (as_tier yen_call ∷ []) yen_call ≡ 549

-- "it prints C 3 13 383250 0 400 0 1500 383650, T 383650", and (2026-09) the same at "0 and 1 both meaning one hundredth"; in whole yen
-- the call's gain of 3,517.50 is 3,518
pub record Printed : Type 0 where
  pub accepted : checked (printed_at 0) ≡ Ok tt
  pub prints : figures (records (printed_at 0)) ≡ map pos (3 ∷ 13 ∷ 383250 ∷ 0 ∷ 400 ∷ 0 ∷ 1500 ∷ 383650 ∷ 383650 ∷ [])
  pub at_one : figures (records (printed_at 1)) ≡ map pos (3 ∷ 13 ∷ 383250 ∷ 0 ∷ 400 ∷ 0 ∷ 1500 ∷ 383650 ∷ 383650 ∷ [])
  pub in_yen : figures (records (printed_at 100)) ≡ map pos (3 ∷ 13 ∷ 383200 ∷ 0 ∷ 400 ∷ 0 ∷ 1500 ∷ 383600 ∷ 383600 ∷ [])
