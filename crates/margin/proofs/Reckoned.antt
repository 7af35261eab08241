-- The reckoned examples hold of the definitions: each is computed.
-- Assumes nothing.
use mathlib.Core.Path.{◌≡◌, refl}
use mathlib.Core.List.{[], ◌∷◌, map}
use lib.IntN.{pos}
use Rattle.account.specs.Records.{records}
use Rattle.margin.specs.Figures.{figures}
use Rattle.margin.specs.Reckoned.{printed_at, Reckoned, Printed}

pub reckoned : Reckoned
reckoned =
    record {
      p1_formed = refl;
      p1_charge = refl;
      p1_prompts = refl;
      p1_touches = refl;
      p2 = refl;
      p3_formed = refl;
      p3_left = refl;
      p3_touches = refl;
      p4_formed = refl;
      p4_charge = refl;
      p5 = refl;
      p6 = refl;
      p7_risk = refl;
      p7_active = refl;
      p8 = refl;
      four-places = refl;
      half_a_place = refl;
      half_a_place-earns = refl;
      largest-unit = refl;
      largest-unit-earns = refl;
      p9 = refl;
      p10 = refl;
      fef_formed = refl;
      fef_keeps = refl;
      unrounded-beyond = refl;
      use_of-nothing = refl;
      touch_of_nothing = refl;
      use_of_half = refl;
      converted-loss = refl;
      converted_gain = refl;
      converted-short = refl;
      not-converted = refl;
      converted_half = refl;
      converted_half_gained = refl;
      converted_below = refl;
      fifteen_gained = refl;
      fifteen_lost = refl;
      fifteen_gained_whole = refl;
      fifteen_lost_whole = refl;
      not_netted = refl;
      unrated = refl;
      largest-loss = refl;
      largest-loss_passes = refl;
      largest_gain_passes = refl;
      rounded_passes = refl;
      one_more_lem = refl;
      one_more_refused = refl;
      one_more_gained = refl;
      one_more_gained_refused = refl;
      yen_half = refl;
      yen_below = refl;
      yen_half_gained = refl;
      yen_below_gained = refl;
      yen_total = refl;
      yen_charge_below = refl;
      yen_charge = refl;
      yen_charge_once = refl;
      yen_prompt_below = refl;
      yen_prompt = refl;
      yen_credit_below = refl;
      yen_credit_once = refl;
      yen_credit = refl;
      yen_minimum = refl;
    }

at_one : figures (records (printed_at 1)) ≡ map pos (3 ∷ 13 ∷ 383250 ∷ 0 ∷ 400 ∷ 0 ∷ 1500 ∷ 383650 ∷ 383650 ∷ [])
at_one = refl

in_yen : figures (records (printed_at 100)) ≡ map pos (3 ∷ 13 ∷ 383200 ∷ 0 ∷ 400 ∷ 0 ∷ 1500 ∷ 383600 ∷ 383600 ∷ [])
in_yen = refl

pub printed : Printed
printed = record { accepted = refl; prints = refl; at_one = at_one; in_yen = in_yen }
