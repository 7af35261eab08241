-- Net deltas, and the spreads of both tables as the spread steps take them. Deltas are in ten-thousandths.
-- Assumes nothing.
use Rattle.std.specs.Prelude.{ℕ, Bool, false, List, [], ◌∷◌, map, eqb, ℤ, ◌*ℤ◌}
use Rattle.exact.specs.Lists.{keep, sum_ℤ}
use Rattle.record.specs.Layout.{Record, contract, tier, day, lots, delta, leg_count, leg_tier, leg_side, leg_ratio, second_contract, first_ratio, second_ratio, tenths}
use Rattle.spread.specs.Steps.{Open}
use Rattle.spread.specs.declared.Leg.{Leg}
use Rattle.spread.specs.declared.Spread.{Spread}

-- "Net delta of a prompt: lots × delta over its rows."
abbrev pub row_delta : Record → ℤ
row_delta row = lots row *ℤ delta row

abbrev pub of_day : ℕ → Record → Bool
of_day d row = eqb (day row) d

abbrev pub net_delta : List Record → Record → ℤ
net_delta rows prompt = sum_ℤ (map row_delta (keep (of_day (day prompt)) rows))

abbrev pub net_deltas : List Record → List Record → List ℤ
net_deltas prompts rows = map (net_delta rows) prompts

-- each prompt with its tier and net delta, all of it unused
abbrev pub opens_with : List Record → List ℤ → List Open
opens_with [] nets = []
opens_with (p ∷ ps) [] = []
opens_with (p ∷ ps) (n ∷ nets) = record { tier = tier p; unused = n } ∷ opens_with ps nets

-- an interprompt spread: its legs' tiers, sides and ratios, which are whole
abbrev pub leg_of : Record → ℕ → Leg
leg_of s i = record { tier = leg_tier s i; side = leg_side s i; ratio = leg_ratio s i }

abbrev pub interprompt : Record → Spread
interprompt s = record { legs = leg_count s; leg = leg_of s 0 ∷ leg_of s 1 ∷ leg_of s 2 ∷ []; tenths = false }

-- "Intercontract spreads run by the same steps, each contract a tier with one prompt ..; the first contract is A."
abbrev pub intercontract : Record → Spread
intercontract e =
    record {
      legs = 2;
      leg =
          record { tier = contract e; side = 1; ratio = first_ratio e }
          ∷ record { tier = second_contract e; side = 2; ratio = second_ratio e }
          ∷ record { tier = 0; side = 0; ratio = 0 }
          ∷ [];
      tenths = tenths e;
    }
