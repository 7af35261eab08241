-- What the functions over a contract promise.
-- Assumes nothing.
use Rattle.std.specs.Prelude.{ℕ, ◌+◌, ◌*◌, ◌≤◌, ◌≡◌, true, List, map, ℤ, pos, nat_abs, length, get_or, take}
use Rattle.record.specs.Layout.{Record, contract, unit, most_unit}
use Rattle.record.specs.Within.{Between}
use Rattle.account.specs.Check.{most_prompts, most_rows, most_spreads}
use Rattle.spread.specs.Steps.{Open, Taker, numbers, used_of, unused_of}
use Rattle.spread.specs.Accepted.{every, sound_prompt, sound_spread, prompt_places, spread_places}
use Rattle.spread.specs.code.Book.{by_place, spreads_entry, delta_entry}
use Rattle.spread.specs.code.Lent.{spreads_from}
use Rattle.spread.specs.declared.Spreads.{Spreads}
use Rattle.spread.specs.declared.book.Book.{Book}
use Rattle.formulas.specs.declared.line.Line.{Line}
use Rattle.formulas.specs.declared.rows.Position.{Position}
use Rattle.formulas.specs.Bounds.{most_delta, most_charge, most_risk}
use Rattle.formulas.specs.Charges.{interprompt_charge, prompt_charges}
use Rattle.formulas.specs.code.Sums.{interleaved, deltas_in}
use Rattle.formulas.specs.Contract.{Contract, active_of, scanning_of, interprompt_of, prompt_of, minimum_of, contract_net}
use Rattle.formulas.specs.Deltas.{opens_with, interprompt}
use Rattle.formulas.specs.Credit.{twice_price_risk}
use Rattle.formulas.specs.code.Lines.{LineWithin}
use Rattle.formulas.specs.code.Position.{PositionOf, Bounded}
use Rattle.formulas.specs.code.Within.{ContractFit}

-- a contract known by what its rows come to
abbrev pub contract_with : Record → List Record → List Record → Position → Contract
contract_with own prompts spreads p =
    record {
      own = own;
      prompts = prompts;
      spreads = spreads;
      totals = p.totals.0;
      nets = take (length prompts) (deltas_in p.nets);
      shorts = p.shorts;
    }

-- some rows within their ranges come to it, at some rates
pub record PositionFit (own : Record) (prompts spreads : List Record) (p : Position) : Type 0 where
  pub rates : List Record
  pub rows : List Record
  pub fit : ContractFit own prompts rows spreads
  pub is : PositionOf rates (unit own) prompts rows p
  pub most : Bounded most_rows p

-- the same, whatever the contract's own record: its book does not go by it
pub record BookFit (prompts spreads : List Record) (p : Position) : Type 0 where
  pub own : Record
  pub fits : PositionFit own prompts spreads p

-- the book of steps over prompts, place by place, and zeros beyond
pub record BookOf (ss : List (List Taker)) (ps : List Open) (b : Book) : Type 0 where
  pub first_is : b.first ≡ by_place spread_places (λ k. spreads_entry (numbers ss ps) (2 * k))
  pub second_is : b.second ≡ by_place spread_places (λ k. spreads_entry (numbers ss ps) (2 * k + 1))
  pub used_is : b.used ≡ by_place prompt_places (delta_entry (used_of ss ps))
  pub unused_is : b.unused ≡ by_place prompt_places (delta_entry (unused_of ss ps))

-- the numbers alone that the steps form, by spread
pub record FormedOf (ss : List (List Taker)) (ps : List Open) (first second : List Spreads) : Type 0 where
  pub first_is : first ≡ by_place spread_places (λ k. spreads_entry (numbers ss ps) (2 * k))
  pub second_is : second ≡ by_place spread_places (λ k. spreads_entry (numbers ss ps) (2 * k + 1))

-- prompts and spreads that the spread steps accept; the net deltas past the prompts are 0
pub record BookRoom (prompts : List Record) (nets : List ℤ) (spreads : List Record) : Type 0 where
  pub few_prompts : length prompts ≤ most_prompts
  pub few_spreads : length spreads ≤ most_spreads
  pub nets_beyond : (j : ℕ) → length prompts ≤ j → get_or nets j (pos 0) ≡ pos 0
  pub prompts_sound : every sound_prompt (opens_with prompts nets) ≡ true
  pub spreads_sound : every sound_spread (map interprompt spreads) ≡ true

-- what a contract is charged, over the lent arrays of its book
pub record Charged (unit : ℕ) (prompts spreads : List Record) (first second : List ℕ) (used unused : List ℤ) (interprompt prompt : ℕ) : Type 0 where
  pub interprompt_is : interprompt ≡ interprompt_charge unit spreads (interleaved (spreads_from first) (spreads_from second))
  pub prompt_is : prompt ≡ prompt_charges unit prompts used unused
  pub interprompt_within : interprompt ≤ most_spreads * most_charge
  pub prompt_within : prompt ≤ most_prompts * most_charge

-- a contract's line
pub record LineOf (k : Contract) (l : Line) : Type 0 where
  pub contract_is : l.contract ≡ contract k.own
  pub unit_is : l.unit ≡ unit k.own
  pub active_is : l.active ≡ active_of k
  pub scanning_is : l.scanning.0 ≡ scanning_of k
  pub interprompt_is : l.interprompt.0 ≡ interprompt_of k
  pub prompt_is : l.prompt.0 ≡ prompt_of k
  pub minimum_is : l.minimum.0 ≡ minimum_of k
  pub price_is : l.twice_price ≡ twice_price_risk k.totals
  pub net_is : l.net.0 ≡ contract_net k
  pub within : LineWithin l
  pub unit_within : Between 1 l.unit most_unit
  pub price_within : l.twice_price ≤ 4 * most_risk
  pub net_within : nat_abs l.net.0 ≤ most_delta
