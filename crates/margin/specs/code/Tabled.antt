-- Figures that stand in lent memory before the credits are known, and what the intercontract table needs of the contracts beside them.
-- Assumes nothing.
use Rattle.std.specs.Prelude.{ℕ, ◌+◌, ◌*◌, ◌<◌, ◌≡◌, List, [], map, ℤ, pos, nat_abs, length, get_or, take, drop, set, replicate}
use Rattle.std.proofs.lemmas.List.Edits.{sets}
use Rattle.record.specs.Layout.{Record, contract, unit}
use Rattle.account.specs.Check.{most_contracts}
use Rattle.account.specs.Lawful.{Lawful}
use Rattle.account.specs.PartNumbers.{entry_part}
use Rattle.account.specs.Parts.{contracts_of}
use Rattle.account.specs.Records.{records}
use Rattle.account.specs.code.Standing.{PartOf}
use Rattle.spread.specs.Accepted.{prompt_places}
use Rattle.spread.specs.Steps.{steps}
use Rattle.spread.specs.code.Book.{by_place}
use Rattle.spread.specs.code.Lent.{spreads_from, prompts_in}
use Rattle.formulas.specs.declared.amount.Amount.{Amount}
use Rattle.formulas.specs.declared.line.Line.{Line}
use Rattle.formulas.specs.Bounds.{figures_each}
use Rattle.formulas.specs.Contract.{Contract, parts_in, active_of, scanning_of, interprompt_of, prompt_of, minimum_of, contract_net}
use Rattle.formulas.specs.Credit.{twice_price_risk}
use Rattle.formulas.specs.Deltas.{intercontract}
use Rattle.formulas.specs.code.Lines.{eight_of, no_line}
use Rattle.formulas.specs.code.Promised.{FormedOf}
use Rattle.formulas.specs.code.Table.{TiersFrom, EarnersOf, earner_at, tier_of}
use Rattle.margin.specs.code.Lined.{Lines, LinesOf}

-- the line of a contract, as the definitions have it
abbrev pub line_for : Contract → Line
line_for k =
    record {
      contract = contract k.own;
      unit = unit k.own;
      active = active_of k;
      scanning = record { 0 = scanning_of k };
      interprompt = record { 0 = interprompt_of k };
      prompt = record { 0 = prompt_of k };
      minimum = record { 0 = minimum_of k };
      twice_price = twice_price_risk k.totals;
      net = record { 0 = contract_net k };
    }

-- those of an account's contracts, in file order
abbrev pub lines_for : List Record → List Line
lines_for account = by_place most_contracts (λ i. line_for (parts_in account (get_or (contracts_of account) i [])))

abbrev pub all_for : List Record → Lines
all_for account = record { count = length (contracts_of account); line = lines_for account }

-- a line put in its places
pub record Placed (i : ℕ) (l : Line) (out : List ℤ) (tiers : List ℕ) (nets : List ℤ) (units prices sizes : List ℕ) (out' : List ℤ) (tiers' : List ℕ)
    (nets' : List ℤ) (units' prices' sizes' : List ℕ) : Type 0 where
  pub written : out' ≡ sets out (i * figures_each) (map pos (eight_of l 0))
  pub tier-put : tiers' ≡ set tiers i l.contract
  pub net_put : nets' ≡ set nets i l.net.0
  pub unit-put : units' ≡ set units l.contract l.unit
  pub price_put : prices' ≡ set prices l.contract l.twice_price
  pub size_put : sizes' ≡ set sizes l.contract (nat_abs l.net.0)

-- the line whose eight numbers stand from a place on, but for what its credit is worked out from
abbrev pub line_at : List ℤ → ℕ → Line
line_at out at =
    record {
      contract = nat_abs (get_or out at (pos 0));
      unit = 0;
      active = nat_abs (get_or out (at + 1) (pos 0));
      scanning = record { 0 = nat_abs (get_or out (at + 2) (pos 0)) };
      interprompt = record { 0 = nat_abs (get_or out (at + 3) (pos 0)) };
      prompt = record { 0 = nat_abs (get_or out (at + 4) (pos 0)) };
      minimum = record { 0 = nat_abs (get_or out (at + 6) (pos 0)) };
      twice_price = 0;
      net = record { 0 = pos 0 };
    }

-- those from the front
abbrev pub lines_at : List ℤ → List Line
lines_at out = by_place most_contracts (λ i. line_at out (i * figures_each))

-- what their contracts earned, by number
abbrev pub credits_at : List ℕ → List Line → List Amount
credits_at earned lines = by_place most_contracts (λ i. record { 0 = get_or earned (get_or lines i no_line).contract 0 })

-- a line and one that stands for it
pub record SameLine (a b : Line) : Type 0 where
  pub contract_is : a.contract ≡ b.contract
  pub active_is : a.active ≡ b.active
  pub scanning_is : a.scanning.0 ≡ b.scanning.0
  pub interprompt_is : a.interprompt.0 ≡ b.interprompt.0
  pub prompt_is : a.prompt.0 ≡ b.prompt.0
  pub minimum_is : a.minimum.0 ≡ b.minimum.0

-- the table's arrays before any line is put
pub record TableCleared (tiers : List ℕ) (nets : List ℤ) (units prices sizes : List ℕ) : Type 0 where
  pub tiers_places : length tiers ≡ prompt_places
  pub nets_places : length nets ≡ prompt_places
  pub units_clear : units ≡ replicate most_contracts 0
  pub prices_clear : prices ≡ replicate most_contracts 0
  pub sizes_clear : sizes ≡ replicate most_contracts 0

-- the account's lines stand from the front, and what the table needs of them in its arrays
pub record TabledIn (account : List Record) (out : List ℤ) (tiers : List ℕ) (nets : List ℤ) (units prices sizes : List ℕ) : Type 0 where
  pub lines : LinesOf account (all_for account)
  pub stand : (i : ℕ) → i < length (contracts_of account) → SameLine (line_at out (i * figures_each)) (get_or (lines_for account) i no_line)
  pub tiers_are : TiersFrom (length (contracts_of account)) (lines_for account) (prompts_in (length (contracts_of account)) tiers nets)
  pub tiers_places : length tiers ≡ prompt_places
  pub nets_places : length nets ≡ prompt_places
  pub earners : EarnersOf (length (contracts_of account)) (lines_for account) (earner_at units prices sizes)

-- and nothing else of the memory has changed but for the total behind them
pub record TabledOver (account : List Record) (out out' : List ℤ) (tiers' : List ℕ) (nets' : List ℤ) (units' prices' sizes' : List ℕ) : Type 0 where
  pub tabled : TabledIn account out' tiers' nets' units' prices' sizes'
  pub beyond : drop (length (contracts_of account) * figures_each + 1) out' ≡ drop (length (contracts_of account) * figures_each + 1) out

-- an account with these lines, these intercontract spreads, and the numbers that they formed
pub record CreditedIn (whole : List Record) (count : ℕ) (entries units prices sizes first second : List ℕ) (out : List ℤ) : Type 0 where
  pub lawful : Lawful whole
  pub count_is : count ≡ length (contracts_of whole)
  pub part : PartOf whole entry_part entries
  pub lines : LinesOf whole (all_for whole)
  pub stand : (i : ℕ) → i < length (contracts_of whole) → SameLine (line_at out (i * figures_each)) (get_or (lines_for whole) i no_line)
  pub earners : EarnersOf (length (contracts_of whole)) (lines_for whole) (earner_at units prices sizes)
  pub formed : FormedOf (steps (map intercontract (records entries))) (map tier_of (take (length (contracts_of whole)) (lines_for whole))) (spreads_from first)
      (spreads_from second)

-- there is one
pub record CreditedKnown (count : ℕ) (entries units prices sizes first second : List ℕ) (out : List ℤ) : Type 0 where
  pub whole : List Record
  pub is : CreditedIn whole count entries units prices sizes first second out
