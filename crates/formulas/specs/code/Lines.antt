-- The lines of the figures, as the code holds them: a contract's numbers with its credit beside them.
-- Assumes nothing.
use Rattle.std.specs.Prelude.{ℕ, ◌+◌, ◌*◌, ◌≤◌, List, [], ◌∷◌, ◌++◌, pos}
use Rattle.record.specs.Layout.{scenario_count, most_contract}
use Rattle.formulas.specs.declared.amount.Amount.{Amount}
use Rattle.formulas.specs.declared.line.Line.{Line}
use Rattle.formulas.specs.Bounds.{most_risk, most_lots, most_rate}
use Rattle.formulas.specs.Margin.{risk, margin}

-- the margin of a line, given its credit
abbrev pub margin_with : Line → ℕ → ℕ
margin_with l credit = margin l.minimum.0 (risk l.scanning.0 l.interprompt.0 l.prompt.0 credit)

-- "(contract, active scenario, scanning risk, interprompt charge, prompt charge, credit, short option minimum, margin)"
abbrev pub eight_of : Line → ℕ → List ℕ
eight_of l credit =
    l.contract
    ∷ l.active
    ∷ l.scanning.0
    ∷ l.interprompt.0
    ∷ l.prompt.0
    ∷ credit
    ∷ l.minimum.0
    ∷ margin_with l credit
    ∷ []

abbrev pub eights_from : List Line → List Amount → List ℕ
eights_from [] credits = []
eights_from (l ∷ ls) [] = []
eights_from (l ∷ ls) (c ∷ credits) = eight_of l c.0 ++ eights_from ls credits

abbrev pub total_from : List Line → List Amount → ℕ
total_from [] credits = 0
total_from (l ∷ ls) [] = 0
total_from (l ∷ ls) (c ∷ credits) = margin_with l c.0 + total_from ls credits

-- ".. then the total"
abbrev pub figures_from : List Line → List Amount → List ℕ
figures_from ls credits = eights_from ls credits ++ (total_from ls credits ∷ [])

-- lines of an accepted account
pub record LineWithin (l : Line) : Type 0 where
  pub contract_within : l.contract ≤ most_contract
  pub active_within : l.active ≤ scenario_count
  pub scanning_within : l.scanning.0 ≤ most_risk
  pub interprompt_within : l.interprompt.0 ≤ most_risk
  pub prompt_within : l.prompt.0 ≤ most_risk
  pub minimum_within : l.minimum.0 ≤ most_lots * most_rate

abbrev pub no_line : Line
no_line =
    record {
      contract = 0;
      unit = 0;
      active = 0;
      scanning = record { 0 = 0 };
      interprompt = record { 0 = 0 };
      prompt = record { 0 = 0 };
      minimum = record { 0 = 0 };
      twice_price = 0;
      net = record { 0 = pos 0 };
    }
