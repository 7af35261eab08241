-- "Figures: for each contract in file order eight numbers (contract, active scenario, scanning risk, interprompt
-- charge, prompt charge, credit, short option minimum, margin), then the total."
-- Assumes nothing.
use Rattle.std.specs.Prelude.{ℕ, List, [], ◌∷◌, ◌++◌, map, ℤ, pos}
use Rattle.exact.specs.Lists.{sum}
use Rattle.record.specs.Layout.{Record, contract}
use Rattle.account.specs.Parts.{entries_of}
use Rattle.spread.specs.Steps.{Open}
use Rattle.formulas.specs.Contract.{Contract, contracts, as_tier, active_of, scanning_of, interprompt_of, prompt_of, credit_of, minimum_of, margin_of}

abbrev pub eight : List Record → List Open → Contract → List ℕ
eight entries table k =
    contract k.own
    ∷ active_of k
    ∷ scanning_of k
    ∷ interprompt_of k
    ∷ prompt_of k
    ∷ credit_of entries table k
    ∷ minimum_of k
    ∷ margin_of entries table k
    ∷ []

abbrev pub eights : List Record → List Open → List Contract → List ℕ
eights entries table [] = []
eights entries table (k ∷ ks) = eight entries table k ++ eights entries table ks

-- "The total is the sum of the margins."
abbrev pub total_margin : List Record → List Open → List Contract → ℕ
total_margin entries table ks = sum (map (margin_of entries table) ks)

abbrev pub figures_over : List Record → List Contract → List ℕ
figures_over entries ks =
    eights entries (map as_tier ks) ks ++ (total_margin entries (map as_tier ks) ks ∷ [])

abbrev pub figures : List Record → List ℤ
figures account = map pos (figures_over (entries_of account) (contracts account))

-- "then the total": of the whole account
abbrev pub account_total : List Record → ℕ
account_total account = total_margin (entries_of account) (map as_tier (contracts account)) (contracts account)
