-- Beside the reckoned examples, where the paper's words turn: what counts as short, a half of a credit, the call at its two
-- thresholds. One claim.
-- Assumes nothing.
use Rattle.std.specs.Prelude.{◌≡◌, [], ◌∷◌, pos, negsuc, replicate}
use Rattle.formulas.specs.Contract.{Contract, contract_from, minimum_of}
use Rattle.formulas.specs.Credit.{credit}
use Rattle.margin.specs.Entered.{contract_record, prompt_record, row_record}
use Rattle.questions.specs.Noon.{cover_call}

-- rate 500; two calls long, three short, a put short, four forwards short
abbrev pub mixed : Contract
mixed =
    contract_from [] (contract_record 0 500 0) (prompt_record 0 1 1 0 0 ∷ [])
    (row_record 0 1 1 1850 (pos 2) (pos 5200) 1 (replicate 16 (pos 0))
    ∷ row_record 0 1 1 1850 (negsuc 2) (pos 5200) 1 (replicate 16 (pos 0))
    ∷ row_record 0 2 1 1850 (negsuc 0) (negsuc 4799) 1 (replicate 16 (pos 0))
    ∷ row_record 0 0 1 0 (negsuc 3) (pos 9800) 1 (replicate 16 (pos 0))
    ∷ []) []

pub record Turns : Type 0 where
  -- "short lots of calls and puts × rate"
  pub short-lots : minimum_of mixed ≡ 2000
  -- "rounded once, halves up": 8.5 hundredths
  pub half_credit : credit 1 17 1000 100 1000 ≡ 9
  -- "none unless the requirement exceeds the last cover call plus the threshold and also the revalued collateral; otherwise
  -- requirement minus collateral"
  pub at_the_threshold : cover_call 100 60 40 0 ≡ 0
  pub above_the_threshold : cover_call 101 60 40 0 ≡ 101
  pub covered : cover_call 101 60 40 101 ≡ 0
  pub uncovered : cover_call 101 60 40 100 ≡ 1
