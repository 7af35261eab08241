-- The check as a whole: document 01's 1 to 9 of the records, then the rates. 2026-05: "after all records and before 11, for rows in file
-- order, 14 for a row whose currency has no rate, else 15 for one with a rounded conversion beyond ±100,000,000,000,000".
-- Assumes nothing.
use Rattle.std.specs.Prelude.{ℕ, ◌+◌, not, ◌&&◌, cond, List, [], ◌∷◌, eqb, Ok}
use Rattle.record.specs.Layout.{Record}
use Rattle.account.specs.Answers.{number_of}
use Rattle.account.specs.Check.{Refusal, ◌when◌, first_of, or_else, records_checked}
use Rattle.account.specs.Parts.{of_kind, rates_of}
use Rattle.account.specs.Products.{has_rate, conversion_beyond}
use Rattle.account.specs.Records.{records}
use Rattle.account.specs.Answers.{Answer}

abbrev pub rate_refusals : List Record → Record → List Refusal
rate_refusals rates r =
    14 when (of_kind 3 r && not (has_rate rates r)) ∷ 15 when (of_kind 3 r && conversion_beyond rates r) ∷ []

abbrev pub rate_fault_of : List Record → Record → ℕ
rate_fault_of rates r = first_of (rate_refusals rates r)

-- from record k on
abbrev pub first_rate_fault : ℕ → List Record → List Record → Answer
first_rate_fault k rates [] = Ok tt
first_rate_fault k rates (r ∷ later) = or_else (rate_fault_of rates r) k (first_rate_fault (k + 1) rates later)

-- of the records of an account, by its own rates
abbrev pub rates_checked : List Record → Answer
rates_checked account = first_rate_fault 0 (rates_of account) account

-- of a file
abbrev pub checked : List ℕ → Answer
checked file =
    cond (eqb (number_of (records_checked file)) 0) (rates_checked (records file)) (records_checked file)
