-- 14 and 15 of one row.
-- Assumes nothing.
use Rattle.std.specs.Prelude.{ℕ, ◌≡◌, Bool, not, ◌&&◌, List, eqb, Ok}
use Rattle.record.specs.Layout.{Record, kind, currency}
use Rattle.record.specs.Within.{RowWithin}
use Rattle.account.specs.Check.{or_else}
use Rattle.account.specs.Checked.{rate_fault_of}
use Rattle.account.specs.Parts.{of_kind}
use Rattle.account.specs.Answers.{Answer}

-- a row in another currency than the margin's
abbrev pub in_another : Record → Bool
in_another r = not (eqb (currency r) 0)

-- a record that is such a row
abbrev pub other_row : Record → Bool
other_row r = in_another r && of_kind 3 r

-- of the row that is record k
abbrev pub row_answer : List Record → ℕ → Record → Answer
row_answer rates k r = or_else (rate_fault_of rates r) k (Ok tt)

-- a row with its fields within their ranges
pub record Row (r : Record) : Type 0 where
  pub is_row : kind r ≡ 3
  pub within : RowWithin r
