-- The accounts of examples/apart-long.csv, apart-short.csv and together.csv: they are such as the two statements speak of, and they show
-- what the second does not say. It speaks of the scanning risk, and the margin of both can be more than the sum of the two.
-- Assumes nothing.
use Rattle.std.specs.Prelude.{ℕ, ◌≡◌, List, [], ◌∷◌, ◌++◌, map, ℤ, pos, negsuc, Ok}
use Rattle.record.specs.Layout.{Record}
use Rattle.account.specs.Checked.{checked}
use Rattle.account.specs.Records.{records}
use Rattle.margin.specs.Entered.{contract_record, prompt_record, row_record, spread_record}
use Rattle.margin.specs.Figures.{figures}
use Rattle.statements.specs.Statements.{SameButOrder, RowsOfBoth}

-- the losses of both rows, in ticks per lot
abbrev pub losses : List ℤ
losses =
    pos 0
    ∷ pos 0
    ∷ negsuc 19
    ∷ negsuc 19
    ∷ pos 20
    ∷ pos 20
    ∷ negsuc 39
    ∷ negsuc 39
    ∷ pos 40
    ∷ pos 40
    ∷ negsuc 59
    ∷ negsuc 59
    ∷ pos 60
    ∷ pos 60
    ∷ negsuc 41
    ∷ pos 42
    ∷ []

-- ten lots long on the first date, ten lots short on the second
abbrev pub long_row : Record
long_row = row_record 1 0 20260318 0 (pos 10) (pos 10000) 25 losses

abbrev pub short_row : Record
short_row = row_record 1 0 20260617 0 (negsuc 9) (pos 10000) 25 losses

-- one contract with two prompts and a spread between them at 35.00, and these rows
abbrev pub file_of : List ℕ → List ℕ
file_of rows =
    contract_record 1 0 0 ++ prompt_record 1 1 20260318 0 0 ++ prompt_record 1 2 20260617 0 0 ++ rows ++ spread_record 1 3500 1 1 2 1

-- what the two statements ask for is met by accepted accounts: the rows of both, and these in the other order
pub record CanBeMet : Type 0 where
  pub long_accepted : checked (file_of long_row) ≡ Ok tt
  pub short_accepted : checked (file_of short_row) ≡ Ok tt
  pub both_accepted : checked (file_of (long_row ++ short_row)) ≡ Ok tt
  pub turned_accepted : checked (file_of (short_row ++ long_row)) ≡ Ok tt
  pub rows_of_both : RowsOfBoth (records (file_of long_row)) (records (file_of short_row)) (records (file_of (long_row ++ short_row)))
  pub same_but_order : SameButOrder (records (file_of (long_row ++ short_row))) (records (file_of (short_row ++ long_row)))

-- scanning risks of 150.00 each and none together, but ten spreads charged: margins of 150.00 each and 350.00 together
pub record NotTheMargin : Type 0 where
  pub long : figures (records (file_of long_row)) ≡ map pos (1 ∷ 13 ∷ 15000 ∷ 0 ∷ 0 ∷ 0 ∷ 0 ∷ 15000 ∷ 15000 ∷ [])
  pub short : figures (records (file_of short_row)) ≡ map pos (1 ∷ 11 ∷ 15000 ∷ 0 ∷ 0 ∷ 0 ∷ 0 ∷ 15000 ∷ 15000 ∷ [])
  pub both : figures (records (file_of (long_row ++ short_row))) ≡ map pos (1 ∷ 1 ∷ 0 ∷ 35000 ∷ 0 ∷ 0 ∷ 0 ∷ 35000 ∷ 35000 ∷ [])
