-- What is said of the accounts of the examples, computed from the definitions.
-- Assumes nothing.
use Rattle.std.specs.Prelude.{Ok}
use mathlib.Core.Path.{◌≡◌, refl}
use mathlib.Core.Bool.{Bool, true, false}
use mathlib.Core.List.Permᴰ
use mathlib.Core.List.{[], ◌∷◌, ◌++◌, map}
use lib.Dec.{eqb}
use lib.IntN.{pos}
use Rattle.exact.specs.Lists.{cons_if}
use Rattle.account.specs.Checked.{checked}
use Rattle.account.specs.Records.{records}
use Rattle.margin.specs.Figures.{figures}
use Rattle.statements.specs.Statements.{Rearranged, SameButOrder, RowsOfBoth}
use Rattle.statements.specs.Apart.{long_row, short_row, file_of, CanBeMet, NotTheMargin}

both_rows : (t : Bool) → Rearranged (cons_if t long_row (cons_if t short_row [])) (cons_if t long_row [] ++ cons_if t short_row [])
both_rows true = Permᴰ.cons refl (Permᴰ.cons refl Permᴰ.nil)
both_rows false = Permᴰ.nil

rows_of_both_lem : RowsOfBoth (records (file_of long_row)) (records (file_of short_row)) (records (file_of (long_row ++ short_row)))
rows_of_both_lem = record { first = refl; second = refl; rows = λ c. both_rows (eqb 1 c) }

turned : (t : Bool) → Rearranged (cons_if t long_row (cons_if t short_row [])) (cons_if t short_row (cons_if t long_row []))
turned true = Permᴰ.swap refl refl
turned false = Permᴰ.nil

same_but_order_lem : SameButOrder (records (file_of (long_row ++ short_row))) (records (file_of (short_row ++ long_row)))
same_but_order_lem = record { others = refl; rows = λ c. turned (eqb 1 c) }

long_accepted : checked (file_of long_row) ≡ Ok tt
long_accepted = refl

short_accepted : checked (file_of short_row) ≡ Ok tt
short_accepted = refl

both_accepted : checked (file_of (long_row ++ short_row)) ≡ Ok tt
both_accepted = refl

turned_accepted : checked (file_of (short_row ++ long_row)) ≡ Ok tt
turned_accepted = refl

pub can_be_met_lem : CanBeMet
can_be_met_lem =
    record {
      long_accepted = long_accepted;
      short_accepted = short_accepted;
      both_accepted = both_accepted;
      turned_accepted = turned_accepted;
      rows_of_both = rows_of_both_lem;
      same_but_order = same_but_order_lem;
    }

long_alone : figures (records (file_of long_row)) ≡ map pos (1 ∷ 13 ∷ 15000 ∷ 0 ∷ 0 ∷ 0 ∷ 0 ∷ 15000 ∷ 15000 ∷ [])
long_alone = refl

short_alone : figures (records (file_of short_row)) ≡ map pos (1 ∷ 11 ∷ 15000 ∷ 0 ∷ 0 ∷ 0 ∷ 0 ∷ 15000 ∷ 15000 ∷ [])
short_alone = refl

both_together : figures (records (file_of (long_row ++ short_row))) ≡ map pos (1 ∷ 1 ∷ 0 ∷ 35000 ∷ 0 ∷ 0 ∷ 0 ∷ 35000 ∷ 35000 ∷ [])
both_together = refl

pub not_the_margin_lem : NotTheMargin
not_the_margin_lem = record { long = long_alone; short = short_alone; both = both_together }
