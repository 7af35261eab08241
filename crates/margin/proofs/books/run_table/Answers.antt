-- The numbers of the book that the steps run are those of the table.
-- Assumes nothing.
use native.Mathlib.Omega.{arith}
use Rattle.margin.proofs.books.run_table.Goals as goal

pub put_table-requires : goal.put_table-requires
put_table-requires c =
    (c.requires.0, (c.requires.1.0, (omega (arith, c.requires.1.1), c.put_book.ensures)))

pub returns : goal.returns
returns c = c.put_table.ensures
