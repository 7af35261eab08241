-- The table's place is written where all places are lent, and else none is.
-- Assumes nothing.
use mathlib.Core.Path.{◌∙◌}
use Prim.Native.Nat.{◌*◌, ◌+◌, ◌≤◌}
use native.Mathlib.Nat.{le_trans}
use native.Mathlib.Omega.{arith}
use lib.ListN.{length, length-map}
use Rattle.spread.specs.Accepted.{open_of, steps_of}
use Rattle.spread.specs.code.Lent.{prompts_in}
use Rattle.spread.specs.declared.Prompts.{Prompts}
use Rattle.formulas.specs.Bounds.{longest_book}
use Rattle.margin.specs.Books.{book_by, table_question}
use Rattle.margin.specs.Questions.{after_over}
use Rattle.margin.specs.declared.asking.Question.TheVariants.{Book}
use Rattle.margin.proofs.AnswerLaws.{book_long, run_long, book-after}
use Rattle.margin.proofs.LentLaws.{lent_few, lent_enough}
use Rattle.margin.proofs.PlaceLaws.{put-place}
use borrow.Author.Rules.{rules}
use Rattle.margin.proofs.everything.lend_table_book.Goals as goal
use Rattle.margin.proofs.everything.lend_table_book.Goals.{Start}

abbrev prompts : Start → Prompts
prompts s = prompts_in s.args.count s.args.tiers.now s.args.nets.now

-- as many numbers as there is room for
room : (s : Start) → 3 * s.args.count + 2 * s.args.table.count + 1 ≤ longest_book
room s =
    run_long (prompts s) s.args.table s.requires.1.0.0 (length-map s.args.nets.now _ ∙ s.requires.1.0.1)
    (search rules) s.requires.0

few : (s : Start) → length (book_by (steps_of s.args.table) (open_of (prompts s))) ≤ longest_book
few s =
    let long = book_long (prompts s) s.args.table s.requires.1.0.0 (length-map s.args.nets.now _ ∙ s.requires.1.0.1)
    (search rules) s.requires.0 in
    omega (arith, long, room s)

pub returns-then-out-lt-ALL_BOOKS : goal.returns-then-out-lt-ALL_BOOKS
returns-then-out-lt-ALL_BOOKS c =
    let o = c.args.out.now in
    λ whole is. lent_few longest_book table_question (after_over whole (Book table_question)) o (omega (arith, c.if-out-lt-ALL_BOOKS.true))

pub put_table-requires : goal.put_table-requires
put_table-requires c =
    (c.requires.0, (c.requires.1.0, (le_trans (room (goal.at.put_table-requires c).Start) (search rules), c.requires.1.1)))

pub returns : goal.returns
returns c =
    let o = c.args.out.now in
    let r = c.put_table in
    λ whole is.
    let after = after_over whole (Book table_question) in
    lent_enough longest_book table_question after o _ (omega (arith, c.if-out-lt-ALL_BOOKS.false))
    (put-place longest_book (longest_book * table_question) o r.new.out after
    (book-after whole table_question (steps_of c.args.table) (open_of (prompts (goal.at.returns c).Start)) _ r.new.out is (le_trans (few (goal.at.returns c).Start) (search rules)) r.ensures))
