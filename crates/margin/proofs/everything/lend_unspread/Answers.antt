-- The table's place is written where all places are lent, and else none is.
-- Assumes nothing.
use mathlib.Core.Path.{sym, ap, ◌∙◌}
use mathlib.Core.List.{[], map}
use Prim.Native.Nat.{◌*◌, ◌≤◌}
use native.Mathlib.Nat.{le_trans}
use native.Mathlib.Omega.{arith}
use lib.ListN.{length, length-map}
use lib.Seq.{length-take-le}
use Rattle.formulas.specs.Bounds.{longest_book}
use Rattle.formulas.specs.Contract.{contracts, as_tier}
use Rattle.margin.specs.Books.{book_by, table_question}
use Rattle.margin.specs.Questions.{after_over}
use Rattle.margin.specs.declared.asking.Question.TheVariants.{Book}
use Rattle.margin.proofs.AccountLaws.{unspread_book}
use Rattle.margin.proofs.AnswerLaws.{by_length, book-after}
use Rattle.margin.proofs.LentLaws.{lent_few, lent_enough}
use Rattle.margin.proofs.PlaceLaws.{put-place}
use borrow.Author.Rules.{rules}
use Rattle.margin.proofs.everything.lend_unspread.Goals as goal

pub returns-then-out-lt-ALL_BOOKS : goal.returns-then-out-lt-ALL_BOOKS
returns-then-out-lt-ALL_BOOKS c =
    let o = c.args.out.now in
    λ whole h. lent_few longest_book table_question (after_over whole (Book table_question)) o (omega (arith, c.if-out-lt-ALL_BOOKS.true))

pub returns : goal.returns
returns c =
    let o = c.args.out.now in
    let n = c.args.count in
    let r = c.put_unspread in
    λ whole h.
    let ps = map as_tier (contracts whole) in
    let after = after_over whole (Book table_question) in
    let many = sym (ap length h.nets_are ∙ length-map ps (λ p. p.unused)) in
    let few : length (book_by [] ps) ≤ longest_book =
    omega (arith, c.requires.0, by_length [] ps, many, length-take-le n c.args.nets.now (omega (arith, c.requires.0, c.requires.1))) in
    lent_enough longest_book table_question after o _ (omega (arith, c.if-out-lt-ALL_BOOKS.false))
    (put-place longest_book (longest_book * table_question) o r.new.out after
    (book-after whole table_question [] ps _ r.new.out (unspread_book whole h.lawful h.none) (le_trans few (search rules))
    (r.ensures ps h.nets_are)))
