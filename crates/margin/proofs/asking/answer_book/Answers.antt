-- A question's book: too few numbers lent, or written at the front.
-- Assumes nothing.
use Rattle.std.specs.Prelude.{ℕ, Err}
use mathlib.Core.Path.{◌≡◌, refl, sym, ap, ◌∙◌}
use mathlib.Core.List.{List}
use Prim.Native.Nat.{ℕ, ◌+◌, ◌*◌, ◌≤◌}
use native.Mathlib.Omega.{arith}
use borrow.Author.Rules.{rules}
use lib.ListN.{length}
use lib.Seq.{sets}
use Rattle.record.specs.Layout.{Record}
use Rattle.account.specs.declared.answers.Refusal.TheVariants.{TooFewNumbers}
use Rattle.margin.specs.Books.{book}
use Rattle.margin.specs.code.Asked.{AskedBy}
use Rattle.margin.specs.declared.asking.Question.TheVariants.{Book}
use Rattle.margin.proofs.AnswerLaws.{book_same, book_many}
use Rattle.margin.proofs.NumberLaws.{sets_front}
use Rattle.margin.proofs.QuestionLaws.{asked_few, asked_many, refused_with, accepted_with}
use Rattle.margin.proofs.asking.answer_book.Goals as goal
use Rattle.margin.proofs.asking.answer_book.Goals.{Start}

-- as many numbers as are counted
many : (s : Start) (whole : List Record) (question : ℕ) → AskedBy whole question s.args.records s.args.asking
    → length (book whole question) ≡ 3 * s.args.asking.prompts.count + 2 * s.args.asking.table.count + 1
many s whole question h =
    let p = s.args.asking.prompts in
    let t = s.args.asking.table in
    book_many whole question s.args.records s.args.asking h
    (search rules)
    (search rules)
    (search rules)

pub returns-then-out-book_count : goal.returns-then-out-book_count
returns-then-out-book_count c =
    let out = c.args.out.now in
    λ whole question h.
    refused_with (Err (TooFewNumbers c.args.records)) _ (book whole question) out
    (asked_few whole (Book question) (length out) h.asked_is
    (omega (arith, many (goal.at.returns-then-out-book_count c).Start whole question h, c.book_count.ensures, c.if-out-book_count.true))
    ∙ ap (λ (n : ℕ). Err (TooFewNumbers n)) (sym h.records_are)) (λ e. omega arith)

pub returns : goal.returns
returns c =
    let out = c.args.out.now in
    λ whole question h.
    let enough : length (book whole question) ≤ length out =
    omega (
      arith,
      many (goal.at.returns c).Start whole question h,
      c.book_count.ensures,
      c.if-out-book_count.false,
    )
    in
    accepted_with _ (book whole question) out c.put_asked.new.out (length (book whole question))
    (asked_many whole (Book question) (length out) h.asked_is enough) refl
    (c.put_asked.ensures ∙ ap (sets out 0) (book_same whole question c.args.records c.args.asking h)
    ∙ sets_front (book whole question) out enough)
