-- A contract's book is written to its place where all places are lent, and else none is.
-- Assumes nothing.
use Prim.Native.Nat.{◌+◌, ◌*◌, ◌≤◌}
use mathlib.Core.List.{map}
use native.Mathlib.Nat.{le_trans}
use native.Mathlib.Omega.{arith}
use Rattle.account.specs.Records.{records, record_count}
use Rattle.spread.specs.Steps.{steps}
use Rattle.formulas.specs.Bounds.{longest_book}
use Rattle.formulas.specs.Deltas.{opens_with, interprompt}
use Rattle.formulas.proofs.RecordLaws.{count_is}
use Rattle.margin.specs.Questions.{after_over}
use Rattle.margin.specs.declared.asking.Question.TheVariants.{Book}
use Rattle.margin.proofs.AnswerLaws.{contract_long, book-after}
use Rattle.margin.proofs.LentLaws.{lent_few, lent_enough}
use Rattle.margin.proofs.PlaceLaws.{put-place}
use borrow.Author.Rules.{rules}
use Rattle.margin.proofs.everything.lend_book.Goals as goal

pub returns-then-out-lt-ALL_BOOKS : goal.returns-then-out-lt-ALL_BOOKS
returns-then-out-lt-ALL_BOOKS c =
    λ whole h. lent_few longest_book c.args.c (after_over whole (Book c.args.c)) c.args.out.now (omega (arith, c.if-out-lt-ALL_BOOKS.true))

pub put_contract-requires : goal.put_contract-requires
put_contract-requires c =
    let prompts = c.args.prompts.now in
    let spreads = c.args.spreads.now in
    let room = c.requires.1.1.0 in
    let few : 3 * record_count prompts + 2 * record_count spreads + 1 ≤ longest_book =
    omega (arith, room.few_prompts, room.few_spreads, count_is prompts, count_is spreads) in
    (le_trans few (search rules), (c.requires.1.0, (room, (c.requires.1.1.1.0, c.requires.1.1.1.1 (omega (arith, c.if-out-lt-ALL_BOOKS.false))))))

pub returns : goal.returns
returns c =
    let o = c.args.out.now in
    let k = c.args.c in
    let prompts = c.args.prompts.now in
    let spreads = c.args.spreads.now in
    let nets = c.args.nets.now in
    let r = c.put_contract in
    λ whole h.
    let after = after_over whole (Book k) in
    lent_enough longest_book k after o _ (omega (arith, c.if-out-lt-ALL_BOOKS.false))
    (put-place longest_book (longest_book * k) o r.new.out after
    (book-after whole k (steps (map interprompt (records spreads))) (opens_with (records prompts) nets) _ r.new.out h
    (le_trans (contract_long prompts spreads nets c.requires.1.0 c.requires.1.1.0) (search rules)) r.ensures))
