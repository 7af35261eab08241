-- Without spreads nothing is used and no prompt touched; else the numbers of the book that was run.
-- Assumes nothing.
use mathlib.Core.List.{List, [], map}
use mathlib.Core.Path.{◌≡◌, refl, sym, ap, ◌∙◌}
use Prim.Native.Nat.{ℕ, ◌/◌}
use native.Mathlib.Omega.{arith}
use lib.ListN.{length}
use lib.Seq.{sets}
use Rattle.record.specs.Bytes.{record_bytes}
use Rattle.account.specs.Records.{cut, records}
use Rattle.spread.specs.Steps.{Taker, steps}
use Rattle.formulas.specs.Deltas.{opens_with, interprompt}
use Rattle.formulas.proofs.RecordLaws.{count_is}
use Rattle.margin.specs.Books.{book_by}
use Rattle.margin.proofs.AnswerLaws.{contract_nets}
use Rattle.margin.proofs.books.run_contract.Goals as goal

pub put_unspread-requires : goal.put_unspread-requires
put_unspread-requires c =
    let few = c.requires.1.1.few_prompts in
    let n = count_is c.args.prompts.now in
    (omega (arith, few, n), (omega (arith, few, n, c.requires.1.0), omega (arith, c.requires.0)))

pub returns-then-spreads-lt-RECORD_BYTES : goal.returns-then-spreads-lt-RECORD_BYTES
returns-then-spreads-lt-RECORD_BYTES c =
    let prompts = c.args.prompts.now in
    let spreads = c.args.spreads.now in
    let nets = c.args.nets.now in
    let os = opens_with (records prompts) nets in
    let no-records : length spreads / record_bytes ≡ 0 = omega (arith, c.if-spreads-lt-RECORD_BYTES.true) in
    let none : steps (map interprompt (records spreads)) ≡ [] = ap (λ (n : ℕ). steps (map interprompt (cut n spreads))) no-records in
    c.put_unspread.ensures os (contract_nets prompts spreads nets c.requires.1.0 c.requires.1.1)
    ∙ ap (λ (ss : List (List Taker)). sets c.args.out.now 0 (book_by ss os)) (sym none)

pub put_contract-requires : goal.put_contract-requires
put_contract-requires c =
    let book = c.put_contract_book-touched.ensures in
    (c.requires.0, (c.requires.1.0, (c.requires.1.1, (book.book, book.touched refl))))
