-- The spread steps accept a contract's prompts and spreads, their book is the contract's, and so is what they touch.
-- Assumes nothing.
use mathlib.Core.Path.{sym, ◌∙◌}
use mathlib.Core.Bool.{true≢false}
use Prim.Native.Nat.{zero-le}
use native.Mathlib.Omega.{arith}
use borrow.Author.Rules.{rules}
use Rattle.account.specs.Records.{records}
use Rattle.formulas.specs.Deltas.{opens_with}
use Rattle.formulas.proofs.BookLaws.{lent_sound, lent_book, lent_touches}
use Rattle.formulas.proofs.RecordLaws.{count_is}
use Rattle.formulas.proofs.UnspreadLaws.{unspread, untouched}
use Rattle.formulas.proofs.books.put_contract_book.Goals as goal

pub returns-then-spreads-lt-RECORD_BYTES : goal.returns-then-spreads-lt-RECORD_BYTES
returns-then-spreads-lt-RECORD_BYTES c =
    let prompts = records c.args.prompts.now in
    let spreads = c.args.spreads.now in
    let nets = c.args.nets.now in record {
      book = unspread prompts spreads nets c.args.first.now c.args.second.now c.args.used.now _ c.if-spreads-lt-RECORD_BYTES.true
          (search rules) c.requires.0.nets_beyond c.requires.1.0.0 c.requires.1.0.1
          c.requires.1.1.0 c.put_unused.ensures;
      touched = λ asked. (untouched spreads (opens_with prompts nets) c.if-spreads-lt-RECORD_BYTES.true, zero-le);
    }

pub put_tiers-requires : goal.put_tiers-requires
put_tiers-requires c =
    (search rules, omega (arith, c.requires.0.few_prompts, count_is c.args.prompts.now))

pub interprompt_table-table-requires : goal.interprompt_table-table-requires
interprompt_table-table-requires c =
    omega (arith, c.requires.0.few_spreads, count_is c.args.spreads.now)

pub put_counted-requires : goal.put_counted-requires
put_counted-requires c =
    let table = c.interprompt_table-table in (
      lent_sound c.args.prompts.now c.args.spreads.now _ c.args.nets.now table.result c.put_tiers.ensures
          table.ensures c.requires.0,
      c.requires.1,
    )

pub returns-then-counted : goal.returns-then-counted
returns-then-counted c =
    let prompts = c.args.prompts.now in
    let spreads = c.args.spreads.now in
    let nets = c.args.nets.now in
    let table = c.interprompt_table-table in
    let tiers = c.put_tiers.ensures in record { book = lent_book prompts spreads _ nets table.result tiers table.ensures c.requires.0 _ c.put_counted.ensures.book; touched = λ asked. lent_touches prompts spreads _ nets table.result tiers table.ensures c.requires.0 c.put_counted.result c.put_counted.ensures.touched }

pub put_book-requires : goal.put_book-requires
put_book-requires c =
    let table = c.interprompt_table-table in (
      lent_sound c.args.prompts.now c.args.spreads.now _ c.args.nets.now table.result c.put_tiers.ensures
          table.ensures c.requires.0,
      c.requires.1,
    )

pub returns-else-counted : goal.returns-else-counted
returns-else-counted c =
    let table = c.interprompt_table-table in record {
      book = lent_book c.args.prompts.now c.args.spreads.now _ c.args.nets.now table.result c.put_tiers.ensures
          table.ensures c.requires.0 _ c.put_book.ensures;
      touched = λ asked. absurd (true≢false (sym asked ∙ c.if-counted.false));
    }
