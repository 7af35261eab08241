-- A contract's line, its book and its uses, by one run of its steps.
-- Assumes nothing.
use mathlib.Core.Path.{◌≡◌, refl, sym, ap, ◌∙◌, subst}
use mathlib.Core.List.{List}
use lib.IntN.{ℤ}
use lib.ListN.{length}
use Rattle.account.specs.Records.{records}
use Rattle.spread.specs.Accepted.{prompt_places}
use Rattle.formulas.specs.code.Promised.{BookRoom}
use Rattle.formulas.proofs.ContractLaws.{book-room}
use Rattle.spread.proofs.Lent.{deltas_again}
use Rattle.margin.proofs.BesideLaws.{book_is}
use borrow.Author.Tests.{le-leb}
use Rattle.margin.proofs.everything.contract_in.Goals as goal
use Rattle.margin.proofs.everything.contract_in.Goals.{Start}

-- the spread steps accept its prompts and spreads
room : (s : Start) → BookRoom (records s.args.prompts.now) s.args.nets.now (records s.args.spreads.now)
room s =
    let w = s.requires.1 in
    let prompts = records s.args.prompts.now in
    let spreads = records s.args.spreads.now in
    subst (λ (zs : List ℤ). BookRoom prompts zs spreads) (deltas_again s.args.nets.now)
    (book-room w.rates s.args.own.now prompts w.rows spreads w.fit _ w.is w.most)

nets-long : (s : Start) → length s.args.nets.now ≡ prompt_places
nets-long s = ap length (sym (deltas_again s.args.nets.now)) ∙ s.requires.1.is.places

pub put_contract_book-touched-requires : goal.put_contract_book-touched-requires
put_contract_book-touched-requires c =
    (room (goal.at.put_contract_book-touched-requires c).Start, ((refl, refl), (refl, refl)))

pub lend_book-requires : goal.lend_book-requires
lend_book-requires c =
    let book = c.put_contract_book-touched.ensures in
    (c.requires.0, (nets-long (goal.at.lend_book-requires c).Start, (room (goal.at.lend_book-requires c).Start, (book.book, λ enough. book.touched (le-leb _ _ enough)))))

pub line_in-requires : goal.line_in-requires
line_in-requires c =
    (c.requires.1, c.put_contract_book-touched.ensures.book)

pub returns : goal.returns
returns c =
    record {
      line = c.line_in.ensures;
      lent = λ whole h. (
        c.lend_book.ensures whole
            (book_is whole c.args.count c.args.c (records c.args.prompts.now) (records c.args.spreads.now) c.args.totals.now
            c.args.nets.now c.args.shorts c.requires.0 h),
        c.lend_uses.ensures whole h,
      );
    }
