-- `book_of_accepted`: the book of the prompts' plain numbers, taken back into the struct.
-- Assumes nothing.
use mathlib.Core.Bool.{true}
use mathlib.Core.Path.{◌≡◌, refl, subst⁻¹}
use Rattle.spread.specs.Accepted.{sound}
use Rattle.spread.specs.declared.Prompts.{Prompts}
use Rattle.spread.proofs.Booking.{booked_lent}
use Rattle.spread.proofs.Lent.{prompts_back}
use Rattle.spread.proofs.book.book_of_accepted.Goals as goal

pub put_book-requires : goal.put_book-requires
put_book-requires c =
    let p = c.args.prompts in (
      subst⁻¹ (λ (q : Prompts). sound q c.args.table ≡ true) (prompts_back p c.plain.result c.plain.ensures) c.requires,
      ((refl, refl), (refl, refl)),
    )

pub returns : goal.returns
returns c =
    let ends = c.put_book.new in
    booked_lent c.args.prompts c.args.table c.plain.result ends.first ends.second ends.used ends.unused _ _ _ _
    c.plain.ensures c.spreads_from.ensures
    c.spreads_from-2.ensures c.deltas_from.ensures c.deltas_from-2.ensures c.put_book.ensures
