-- `delta_book`: what is refused has no numbers; what is accepted has its own.
-- Assumes nothing.
use mathlib.Core.Path.{sym, ◌∙◌}
use Rattle.spread.proofs.Booking.{booked_refused}
use Rattle.spread.proofs.book.delta_book.Goals as goal

pub returns-else-accepted : goal.returns-else-accepted
returns-else-accepted c =
    booked_refused c.args.prompts c.args.table c.refused.result
    (sym c.accepted.ensures ∙ c.if-accepted.false) c.refused.ensures
