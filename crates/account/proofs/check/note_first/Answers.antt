-- `account::check::note_first` meets its contract. Assumes nothing.
use mathlib.Core.Path.{sym, ◌∙◌}
use borrow.Author.Tests.{eq-eqb, ne_eqb}
use Rattle.account.proofs.check.note_first.Goals as goal

pub returns-then-noted-eq0 : goal.returns-then-noted-eq0
returns-then-noted-eq0 c = rw (eq-eqb _ _ (sym c.noted.ensures ∙ c.if-noted-eq0.true))

pub returns-else-noted-eq0 : goal.returns-else-noted-eq0
returns-else-noted-eq0 c = rw (ne_eqb _ _ (λ e. c.if-noted-eq0.false (c.noted.ensures ∙ e)))
