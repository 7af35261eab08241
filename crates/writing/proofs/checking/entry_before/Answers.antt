-- The entry before it in the order, or none.
-- Assumes nothing.
use mathlib.Core.Path.{◌∙◌}
use Rattle.account.proofs.Walk.{before_is}
use Rattle.writing.specs.Written.{written}
use Rattle.writing.proofs.checking.entry_before.Goals as goal

pub returns-else-k-eq0 : goal.returns-else-k-eq0
returns-else-k-eq0 c =
    let a = c.args in
    c.entry_at.ensures ∙ before_is (written a.entries.now) a.k c.if-k-eq0.false
