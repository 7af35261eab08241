-- A row, or another record.
-- Assumes nothing.
use mathlib.Core.Path.{sym, ◌∙◌}
use borrow.Author.Tests.{ne_eqb}
use Rattle.record.specs.Layout.{kind}
use Rattle.writing.proofs.checking.answer_at.Goals as goal

pub row_answer-requires : goal.row_answer-requires
row_answer-requires c =
    (c.requires.0 (sym c.kind.ensures.0 ∙ c.if-kind-eq3.true), c.requires.1)

pub returns : goal.returns
returns c rates of each =
    let r = c.args.r.now in
    rw (ne_eqb (kind r) 3 (λ e. c.if-kind-eq3.false (c.kind.ensures.0 ∙ e)))
