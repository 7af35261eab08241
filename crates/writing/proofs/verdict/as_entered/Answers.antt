-- 3 and higher name a record.
-- Assumes nothing.
use Rattle.writing.proofs.Answered.{entered_early, entered_late}
use Rattle.writing.proofs.verdict.as_entered.Goals as goal

pub returns-then-number-lt3 : goal.returns-then-number-lt3
returns-then-number-lt3 c =
    let a = c.args in entered_early a.order.now a.answer c.number_of-number.ensures c.if-number-lt3.true

pub returns : goal.returns
returns c =
    let a = c.args in
    entered_late a.order.now a.answer c.number_of-number.ensures
    c.if-number-lt3.false c.record_of.ensures c.place_at.ensures
    c.from.ensures c.refusal_of.ensures
