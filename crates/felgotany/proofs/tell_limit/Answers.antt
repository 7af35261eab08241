-- What is said of a ticket that is asked about, as numbers.
-- Assumes nothing.
use Rattle.felgotany.proofs.tell_limit.Goals as goal

pub returns : goal.returns
returns c =
    let t = c.tell_answer-told.ensures in
    record {
      refusal = t.refusal;
      record_named = t.record_named;
      answer_is = c.limit_number.ensures;
      total_is = c.limit_total.ensures;
    }
