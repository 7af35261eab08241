-- What is said of a list, as numbers.
-- Assumes nothing.
use Rattle.felgotany.proofs.tell_list.Goals as goal

pub returns : goal.returns
returns c =
    let t = c.tell_answer-told.ensures in
    record {
      refusal = t.refusal;
      record_named = t.record_named;
      verdict_is = c.verdict_number.ensures;
      step_is = c.step_named.ensures;
    }
