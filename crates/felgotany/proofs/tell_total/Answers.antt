-- What is said of a total, as numbers.
-- Assumes nothing.
use Rattle.std.proofs.Common.{rules}
use Rattle.felgotany.proofs.tell_total.Goals as goal

pub returns : goal.returns
returns c =
    let t = c.tell_answer-told.ensures in
    record {
      refusal = t.refusal;
      record_named = t.record_named;
      total_is = search rules;
    }
