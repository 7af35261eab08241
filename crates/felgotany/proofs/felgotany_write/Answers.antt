-- The file of entries, told to C.
-- Assumes nothing.
use mathlib.Core.Path.{ap, ◌∙◌}
use Rattle.account.specs.Answers.{number_of, record_of}
use Rattle.felgotany.proofs.felgotany_write.Goals as goal

pub returns : goal.returns
returns c =
    let w = c.write-written.ensures in
    let t = c.tell_answer-told.ensures in
    record {
      refusal = t.refusal ∙ ap number_of w.answer;
      entry_named = t.record_named ∙ ap record_of w.answer;
      written_is = c.unwrap_or.ensures ∙ w.bytes;
      out = w.out;
    }
