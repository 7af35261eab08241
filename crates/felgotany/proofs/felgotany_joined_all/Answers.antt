-- The verdicts on all questions to a pair of files, told to C, and the lent numbers as they leave them.
-- Assumes nothing.
use mathlib.Core.Path.{subst}
use Rattle.account.specs.declared.noon.Verdict.{Verdict}
use Rattle.felgotany.specs.code.Outcomes.{TellsOf}
use Rattle.felgotany.proofs.felgotany_joined_all.Goals as goal

pub returns : goal.returns
returns c =
    let f = c.ask_all-asked.ensures in
    record {
      figures = (subst (λ (v : Verdict). TellsOf v c.tell_of-first.result) f.figures_answer_lem c.tell_of-first.ensures, f.figures-after);
      books = (subst (λ (v : Verdict). TellsOf v c.tell_of-second.result) f.books_answer_lem c.tell_of-second.ensures, f.books_after_lem);
      uses = (subst (λ (v : Verdict). TellsOf v c.tell_of-third.result) f.uses_answer_lem c.tell_of-third.ensures, f.uses-after);
    }
