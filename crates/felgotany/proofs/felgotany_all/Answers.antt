-- The answers to all questions, told to C, and the lent numbers as they leave them.
-- Assumes nothing.
use mathlib.Core.Path.{subst}
use Rattle.account.specs.Answers.{Answer}
use Rattle.felgotany.specs.code.Outcomes.{Tells}
use Rattle.felgotany.proofs.felgotany_all.Goals as goal

pub returns : goal.returns
returns c =
    let f = c.ask_all-asked.ensures in (
      (subst (λ (a : Answer). Tells a c.tell-first.result) f.figures_answer_lem c.tell-first.ensures, f.figures-after),
      (
        (subst (λ (a : Answer). Tells a c.tell-second.result) f.books_answer_lem c.tell-second.ensures, f.books_after_lem),
        (subst (λ (a : Answer). Tells a c.tell-third.result) f.uses_answer_lem c.tell-third.ensures, f.uses-after),
      ),
    )
