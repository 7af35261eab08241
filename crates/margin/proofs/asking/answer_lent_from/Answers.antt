-- Each question is answered by its own function.
-- Assumes nothing.
use mathlib.Core.Path.{◌≡◌, subst⁻¹}
use mathlib.Core.List.{List}
use lib.IntN.{ℤ}
use lib.ListN.{length}
use Rattle.record.specs.Layout.{Record}
use Rattle.account.specs.Answers.{Answer}
use Rattle.margin.specs.Questions.{answer_over, after_over}
use Rattle.margin.specs.declared.asking.Question.{Question}
use Rattle.margin.proofs.asking.answer_lent_from.Goals as goal

-- the same question by another name
answered : (account : List Record) (a : Answer) (left lent : List ℤ) (q q' : Question) → q ≡ q' → (a ≡ answer_over account q' (length lent))
    × (left ≡ after_over account q' lent)
    → (a ≡ answer_over account q (length lent)) × (left ≡ after_over account q lent)
answered account a left lent q q' e = subst⁻¹ (λ (x : Question). (a ≡ answer_over account x (length lent)) × (left ≡ after_over account x lent)) e

pub returns-in-Figures : goal.returns-in-Figures
returns-in-Figures c =
    let r = c.figures_answer in
    λ whole t. answered whole r.result r.new.out c.args.out.now _ _ c.in-Figures.is (r.ensures whole t)

pub returns-in-Book : goal.returns-in-Book
returns-in-Book c =
    let r = c.question_answer in
    λ whole t. answered whole r.result r.new.out c.args.out.now _ _
    c.in-Book.is (r.ensures whole t)

pub returns-in-Uses : goal.returns-in-Uses
returns-in-Uses c =
    let r = c.question_answer-in-Uses in
    λ whole t. answered whole r.result r.new.out c.args.out.now _ _
    c.in-Uses.is (r.ensures whole t)
