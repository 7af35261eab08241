-- The uses of a question, or its book.
-- Assumes nothing.
use mathlib.Core.Path.{◌≡◌, subst⁻¹}
use mathlib.Core.Bool.{Bool}
use lib.ListN.{length}
use Rattle.margin.specs.Places.{question_of}
use Rattle.margin.specs.Questions.{answer_over, after_over}
use Rattle.margin.proofs.asking.answer_asking.Goals as goal

pub returns-then-paid : goal.returns-then-paid
returns-then-paid c =
    let out = c.args.out.now in
    let r = c.answer_uses in
    λ whole question h.
    subst⁻¹ (λ (t : Bool). (r.result ≡ answer_over whole (question_of t question) (length out))
    × (r.new.out ≡ after_over whole (question_of t question) out))
    c.if-paid.true (r.ensures whole question h)

pub returns : goal.returns
returns c =
    let out = c.args.out.now in
    let r = c.answer_book in
    λ whole question h.
    subst⁻¹ (λ (t : Bool). (r.result ≡ answer_over whole (question_of t question) (length out))
    × (r.new.out ≡ after_over whole (question_of t question) out))
    c.if-paid.false (r.ensures whole question h)
