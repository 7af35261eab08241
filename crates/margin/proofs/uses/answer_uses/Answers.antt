-- What each step takes of each prompt: too few numbers lent, or written at the front.
-- Assumes nothing.
use Rattle.std.specs.Prelude.{ℕ, Err}
use mathlib.Core.Path.{refl, sym, ap, ◌∙◌}
use Prim.Native.Nat.{◌≤◌}
use native.Mathlib.Omega.{arith}
use lib.ListN.{length}
use lib.Seq.{sets}
use Rattle.account.specs.declared.answers.Refusal.TheVariants.{TooFewNumbers}
use Rattle.margin.specs.Uses.{uses}
use Rattle.margin.specs.declared.asking.Question.TheVariants.{Uses}
use Rattle.margin.proofs.AnswerLaws.{uses_same, uses_many}
use Rattle.margin.proofs.NumberLaws.{sets_front}
use Rattle.margin.proofs.QuestionLaws.{asked_few, asked_many, refused_with, accepted_with}
use Rattle.margin.proofs.uses.answer_uses.Goals as goal

pub returns-then-out-uses_count : goal.returns-then-out-uses_count
returns-then-out-uses_count c =
    let out = c.args.out.now in
    λ whole question h.
    refused_with (Err (TooFewNumbers c.args.records)) _ (uses whole question) out
    (asked_few whole (Uses question) (length out) h.asked_is
    (omega (arith, uses_many whole question c.args.records c.args.asking h, c.uses_count.ensures, c.if-out-uses_count.true))
    ∙ ap (λ (n : ℕ). Err (TooFewNumbers n)) (sym h.records_are)) (λ e. omega arith)

pub put_uses-requires : goal.put_uses-requires
put_uses-requires c =
    (c.requires, omega (arith, c.uses_count.ensures, c.if-out-uses_count.false))

pub returns : goal.returns
returns c =
    let out = c.args.out.now in
    λ whole question h.
    let enough : length (uses whole question) ≤ length out =
    omega (
      arith,
      uses_many whole question c.args.records
          c.args.asking h,
      c.uses_count.ensures,
      c.if-out-uses_count.false,
    )
    in
    accepted_with _ (uses whole question) out c.put_uses.new.out (length (uses whole question))
    (asked_many whole (Uses question) (length out) h.asked_is enough) refl
    (c.put_uses.ensures ∙ ap (sets out 0) (uses_same whole question c.args.records c.args.asking h)
    ∙ sets_front (uses whole question) out enough)
