-- How many numbers the answer has, 0 where the question is not answered.
-- Assumes nothing.
use mathlib.Core.Path.{◌≡◌, sym, ap, ◌∙◌}
use mathlib.Core.Bool.{Bool, cond}
use native.Mathlib.Omega.{arith}
use lib.ListN.{length}
use Rattle.account.specs.code.Lent.{account_in}
use Rattle.account.specs.Joined.{account_of}
use Rattle.margin.specs.Books.{answered}
use Rattle.margin.specs.Questions.{numbers_for}
use Rattle.margin.specs.declared.asking.Question.TheVariants.{Book}
use Rattle.margin.proofs.AskedLaws.{asked_is}
use Rattle.margin.proofs.asking.book_need.Goals as goal
use Rattle.margin.proofs.asking.book_need.Goals.{After-is_asked}

-- whether the account answers the question
asked : (c : After-is_asked) →
    answered (account_of c.args.morning.now c.args.noon.now) c.args.question ≡ c.is_asked.result
asked c =
    sym (c.is_asked.ensures ∙ asked_is (account_of c.args.morning.now c.args.noon.now) c.requires.lawful (account_in c.args.account.now).counts
    c.requires.places.counts c.args.question)

pub returns-then-not-is_asked : goal.returns-then-not-is_asked
returns-then-not-is_asked c =
    let a = account_of c.args.morning.now c.args.noon.now in (
      sym (ap (λ (t : Bool). cond t (length (numbers_for a (Book c.args.question))) 0)
          (asked (goal.at.returns-then-not-is_asked c).After-is_asked ∙ c.if-not-is_asked.true)),
      omega arith,
    )

pub sizes_over-sizes-requires : goal.sizes_over-sizes-requires
sizes_over-sizes-requires c =
    (c.requires, asked (goal.at.sizes_over-sizes-requires c).After-is_asked ∙ c.if-not-is_asked.false)

pub overflow_mul-result : goal.overflow_mul-result
overflow_mul-result c = omega (arith, c.sizes_over-sizes.ensures.prompts_few)

pub overflow_mul-result-2 : goal.overflow_mul-result-2
overflow_mul-result-2 c = omega (arith, c.sizes_over-sizes.ensures.spreads_few)

pub overflow_add-result : goal.overflow_add-result
overflow_add-result c = omega (arith, c.sizes_over-sizes.ensures.prompts_few, c.sizes_over-sizes.ensures.spreads_few)

pub overflow_add-result-2 : goal.overflow_add-result-2
overflow_add-result-2 c = omega (arith, c.sizes_over-sizes.ensures.prompts_few, c.sizes_over-sizes.ensures.spreads_few)

pub returns : goal.returns
returns c =
    let a = account_of c.args.morning.now c.args.noon.now in
    let r = c.sizes_over-sizes in (
      sym (ap (λ (t : Bool). cond t (length (numbers_for a (Book c.args.question))) 0)
          (asked (goal.at.returns c).After-is_asked ∙ c.if-not-is_asked.false) ∙ r.ensures.book_has),
      omega (arith, r.ensures.prompts_few, r.ensures.spreads_few),
    )
