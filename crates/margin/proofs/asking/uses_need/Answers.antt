-- How many numbers the answer has, 0 where the question is not answered.
-- Assumes nothing.
use mathlib.Core.Path.{◌≡◌, sym, ap, ◌∙◌}
use mathlib.Core.Bool.{Bool, cond}
use Prim.Native.Nat.{◌*◌, ◌≤◌}
use native.Mathlib.Nat.{mul-le-mul}
use native.Mathlib.Omega.{arith}
use lib.ListN.{length}
use Rattle.formulas.specs.Bounds.{longest_uses}
use Rattle.account.specs.code.Lent.{account_in}
use Rattle.account.specs.Joined.{account_of}
use Rattle.margin.specs.Books.{answered}
use Rattle.margin.specs.Questions.{numbers_for}
use Rattle.margin.specs.declared.asking.Question.TheVariants.{Uses}
use Rattle.margin.proofs.AskedLaws.{asked_is}
use Rattle.margin.proofs.asking.uses_need.Goals as goal
use Rattle.margin.proofs.asking.uses_need.Goals.{After-is_asked, After-sizes_over-sizes}

-- whether the account answers the question
asked : (c : After-is_asked) →
    answered (account_of c.args.morning.now c.args.noon.now) c.args.question ≡ c.is_asked.result
asked c =
    sym (c.is_asked.ensures ∙ asked_is (account_of c.args.morning.now c.args.noon.now) c.requires.lawful (account_in c.args.account.now).counts
    c.requires.places.counts c.args.question)

-- the product of two sizes within their bounds
few : (c : After-sizes_over-sizes) → c.sizes_over-sizes.result.spreads * (2 * c.sizes_over-sizes.result.prompts) ≤ longest_uses
few c =
    let n = c.sizes_over-sizes.ensures in
    let m = mul-le-mul n.spreads_few n.prompts_few in
    omega arith

pub returns-then-not-is_asked : goal.returns-then-not-is_asked
returns-then-not-is_asked c =
    let a = account_of c.args.morning.now c.args.noon.now in (
      sym (ap (λ (t : Bool). cond t (length (numbers_for a (Uses c.args.question))) 0)
          (asked (goal.at.returns-then-not-is_asked c).After-is_asked ∙ c.if-not-is_asked.true)),
      omega arith,
    )

pub sizes_over-sizes-requires : goal.sizes_over-sizes-requires
sizes_over-sizes-requires c =
    (c.requires, asked (goal.at.sizes_over-sizes-requires c).After-is_asked ∙ c.if-not-is_asked.false)

pub overflow_mul-result : goal.overflow_mul-result
overflow_mul-result c = omega (arith, c.sizes_over-sizes.ensures.prompts_few)

pub overflow_mul-result-2 : goal.overflow_mul-result-2
overflow_mul-result-2 c = omega (arith, few (goal.at.overflow_mul-result-2 c).After-sizes_over-sizes)

pub returns : goal.returns
returns c =
    let a = account_of c.args.morning.now c.args.noon.now in
    let r = c.sizes_over-sizes in (
      sym (ap (λ (t : Bool). cond t (length (numbers_for a (Uses c.args.question))) 0)
          (asked (goal.at.returns c).After-is_asked ∙ c.if-not-is_asked.false) ∙ r.ensures.uses_have),
      few (goal.at.returns c).After-sizes_over-sizes,
    )
