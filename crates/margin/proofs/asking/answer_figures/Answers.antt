-- Too few numbers lent, or the figures in them.
-- Assumes nothing.
use mathlib.Core.Path.{refl, sym, ◌∙◌}
use native.Mathlib.Omega.{arith}
use lib.ListN.{length}
use Rattle.account.specs.Joined.{account_of}
use Rattle.margin.specs.declared.asking.Question.TheVariants.{Figures}
use Rattle.margin.proofs.QuestionLaws.{asked_many, figures-length, figures_refused}
use Rattle.margin.proofs.asking.answer_figures.Goals as goal

pub returns-then-out-figures_count : goal.returns-then-out-figures_count
returns-then-out-figures_count c =
    let a = account_of c.args.morning.now c.args.noon.now in
    figures_refused a c.args.out.now _ (c.record_total.ensures ∙ c.requires.places.all)
    (omega (arith, figures-length a, c.requires.places.contracts, c.figures_count.ensures, c.if-out-figures_count.true))

pub returns : goal.returns
returns c =
    let a = account_of c.args.morning.now c.args.noon.now in (
      sym (asked_many a Figures (length c.args.out.now) refl
          (omega (arith, figures-length a, c.requires.places.contracts, c.figures_count.ensures, c.if-out-figures_count.false))),
      c.put_over.ensures.figures-after,
    )
