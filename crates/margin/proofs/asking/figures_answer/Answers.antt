-- Too few numbers lent, or the figures that positions give in them.
-- Assumes nothing.
use mathlib.Core.Path.{refl, sym, ap}
use native.Mathlib.Omega.{arith}
use lib.ListN.{length}
use Rattle.margin.specs.declared.asking.Question.TheVariants.{Figures}
use Rattle.margin.proofs.QuestionLaws.{asked_many, figures-length, figures_refused}
use Rattle.margin.proofs.asking.figures_answer.Goals as goal

pub returns-then-out-figures_count : goal.returns-then-out-figures_count
returns-then-out-figures_count c =
    λ whole t.
    figures_refused whole c.args.out.now _ t.positions.records_are
    (omega (
      arith,
      figures-length whole,
      ap length t.beside.contracts,
      c.requires.0.places.contracts,
      c.figures_count.ensures,
      c.if-out-figures_count.true,
    ))

pub put_from-requires : goal.put_from-requires
put_from-requires c =
    (c.requires.0, (c.requires.1, omega (arith, c.figures_count.ensures, c.if-out-figures_count.false)))

pub returns : goal.returns
returns c =
    λ whole t. (
      sym (asked_many whole Figures (length c.args.out.now) refl
          (omega (
            arith,
            figures-length whole,
            ap length t.beside.contracts,
            c.requires.0.places.contracts,
            c.figures_count.ensures,
            c.if-out-figures_count.false,
          ))),
      (c.put_from.ensures whole t).figures-after,
    )
