-- Fewer numbers lent than needed, or not.
-- Assumes nothing.
use Rattle.std.specs.Prelude.{Ok, Err}
use mathlib.Core.Path.{sym, ap}
use mathlib.Core.Bool.{Bool, cond}
use native.Mathlib.Omega.{arith}
use borrow.Author.Tests.{lt-ltb, le-ltb}
use Rattle.account.specs.declared.answers.Refusal.TheVariants.{TooFewNumbers}
use Rattle.margin.proofs.everything.lent_answer.Goals as goal

pub returns-then-lent-needed : goal.returns-then-lent-needed
returns-then-lent-needed c =
    sym (ap (λ (t : Bool). cond t (Err (TooFewNumbers c.args.records)) (Ok tt)) (lt-ltb c.args.lent c.args.needed c.if-lent-needed.true))

pub returns : goal.returns
returns c =
    sym (ap (λ (t : Bool). cond t (Err (TooFewNumbers c.args.records)) (Ok tt)) (le-ltb c.args.lent c.args.needed (omega (arith, c.if-lent-needed.false))))
