-- The held file is the one that was asked about.
-- Assumes nothing.
use Rattle.std.proofs.Common.{ℕ, List, Bor, ap, subst}
use Rattle.questions.specs.code.Held.{AllAnswered}
use Rattle.questions.proofs.held.ask_all.Goals as goal

pub returns : goal.returns
returns c =
    let all = c.held_all in
    subst
    (λ (file : List ℕ).
    AllAnswered file c.args.figures.now c.args.books.now c.args.uses.now all.result all.new.figures all.new.books all.new.uses)
    (ap (λ (b : Bor (List ℕ)). b.now) c.hold.ensures.0)
    all.ensures
