-- The total stands last in the figures.
-- Assumes nothing.
use mathlib.Core.Path.{◌∙◌, ap}
use Prim.Native.Nat.{◌*◌, ◌≤◌}
use native.Mathlib.Omega.{arith}
use lib.IntN.{pos}
use lib.ListN.{length, replicate}
use Rattle.formulas.specs.Bounds.{figures_each, longest_figures}
use Rattle.account.specs.code.Lent.{account_in}
use Rattle.account.specs.Check.{most_contracts}
use Rattle.margin.specs.Figures.{figures}
use Rattle.margin.proofs.QuestionLaws.{figures-length, figures_front, total_last}
use Rattle.margin.proofs.StandLaws.{few_contracts}
use Rattle.margin.proofs.everything.total_lent_from.Goals as goal
use Rattle.margin.proofs.everything.total_lent_from.Goals.{Start}

-- at most 16 contracts
few : (s : Start) → (account_in s.args.account.now).contracts ≤ most_contracts
few s = few_contracts s.args.morning.now s.args.noon.now (account_in s.args.account.now) s.requires.0

pub put_from-requires : goal.put_from-requires
put_from-requires c =
    (c.requires.0, (c.requires.1, omega (arith, few (goal.at.put_from-requires c).Start)))

pub total_in-requires : goal.total_in-requires
total_in-requires c =
    few (goal.at.total_in-requires c).Start

pub returns : goal.returns
returns c =
    let f = c.put_from in
    λ whole t.
    let some : length (figures whole) ≤ longest_figures =
    omega (arith, few (goal.at.returns c).Start, figures-length whole, ap length t.beside.contracts, c.requires.0.places.contracts) in
    c.total_in.ensures
    ∙ total_last whole (replicate longest_figures (pos 0)) f.new.figures (figures_each * (account_in c.args.account.now).contracts)
    ((f.ensures whole t).figures-after ∙ figures_front whole (replicate longest_figures (pos 0)) some) some
    (omega (arith, ap length t.beside.contracts, c.requires.0.places.contracts))
