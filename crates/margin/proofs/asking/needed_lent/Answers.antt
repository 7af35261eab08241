-- Each question needs what its own function says.
-- Assumes nothing.
use mathlib.Core.Path.{◌≡◌, sym, ◌∙◌, subst⁻¹}
use mathlib.Core.List.{List}
use Prim.Native.Nat.{ℕ, ◌≤◌}
use native.Mathlib.Omega.{arith}
use Rattle.record.specs.Layout.{Record}
use Rattle.account.specs.code.Lent.{account_in}
use Rattle.account.specs.Joined.{account_of}
use Rattle.margin.specs.Questions.{need_over, most_for}
use Rattle.margin.specs.declared.asking.Question.{Question}
use Rattle.margin.proofs.QuestionLaws.{figures-length}
use Rattle.margin.proofs.StandLaws.{few_contracts}
use Rattle.margin.proofs.asking.needed_lent.Goals as goal

-- the same question by another name
needed : (account : List Record) (n : ℕ) (q q' : Question) → q ≡ q' → (n ≡ need_over account q') × (n ≤ most_for q') → (n ≡ need_over account q) × (n ≤ most_for q)
needed account n q q' e = subst⁻¹ (λ (x : Question). (n ≡ need_over account x) × (n ≤ most_for x)) e

pub figures_count-requires : goal.figures_count-requires
figures_count-requires c =
    few_contracts c.args.morning.now c.args.noon.now (account_in c.args.account.now) c.requires

pub returns-in-Figures : goal.returns-in-Figures
returns-in-Figures c =
    let a = account_of c.args.morning.now c.args.noon.now in
    let n = c.figures_count in
    let few = few_contracts c.args.morning.now c.args.noon.now (account_in c.args.account.now) c.requires in
    needed a n.result _ _ c.in-Figures.is
    (sym (figures-length a ∙ omega (arith, n.ensures, c.requires.places.contracts)), omega (arith, n.ensures, few))

pub returns-in-Book : goal.returns-in-Book
returns-in-Book c =
    needed (account_of c.args.morning.now c.args.noon.now) c.book_need.result _ _ c.in-Book.is c.book_need.ensures

pub returns-in-Uses : goal.returns-in-Uses
returns-in-Uses c =
    needed (account_of c.args.morning.now c.args.noon.now) c.uses_need.result _ _ c.in-Uses.is c.uses_need.ensures
