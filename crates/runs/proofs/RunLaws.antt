-- A run of accounts: its answer by cases, where each account stands, and that a question changes no length.
-- Assumes nothing.
use Rattle.std.specs.Prelude.{Ok, Err}
use Prim.Native.Nat.{ℕ, zero, suc, ◌+◌, ◌*◌, ◌≤◌, ◌<◌, zero-le}
use native.Mathlib.Nat.{le_of_suc-le-suc, not-suc-le-zero}
use native.Mathlib.Omega.{arith}
use mathlib.Core.Path.{◌≡◌, refl, sym, ap, ap₂, subst, subst⁻¹, ◌∙◌}
use mathlib.Core.Bool.{Bool, true, false, cond, not, ◌||◌}
use mathlib.Core.List.{List, [], ◌∷◌, ◌++◌}
use borrow.Author.Tests.{eqb-true, eq-eqb, ne_eqb, lt-ltb, le-ltb}
use lib.Dec.{eqb, ltb}
use lib.IntN.{ℤ}
use lib.ListN.{length, get_or, take, drop, drop_of_length-le}
use lib.Seq.{drop-cons, drop-drop}
use Rattle.exact.specs.Lists.{sum}
use Rattle.account.specs.Answers.{number_of}
use Rattle.account.specs.Checked.{checked}
use Rattle.account.specs.Records.{records}
use Rattle.account.specs.Answers.{Answer}
use Rattle.account.specs.declared.answers.Refusal.TheVariants.{TooFewNumbers, LengthsDiffer}
use Rattle.account.proofs.Alone.{lawful}
use Rattle.account.proofs.NoonLaws.{accepted_only}
use Rattle.formulas.specs.Bounds.{longest_figures}
use Rattle.margin.specs.Figures.{figures}
use Rattle.margin.specs.Questions.{not_refused, enough, answer_over, afterwards}
use Rattle.margin.specs.declared.asking.Question.TheVariants.{Figures}
use Rattle.margin.proofs.PlaceLaws.{keeps_length}
use Rattle.margin.proofs.QuestionLaws.{figures-length}
use Rattle.questions.specs.Questions.{figures_answer, after_figures}
use Rattle.runs.specs.Claims.{account_at}
use Rattle.margin.specs.Places.{at_place}
use Rattle.runs.specs.Runs.{accounts_of, outcome_numbers, outcome_of, too_few, run_answer, after_outcome, each_figures, each_outcome, run_figures, run_outcomes}
use Rattle.runs.proofs.PlaceLaws.{ToGo, start, next, next_length, finish}

-- ---- the numbers of a place are enough for every account
figures_fit : (account : List ℕ) → checked account ≡ Ok tt → length (figures (records account)) ≤ longest_figures
figures_fit account ok =
    let n = figures-length (records account) in
    let k = (lawful account ok).limits.contracts in
    omega (arith, n, k)

pub verdict : (account : List ℕ) → figures_answer account longest_figures ≡ checked account
verdict account = go (not_refused (checked account)) refl
  where
    fits : not_refused (checked account) ≡ true → enough (records account) (figures (records account)) longest_figures ≡ checked account
    fits e =
        let ok = accepted_only (checked account) (eqb-true (number_of (checked account)) 0 e) in
        let room = le-ltb longest_figures (length (figures (records account))) (figures_fit account ok) in
        ap (λ (t : Bool). cond t (Err (TooFewNumbers (length (records account)))) (Ok tt)) room ∙ sym ok

    go : (t : Bool) → not_refused (checked account) ≡ t →
        cond t (enough (records account) (figures (records account)) longest_figures) (checked account) ≡ checked account
    go true e = fits e
    go false e = refl

-- ---- the question of an account changes no length
module _ (file : List ℕ) (lent : List ℤ) where
  abbrev numbers : List ℤ
  numbers = figures (records file)

  asked : (t : Bool) → not_refused (checked file) ≡ t
      → length (afterwards (cond t (answer_over (records file) Figures (length lent)) (checked file)) numbers lent) ≡ length lent
  asked true e = keeps_length (records file) Figures lent
  asked false e = ap (λ (t : Bool). length (cond t (numbers ++ drop (length numbers) lent) lent)) e

  figures-keep : length (after_figures file lent) ≡ length lent
  figures-keep = asked (not_refused (checked file)) refl

pub keeps_figures : (file : List ℕ) (lent : List ℤ) → length lent ≡ longest_figures → length (after_figures file lent) ≡ longest_figures
keeps_figures file lent h = figures-keep file lent ∙ h

pub keeps_outcome : (file lent : List ℕ) → length lent ≡ outcome_numbers → length (after_outcome file lent) ≡ outcome_numbers
keeps_outcome file lent h = refl

-- ---- where the accounts stand
pub accounts_length : (lengths bytes : List ℕ) → length (accounts_of lengths bytes) ≡ length lengths
accounts_length [] bytes = refl
accounts_length (n ∷ lengths) bytes = ap suc (accounts_length lengths (drop n bytes))

pub account_at_lem : (lengths bytes : List ℕ) (i : ℕ) → i < length lengths → get_or (accounts_of lengths bytes) i [] ≡ account_at i lengths bytes
account_at_lem [] bytes i h = absurd (not-suc-le-zero h)
account_at_lem (n ∷ lengths) bytes zero h = refl
account_at_lem (n ∷ lengths) bytes (suc i) h =
    account_at_lem lengths (drop n bytes) i (le_of_suc-le-suc h)
    ∙ ap (take (get_or lengths i 0)) (drop-drop (sum (take i lengths)) n bytes)

-- the first of those to go
pub accounts_next : (lengths bytes : List ℕ) (i at : ℕ) → i < length lengths →
    accounts_of (drop i lengths) (drop at bytes)
    ≡ take (get_or lengths i 0) (drop at bytes) ∷ accounts_of (drop (suc i) lengths) (drop (at + get_or lengths i 0) bytes)
accounts_next lengths bytes i at h =
    ap (λ (ns : List ℕ). accounts_of ns (drop at bytes)) (drop-cons lengths i 0 h)
    ∙ ap (λ (xs : List ℕ). take (get_or lengths i 0) (drop at bytes) ∷ accounts_of (drop (suc i) lengths) xs) (drop-drop (get_or lengths i 0) at bytes)

pub sum_next : (lengths : List ℕ) (i : ℕ) → i < length lengths → sum (drop i lengths) ≡ get_or lengths i 0 + sum (drop (suc i) lengths)
sum_next lengths i h = ap sum (drop-cons lengths i 0 h)

-- what is left of the whole once the lengths are taken from it
pub left_over_lem : (added left whole : ℕ) → added + left ≡ whole → eqb left 0 ≡ eqb added whole
left_over_lem added zero whole e = sym (eq-eqb added whole (omega (arith, e)))
left_over_lem added (suc left) whole e =
    ne_eqb (suc left) 0 (λ f. omega (arith, f)) ∙ sym (ne_eqb added whole (λ f. omega (arith, e, f)))

-- ---- the answer, by cases
module _ (bytes lengths : List ℕ) (out : List ℤ) (outcomes : List ℕ) where
  abbrev answer : Answer
  answer = run_answer bytes lengths (length out) (length outcomes)

  pub record Answered (r : Answer) (out' : List ℤ) (outcomes' : List ℕ) : Type 0 where
    pub is : r ≡ answer
    pub out_is : out' ≡ run_figures bytes lengths (length outcomes) out
    pub outcome_is : outcomes' ≡ run_outcomes bytes lengths (length out) outcomes

  refused : (r : Answer) → answer ≡ r → not_refused r ≡ false → Answered r out outcomes
  refused r e f =
      let no : not_refused answer ≡ false = ap not_refused e ∙ f in
      record {
        is = sym e;
        out_is = sym (ap (λ (t : Bool). cond t (each_figures (accounts_of lengths bytes) out) out) no);
        outcome_is = sym (ap (λ (t : Bool). cond t (each_outcome (accounts_of lengths bytes) outcomes) outcomes) no);
      }

  pub differ : eqb (sum lengths) (length bytes) ≡ false → Answered (Err LengthsDiffer) out outcomes
  differ e =
      refused (Err LengthsDiffer)
      (ap (λ (t : Bool). cond (not t) (Err LengthsDiffer) (cond (too_few (length lengths) (length out) (length outcomes)) (Err (TooFewNumbers 0)) (Ok tt))) e) refl

  module _ (e : eqb (sum lengths) (length bytes) ≡ true) where
    then_enough : (t : Bool) → too_few (length lengths) (length out) (length outcomes) ≡ t → answer ≡ cond t (Err (TooFewNumbers 0)) (Ok tt)
    then_enough t f =
        ap₂ (λ (s t : Bool). cond (not s) (Err LengthsDiffer) (cond t (Err (TooFewNumbers 0)) (Ok tt))) e f

    pub few_figures : length out < longest_figures * length lengths → Answered (Err (TooFewNumbers 0)) out outcomes
    few_figures h =
        refused (Err (TooFewNumbers 0))
        (then_enough true
        (ap (λ (t : Bool). t || ltb (length outcomes) (outcome_numbers * length lengths)) (lt-ltb (length out) (longest_figures * length lengths) h))) refl

    pub few_outcomes : longest_figures * length lengths ≤ length out
        → length outcomes < outcome_numbers * length lengths → Answered (Err (TooFewNumbers 0)) out outcomes
    few_outcomes g h =
        refused (Err (TooFewNumbers 0))
        (then_enough true
        (ap₂ ◌||◌ (le-ltb (length out) (longest_figures * length lengths) g) (lt-ltb (length outcomes) (outcome_numbers * length lengths) h))) refl

    pub all : longest_figures * length lengths ≤ length out → outcome_numbers * length lengths ≤ length outcomes → (out' : List ℤ) (outcomes' : List ℕ) →
        out' ≡ each_figures (accounts_of lengths bytes) out
        → outcomes' ≡ each_outcome (accounts_of lengths bytes) outcomes → Answered (Ok tt) out' outcomes'
    all g h out' outcomes' eo et =
        let yes : answer ≡ (Ok tt) =
        then_enough false (ap₂ ◌||◌ (le-ltb (length out) (longest_figures * length lengths) g) (le-ltb (length outcomes) (outcome_numbers * length lengths) h))
        in
        record {
          is = sym yes;
          out_is = eo ∙ sym (ap (λ (a : Answer). cond (not_refused a) (each_figures (accounts_of lengths bytes) out) out) yes);
          outcome_is = et ∙ sym (ap (λ (a : Answer). cond (not_refused a) (each_outcome (accounts_of lengths bytes) outcomes) outcomes) yes);
        }

-- ---- while the accounts are answered: those before i are, and the bytes of the others begin at `at`
abbrev FiguresToGo : List ℤ → List (List ℕ) → ℕ → List ℤ → Type 0
FiguresToGo = ToGo longest_figures after_figures keeps_figures

abbrev OutcomesToGo : List ℕ → List (List ℕ) → ℕ → List ℕ → Type 0
OutcomesToGo = ToGo outcome_numbers after_outcome keeps_outcome

module _ (bytes lengths : List ℕ) (out₀ : List ℤ) (outcomes₀ : List ℕ) where
  pub record Going (out : List ℤ) (outcomes : List ℕ) (at i : ℕ) : Type 0 where
    pub figures_go : FiguresToGo (each_figures (accounts_of lengths bytes) out₀) (accounts_of (drop i lengths) (drop at bytes)) i out
    pub outcomes_go : OutcomesToGo (each_outcome (accounts_of lengths bytes) outcomes₀) (accounts_of (drop i lengths) (drop at bytes)) i outcomes
    pub begins : at + sum (drop i lengths) ≡ length bytes
    pub within : i ≤ length lengths
    pub as_long : length out ≡ length out₀
    pub as_many : length outcomes ≡ length outcomes₀

  pub begin : sum lengths ≡ length bytes → Going out₀ outcomes₀ 0 0
  begin e = record {
    figures_go = start longest_figures after_figures keeps_figures (accounts_of lengths bytes) out₀;
    outcomes_go = start outcome_numbers after_outcome keeps_outcome (accounts_of lengths bytes) outcomes₀;
    begins = omega (arith, e);
    within = zero-le;
    as_long = refl;
    as_many = refl;
  }

  module _ (figures-room : longest_figures * length lengths ≤ length out₀) (outcomes_room : outcome_numbers * length lengths ≤ length outcomes₀)
      (out : List ℤ) (outcomes : List ℕ) (at i : ℕ) (g : Going out outcomes at i) (h : i < length lengths) where
    abbrev account : List ℕ
    account = take (get_or lengths i 0) (drop at bytes)

    pub room_here : longest_figures * i + longest_figures ≤ length out
    room_here = let l = g.as_long in omega (arith, l, figures-room, h)

    pub outcome_here : outcome_numbers * i + outcome_numbers ≤ length outcomes
    outcome_here = let l = g.as_many in omega (arith, l, outcomes_room, h)

    -- the account stands within the bytes
    pub ends : at + get_or lengths i 0 ≤ length bytes
    ends = let b = g.begins in let n = sum_next lengths i h in omega (arith, b, n)

    to_go_lem : accounts_of (drop i lengths) (drop at bytes) ≡ account ∷ accounts_of (drop (suc i) lengths) (drop (at + get_or lengths i 0) bytes)
    to_go_lem = accounts_next lengths bytes i at h

    pub go_on : (r : Answer) (out' : List ℤ) (outcomes' : List ℕ) → r ≡ figures_answer account longest_figures
        → out' ≡ at_place longest_figures (longest_figures * i) (after_figures account) out
        → outcomes' ≡ at_place outcome_numbers (outcome_numbers * i) (λ lent. outcome_of r) outcomes
        → Going out' outcomes' (at + get_or lengths i 0) (suc i)
    go_on r out' outcomes' er eo et =
        let later = accounts_of (drop (suc i) lengths) (drop (at + get_or lengths i 0) bytes) in
        let wholeᶠ = each_figures (accounts_of lengths bytes) out₀ in
        let wholeᵒ = each_outcome (accounts_of lengths bytes) outcomes₀ in
        let outcomes-are : outcomes' ≡ at_place outcome_numbers (outcome_numbers * i) (after_outcome account) outcomes =
        et ∙ ap (λ (a : Answer). at_place outcome_numbers (outcome_numbers * i) (λ lent. outcome_of a) outcomes) er
        in
        let figures-next =
        next longest_figures after_figures keeps_figures wholeᶠ account later i out room_here
        (subst (λ (these : List (List ℕ)). FiguresToGo wholeᶠ these i out) to_go_lem g.figures_go)
        in
        let outcomes-next =
        next outcome_numbers after_outcome keeps_outcome wholeᵒ account later i outcomes outcome_here
        (subst (λ (these : List (List ℕ)). OutcomesToGo wholeᵒ these i outcomes) to_go_lem g.outcomes_go)
        in
        let b = g.begins in
        let n = sum_next lengths i h in
        record {
          figures_go = subst⁻¹ (FiguresToGo wholeᶠ later (suc i)) eo figures-next;
          outcomes_go = subst⁻¹ (OutcomesToGo wholeᵒ later (suc i)) outcomes-are outcomes-next;
          begins = omega (arith, b, n);
          within = h;
          as_long = ap length eo ∙ next_length longest_figures after_figures keeps_figures wholeᶠ account later i out room_here ∙ g.as_long;
          as_many = ap length outcomes-are ∙ next_length outcome_numbers after_outcome keeps_outcome wholeᵒ account later i outcomes outcome_here ∙ g.as_many;
        }

  pub end : (out : List ℤ) (outcomes : List ℕ) (at i : ℕ) → Going out outcomes at i → length lengths ≤ i
      → (out ≡ each_figures (accounts_of lengths bytes) out₀) × (outcomes ≡ each_outcome (accounts_of lengths bytes) outcomes₀)
  end out outcomes at i g h =
      let none : accounts_of (drop i lengths) (drop at bytes) ≡ [] = ap (λ (ns : List ℕ). accounts_of ns (drop at bytes)) (drop_of_length-le lengths h) in
      let wholeᶠ = each_figures (accounts_of lengths bytes) out₀ in
      let wholeᵒ = each_outcome (accounts_of lengths bytes) outcomes₀ in (
        finish longest_figures after_figures keeps_figures wholeᶠ i out (subst (λ (these : List (List ℕ)). FiguresToGo wholeᶠ these i out) none g.figures_go),
        finish outcome_numbers after_outcome keeps_outcome wholeᵒ i outcomes
            (subst (λ (these : List (List ℕ)). OutcomesToGo wholeᵒ these i outcomes) none g.outcomes_go),
      )
