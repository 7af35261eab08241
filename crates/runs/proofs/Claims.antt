-- The claims about a run of accounts, for any bytes, lengths and lent numbers.
-- Assumes nothing.
use Rattle.std.specs.Prelude.{Ok, Err}
use Prim.Native.Nat.{ℕ, ◌*◌, ◌≤◌, ◌<◌}
use native.Mathlib.Omega.{arith}
use mathlib.Core.Path.{◌≡◌, refl, sym, ap, ap₂, subst, ◌∙◌}
use mathlib.Core.Bool.{Bool, true, false, cond, not, ◌||◌, true≢false}
use mathlib.Core.Logic.{inl, inr}
use mathlib.Core.List.{List}
use borrow.Author.Tests.{eqb-true, eq-eqb, ne_eqb, ltb-true, ltb-false, lt-ltb}
use lib.Dec.{eqb, ltb}
use lib.IntN.{ℤ}
use lib.ListN.{length, drop}
use Rattle.exact.specs.Lists.{sum}
use Rattle.account.specs.Answers.{number_of, record_of}
use Rattle.account.specs.Answers.{Answer}
use Rattle.account.specs.declared.answers.Refusal.TheVariants.{TooFewNumbers, LengthsDiffer}
use Rattle.formulas.specs.Bounds.{longest_figures}
use Rattle.margin.specs.Questions.{not_refused}
use Rattle.questions.specs.Questions.{figures_answer, after_figures}
use Rattle.runs.specs.Claims.{EachAccount, Lacking, Exactly, Untouched, Claims}
use Rattle.margin.specs.Places.{place}
use Rattle.runs.specs.Runs.{accounts_of, outcome_numbers, outcome_of, too_few, run_answer, each_figures, each_outcome, after_outcome, run_figures, run_outcomes}
use Rattle.runs.proofs.PlaceLaws.{placed, past}
use Rattle.runs.proofs.RunLaws.{verdict, keeps_figures, keeps_outcome, accounts_length, account_at_lem}

-- ---- numbers are lacking exactly where the test says so
module _ (accounts figures outcomes : ℕ) where
  lacking : too_few accounts figures outcomes ≡ true → Lacking accounts figures outcomes
  lacking = go (ltb figures (longest_figures * accounts)) refl
    where
      go : (t : Bool) → ltb figures (longest_figures * accounts) ≡ t → (t || ltb outcomes (outcome_numbers * accounts)) ≡ true → Lacking accounts figures outcomes
      go true e h = inl (ltb-true figures (longest_figures * accounts) e)
      go false e h = inr (ltb-true outcomes (outcome_numbers * accounts) h)

  lacks : Lacking accounts figures outcomes → too_few accounts figures outcomes ≡ true
  lacks (inl h) = ap (λ (t : Bool). t || ltb outcomes (outcome_numbers * accounts)) (lt-ltb figures (longest_figures * accounts) h)
  lacks (inr h) = go (ltb figures (longest_figures * accounts))
    where
      go : (t : Bool) → (t || ltb outcomes (outcome_numbers * accounts)) ≡ true
      go true = refl
      go false = lt-ltb outcomes (outcome_numbers * accounts) h

  -- room for every place, where the test says that none lacks
  room : too_few accounts figures outcomes ≡ false → (longest_figures * accounts ≤ figures) × (outcome_numbers * accounts ≤ outcomes)
  room = go (ltb figures (longest_figures * accounts)) refl
    where
      go : (t : Bool) → ltb figures (longest_figures * accounts) ≡ t → (t || ltb outcomes (outcome_numbers * accounts)) ≡ false →
          (longest_figures * accounts ≤ figures) × (outcome_numbers * accounts ≤ outcomes)
      go true e h = absurd (true≢false h)
      go false e h = (ltb-false figures (longest_figures * accounts) e, ltb-false outcomes (outcome_numbers * accounts) h)

-- ---- the answer by its two tests
abbrev cased : Bool → Bool → Answer
cased s t = cond (not s) (Err LengthsDiffer) (cond t (Err (TooFewNumbers 0)) (Ok tt))

module _ (bytes lengths : List ℕ) (figures outcomes : ℕ) where
  abbrev answer : Answer
  answer = run_answer bytes lengths figures outcomes

  abbrev same : Bool
  same = eqb (sum lengths) (length bytes)

  abbrev few : Bool
  few = too_few (length lengths) figures outcomes

  not_17 : sum lengths ≡ length bytes → number_of answer ≡ 17 → ⊥
  not_17 e h = go few (sym (ap (λ (s : Bool). number_of (cased s few)) (eq-eqb (sum lengths) (length bytes) e)) ∙ h)
    where
      go : (t : Bool) → number_of (cased true t) ≡ 17 → ⊥
      go true g = omega arith
      go false g = omega arith

  is_10 : number_of answer ≡ 10 → (sum lengths ≡ length bytes) × Lacking (length lengths) figures outcomes
  is_10 h = go same few refl refl h
    where
      go : (s t : Bool) → same ≡ s → few ≡ t → number_of (cased s t) ≡ 10 → (sum lengths ≡ length bytes) × Lacking (length lengths) figures outcomes
      go true true e f g = (eqb-true (sum lengths) (length bytes) e, lacking (length lengths) figures outcomes f)
      go true false e f g = absurd (omega arith)
      go false t e f g = absurd (omega arith)

  exactly : Exactly bytes lengths figures outcomes
  exactly = record {
    seventeen = record {
      forth = λ h e. not_17 e h;
      back = λ h. ap (λ (s : Bool). number_of (cased s few)) (ne_eqb (sum lengths) (length bytes) h);
    };
    ten = record {
      forth = is_10;
      back = λ h. ap₂ (λ (s t : Bool). number_of (cased s t)) (eq-eqb (sum lengths) (length bytes) h.0) (lacks (length lengths) figures outcomes h.1);
    };
    no_record = none same few;
  }
    where
      none : (s t : Bool) → record_of (cased s t) ≡ 0
      none true true = refl
      none true false = refl
      none false t = refl

  enough : number_of answer ≡ 0 → few ≡ false
  enough h = go same few refl h
    where
      go : (s t : Bool) → few ≡ t → number_of (cased s t) ≡ 0 → few ≡ false
      go true true f g = absurd (omega arith)
      go true false f g = f
      go false t f g = absurd (omega arith)

-- ---- every place
module _ (bytes lengths : List ℕ) (figures : List ℤ) (outcomes : List ℕ) where
  abbrev run : Answer
  run = run_answer bytes lengths (length figures) (length outcomes)

  abbrev accounts : List (List ℕ)
  accounts = accounts_of lengths bytes

  -- the lent numbers, by whether the run is accepted
  figures_by : (t : Bool) → not_refused run ≡ t → run_figures bytes lengths (length outcomes) figures ≡ cond t (each_figures accounts figures) figures
  figures_by t e = ap (λ (t : Bool). cond t (each_figures accounts figures) figures) e

  outcomes_by : (t : Bool) → not_refused run ≡ t → run_outcomes bytes lengths (length figures) outcomes ≡ cond t (each_outcome accounts outcomes) outcomes
  outcomes_by t e = ap (λ (t : Bool). cond t (each_outcome accounts outcomes) outcomes) e

  untouched : (number_of run ≡ 0 → ⊥) → Untouched bytes lengths figures outcomes
  untouched h = let no = ne_eqb (number_of run) 0 h in record { figures_are = figures_by false no; outcome_is = outcomes_by false no }

  each_account : number_of run ≡ 0 → EachAccount bytes lengths figures outcomes
  each_account h = record {
    figures_are = λ i g.
        ap (place longest_figures i) fs
        ∙ placed longest_figures after_figures keeps_figures accounts figures figures-room i (there i g)
        ∙ ap (λ (a : List ℕ). after_figures a (place longest_figures i figures)) (account_at_lem lengths bytes i g);
    outcome_is = λ i g.
        ap (place outcome_numbers i) ts
        ∙ placed outcome_numbers after_outcome keeps_outcome accounts outcomes outcomes_room i (there i g)
        ∙ ap (λ (a : List ℕ). outcome_of (figures_answer a longest_figures)) (account_at_lem lengths bytes i g);
    figures-after =
        ap (drop (longest_figures * length lengths)) fs
        ∙ subst (λ (n : ℕ). drop (longest_figures * n) (each_figures accounts figures) ≡ drop (longest_figures * n) figures) count
        (past longest_figures after_figures keeps_figures accounts figures figures-room);
    outcomes_after =
        ap (drop (outcome_numbers * length lengths)) ts
        ∙ subst (λ (n : ℕ). drop (outcome_numbers * n) (each_outcome accounts outcomes) ≡ drop (outcome_numbers * n) outcomes) count
        (past outcome_numbers after_outcome keeps_outcome accounts outcomes outcomes_room);
  }
    where
      yes : not_refused run ≡ true
      yes = eq-eqb (number_of run) 0 h

      fs : run_figures bytes lengths (length outcomes) figures ≡ each_figures accounts figures
      fs = figures_by true yes

      ts : run_outcomes bytes lengths (length figures) outcomes ≡ each_outcome accounts outcomes
      ts = outcomes_by true yes

      count : length accounts ≡ length lengths
      count = accounts_length lengths bytes

      rooms : (longest_figures * length lengths ≤ length figures) × (outcome_numbers * length lengths ≤ length outcomes)
      rooms = room (length lengths) (length figures) (length outcomes) (enough bytes lengths (length figures) (length outcomes) h)

      figures-room : longest_figures * length accounts ≤ length figures
      figures-room = let e = count in let r = rooms.0 in omega arith

      outcomes_room : outcome_numbers * length accounts ≤ length outcomes
      outcomes_room = let e = count in let r = rooms.1 in omega arith

      there : (i : ℕ) → i < length lengths → i < length accounts
      there i g = let e = count in omega arith

pub claims : (bytes lengths : List ℕ) (figures : List ℤ) (outcomes : List ℕ) → Claims bytes lengths figures outcomes
claims bytes lengths figures outcomes = record {
  verdict = verdict;
  exactly = exactly bytes lengths (length figures) (length outcomes);
  refused = untouched bytes lengths figures outcomes;
  accepted = each_account bytes lengths figures outcomes;
}
