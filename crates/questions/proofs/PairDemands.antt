-- Demand 1 over a pair of files: what comes after the pair's own verdict.
-- Assumes nothing.
use Rattle.std.specs.Prelude.{Ok, Err}
use Prim.Native.Nat.{ℕ, ◌≤◌}
use native.Mathlib.Omega.{arith}
use mathlib.Core.Path.{◌≡◌, refl, sym, ap, subst⁻¹, ◌∙◌}
use mathlib.Core.Bool.{Bool, true, false, ◌||◌, cond, false≢true}
use mathlib.Core.List.{List}
use mathlib.Core.Logic.{◌⊎◌, ⊎_elim}
use borrow.Author.Tests.{eqb-true, eqb-false, ne_eqb, eq-eqb, ltb-false, le-ltb}
use lib.Dec.{ltb}
use lib.IntN.{ℤ, pos, negsuc, nat_abs}
use lib.ListN.{length}
use Rattle.record.specs.Layout.{Record}
use Rattle.record.proofs.Within.{neither}
use Rattle.account.specs.Answers.{number_of, record_of}
use Rattle.exact.specs.Iff.{Iff}
use Rattle.account.specs.Noon.{of_joined, clear, ◌then◌, joined_verdict}
use Rattle.account.specs.PairClaims.{OfMorning, OfNoon, OfJoined}
use Rattle.account.specs.Joined.{account_of}
use Rattle.account.specs.Answers.{Answer}
use Rattle.account.specs.declared.answers.Refusal.TheVariants.{AmountOutside}
use Rattle.account.specs.declared.noon.Verdict.{Verdict}
use Rattle.account.proofs.NoonLaws.{stops, goes}
use Rattle.account.proofs.PairClaimed.{pair_claimed, pair_saying}
use Rattle.margin.specs.declared.asking.Question.{Question}
use Rattle.margin.specs.declared.asking.Question.TheVariants.{Figures}
use Rattle.margin.specs.Questions.{numbers_for, answer_over}
use Rattle.questions.specs.Noon.{joined_answer, requirement, cover_call, most_amount, beyond_amount, amounts_within, call_verdict}
use Rattle.questions.specs.PairDemands.{NamesAll, PairQuestion, PairFigures, InRange, PairCall, PairDemand1}
use Rattle.questions.proofs.AskingLaws.{asking, lent_after}

-- ---- the verdict on a pair, and what is asked next where it is clear

late_number : (v : Verdict) → OfMorning v ⊎ (OfNoon v ⊎ OfJoined v) → (n : ℕ) → (n ≡ 0 → ⊥) → 10 ≤ n → (n ≡ 12 → ⊥) → (13 ≤ n → n ≤ 15 → ⊥)
    → number_of v.answer ≡ n → ⊥
late_number v said n z l a b e =
    ⊎_elim (λ m. omega (arith, m.most, e))
    (⊎_elim (λ w. ⊎_elim (λ (i, h). omega (arith, h, e)) (λ i. a (sym e ∙ i)) w.number)
    (λ j. ⊎_elim (λ i. z (sym e ∙ i)) (λ (i, h). b (omega (arith, i, e)) (omega (arith, h, e))) j.number))
    said

module _ (morning noon : List ℕ) where
  abbrev verdict : Verdict
  verdict = joined_verdict morning noon

  abbrev account : List Record
  account = account_of morning noon

  -- a refused pair gives none of 10, 11 and 21, and is not accepted
  never : clear verdict ≡ false → (n : ℕ) → (n ≡ 0 → ⊥) → 10 ≤ n → (n ≡ 12 → ⊥) → (13 ≤ n → n ≤ 15 → ⊥) → number_of verdict.answer ≡ n → ⊥
  never c n = late_number verdict (pair_saying morning noon) n

  some_number : clear verdict ≡ false → number_of verdict.answer ≡ 0 → ⊥
  some_number c = eqb-false (number_of verdict.answer) 0 c

  -- the verdict followed by an answer of the joined account
  module _ (next : Answer) where
    abbrev given : Verdict
    given = verdict then of_joined next

    if_refused : clear verdict ≡ false → given ≡ verdict
    if_refused c = stops verdict (of_joined next) (some_number c)

    if_clear : clear verdict ≡ true → given ≡ of_joined next
    if_clear c = goes verdict (of_joined next) (eqb-true (number_of verdict.answer) 0 c)

    -- a number that a refused pair does not give is given exactly where the pair is clear and the answer has it
    gives : (n : ℕ) → (clear verdict ≡ false → number_of verdict.answer ≡ n → ⊥)
        → Iff (number_of given.answer ≡ n) ((clear verdict ≡ true) × (number_of next ≡ n))
    gives n other =
        record {
          forth = λ e. go (clear verdict) refl e;
          back = λ (c, e). ap (λ (v : Verdict). number_of v.answer) (if_clear c) ∙ e;
        }
      where
        go : (t : Bool) → clear verdict ≡ t → number_of given.answer ≡ n → (clear verdict ≡ true) × (number_of next ≡ n)
        go true c e = (c, ap (λ (v : Verdict). number_of v.answer) (sym (if_clear c)) ∙ e)
        go false c e = absurd (other c (ap (λ (v : Verdict). number_of v.answer) (sym (if_refused c)) ∙ e))

    gives_late : (n : ℕ) → 10 ≤ n → (n ≡ 12 → ⊥) → (13 ≤ n → n ≤ 15 → ⊥) → Iff (number_of given.answer ≡ n) ((clear verdict ≡ true) × (number_of next ≡ n))
    gives_late n l a b = gives n (λ c. never c n (λ e. omega arith) l a b)

    names : (1 ≤ number_of next → record_of next ≡ length account) → clear verdict ≡ true → 1 ≤ number_of given.answer → NamesAll morning noon given
    names r c l =
        subst⁻¹ (NamesAll morning noon) (if_clear c)
        (record { of = refl; place = r (let e = ap (λ (v : Verdict). number_of v.answer) (if_clear c) in omega (arith, l, e)) })

  -- ---- a question
  pub pair_question : (question : Question) (lent : ℕ) → PairQuestion morning noon question lent
  pair_question question lent =
      let next = answer_over account question lent in
      let over = asking account question lent in
      let a = gives_late next 11 (omega arith) (λ e. omega arith) (λ l h. omega arith) in
      let b = gives_late next 10 (omega arith) (λ e. omega arith) (λ l h. omega arith) in
      let z = gives next 0 some_number in
      record {
        refused = if_refused next;
        eleven = record { forth = λ e. let x = a.forth e in (x.0, over.eleven.forth x.1); back = λ (c, h). a.back (c, over.eleven.back h) };
        ten = record { forth = λ e. let x = b.forth e in (x.0, over.ten.forth x.1); back = λ (c, h). b.back (c, over.ten.back h) };
        accepted = record { forth = λ e. let x = z.forth e in (x.0, over.accepted.forth x.1); back = λ (c, h). z.back (c, over.accepted.back h) };
        named = names next over.named;
      }

  pair_figures : (lent : ℕ) → PairFigures morning noon lent
  pair_figures lent =
      let asked = pair_question Figures lent in
      record {
        refused = asked.refused;
        ten = record { forth = λ e. let x = asked.ten.forth e in (x.0, x.1.1); back = λ (c, h). asked.ten.back (c, (refl, h)) };
        accepted = record { forth = λ e. let x = asked.accepted.forth e in (x.0, x.1.1); back = λ (c, h). asked.accepted.back (c, (refl, h)) };
        named = asked.named;
      }

  -- ---- the call
  module _ (last threshold collateral : ℤ) where
    abbrev outside : Bool
    outside = (beyond_amount last || beyond_amount threshold) || beyond_amount collateral

    abbrev amounts : Answer
    amounts = amounts_within (length account) last threshold collateral

    amounts_if : (t : Bool) → outside ≡ t → amounts ≡ cond t (Err (AmountOutside (length account))) (Ok tt)
    amounts_if t e = ap (λ (b : Bool). cond b (Err (AmountOutside (length account))) (Ok tt)) e

    beyond : Iff (number_of amounts ≡ 21) (outside ≡ true)
    beyond = record { forth = λ e. go outside refl e; back = λ a. ap number_of (amounts_if true a) }
      where
        go : (t : Bool) → outside ≡ t → number_of amounts ≡ 21 → outside ≡ true
        go true a e = a
        go false a e = let d = sym (ap number_of (amounts_if false a)) ∙ e in absurd (omega arith)

    inside : Iff (number_of amounts ≡ 0) (outside ≡ false)
    inside = record { forth = λ e. go outside refl e; back = λ a. ap number_of (amounts_if false a) }
      where
        go : (t : Bool) → outside ≡ t → number_of amounts ≡ 0 → outside ≡ false
        go true a e = let d = sym (ap number_of (amounts_if true a)) ∙ e in absurd (omega arith)
        go false a e = a

    amounts_name : 1 ≤ number_of amounts → record_of amounts ≡ length account
    amounts_name l = go outside refl
      where
        go : (t : Bool) → outside ≡ t → record_of amounts ≡ length account
        go true a = ap record_of (amounts_if true a)
        go false a = let d = ap number_of (amounts_if false a) in absurd (omega (arith, d, l))

    pub pair_call : PairCall morning noon last threshold collateral
    pair_call =
        let a = gives_late amounts 21 (omega arith) (λ e. omega arith) (λ l h. omega arith) in
        let z = gives amounts 0 some_number in
        let due = cover_call (requirement account) (nat_abs last) (nat_abs threshold) (nat_abs collateral) in
        record {
          refused = if_refused amounts;
          twenty_one = record { forth = λ e. let x = a.forth e in (x.0, beyond.forth x.1); back = λ (c, h). a.back (c, beyond.back h) };
          accepted = record { forth = λ e. let x = z.forth e in (x.0, inside.forth x.1); back = λ (c, h). z.back (c, inside.back h) };
          named = names amounts amounts_name;
          nothing = λ h. ap (λ (t : Bool). cond t due 0) (ne_eqb (number_of (call_verdict morning noon last threshold collateral).answer) 0 h);
          called = λ h. ap (λ (t : Bool). cond t due 0) (eq-eqb (number_of (call_verdict morning noon last threshold collateral).answer) 0 h);
        }

-- ---- an amount in its range

in_range : (z : ℤ) → Iff (beyond_amount z ≡ false) (InRange z)
in_range (pos n) =
    record {
      forth = λ e. record { size = n; is = refl; most = ltb-false most_amount n (neither (ltb n 0) (ltb most_amount n) e).1 };
      back = λ r. subst⁻¹ (λ (z : ℤ). beyond_amount z ≡ false) r.is (within r.size r.most);
    }
  where
    within : (k : ℕ) → k ≤ most_amount → beyond_amount (pos k) ≡ false
    within k h = ap (λ (t : Bool). t || ltb most_amount k) (le-ltb k 0 (omega arith)) ∙ le-ltb most_amount k h
in_range (negsuc n) =
    record {
      forth = λ e. absurd (false≢true (sym e));
      back = λ r. subst⁻¹ (λ (z : ℤ). beyond_amount z ≡ false) r.is (within r.size r.most);
    }
  where
    within : (k : ℕ) → k ≤ most_amount → beyond_amount (pos k) ≡ false
    within k h = ap (λ (t : Bool). t || ltb most_amount k) (le-ltb k 0 (omega arith)) ∙ le-ltb most_amount k h

pub pair_demand1 : (morning noon : List ℕ) → PairDemand1 morning noon
pair_demand1 morning noon =
    record {
      check = pair_claimed morning noon;
      call = pair_call morning noon;
      amounts = in_range;
      question = pair_question morning noon;
      figures = pair_figures morning noon;
      after = λ question lent. lent_after (joined_answer morning noon question (length lent)).answer (numbers_for (account_of morning noon) question) lent;
    }
