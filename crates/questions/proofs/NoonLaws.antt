-- What a question over a pair of files answers and leaves behind, and the call.
-- Assumes nothing.
use Rattle.std.specs.Prelude.{Ok, Err}
use Prim.Native.Nat.{ℕ, ◌+◌, ◌-◌, ◌≤◌, ◌<◌, zero-le}
use mathlib.Core.Path.{◌≡◌, sym, ap, ◌∙◌}
use mathlib.Core.Bool.{Bool, true, false, ◌&&◌, ◌||◌, cond, false≢true}
use mathlib.Core.List.{List}
use borrow.Author.Tests.{ne_eqb, eq-eqb, lt-ltb, le-ltb, ltb-false}
use lib.Dec.{ltb}
use lib.IntN.{ℤ, pos, negsuc, nat_abs}
use lib.ListN.{length}
use Rattle.record.specs.Layout.{Record}
use Rattle.record.proofs.Within.{neither}
use Rattle.account.specs.Answers.{number_of}
use Rattle.account.specs.Noon.{of_joined, clear, ◌then◌, joined_verdict}
use Rattle.account.specs.code.Pair.{PairBy}
use Rattle.account.specs.code.Standing.{Stands}
use Rattle.account.specs.Joined.{account_of}
use Rattle.account.specs.Answers.{Answer}
use Rattle.account.specs.declared.answers.Refusal.TheVariants.{AmountOutside}
use Rattle.account.specs.declared.noon.CheckedPair.{CheckedPair}
use Rattle.account.specs.declared.noon.Verdict.{Verdict}
use Rattle.account.proofs.NoonLaws.{stops, goes, joined_accepted}
use Rattle.account.proofs.AcceptedOnly.{some}
use Rattle.formulas.specs.declared.amount.Amount.{Amount}
use Rattle.margin.specs.declared.asking.Question.{Question}
use Rattle.margin.specs.Places.{all_over, after_all_over}
use Rattle.margin.specs.Questions.{numbers_for, answer_over, after_over, afterwards, need_over, most_for}
use Rattle.margin.proofs.QuestionLaws.{after_refused}
use Rattle.questions.specs.declared.noon.AskedPair.{AskedPair}
use Rattle.questions.specs.Noon.{joined_answer, after_joined, joined_need, joined_all, after_joined_all, requirement, cover_call, most_amount, beyond_amount}
use Rattle.questions.specs.Noon.{amounts_within, call_verdict, joined_call}

module _ (morning noon : List ℕ) (r : CheckedPair) (by : PairBy morning noon r) where
  abbrev account : List Record
  account = account_of morning noon

  -- ---- a refused pair
  module _ (h : number_of r.verdict.answer ≡ 0 → ⊥) where
    not-clear : clear (joined_verdict morning noon) ≡ false
    not-clear = ap clear (sym by.verdict_is) ∙ ne_eqb (number_of r.verdict.answer) 0 h

    pub pair_refused : (next : Verdict) → joined_verdict morning noon then next ≡ r.verdict
    pair_refused next = ap (λ (v : Verdict). v then next) (sym by.verdict_is) ∙ stops r.verdict next h

    pub answer_refused : (question : Question) (lent : List ℤ)
        → (r.verdict ≡ joined_answer morning noon question (length lent)) × (lent ≡ after_joined morning noon question lent)
    answer_refused question lent =
        let numbers = numbers_for account question in
        let e = pair_refused (of_joined (answer_over account question (length lent))) in
        (sym e, sym (ap (λ (v : Verdict). afterwards v.answer numbers lent) e ∙ after_refused r.verdict.answer numbers lent h))

    pub none_needed : (question : Question) → (0 ≡ joined_need morning noon question) × (0 ≤ most_for question)
    none_needed question = (sym (ap (λ (t : Bool). cond t (need_over account question) 0) not-clear), zero-le)

    pub all_refused : (paid : Bool) (lent : List ℤ)
        → (r.verdict ≡ joined_all paid morning noon (length lent)) × (lent ≡ after_joined_all paid morning noon lent)
    all_refused paid lent =
        (sym (pair_refused (of_joined (all_over paid account (length lent)))), sym (ap (λ (t : Bool). cond t (after_all_over paid account lent) lent) not-clear))

  -- ---- one that is not refused
  module _ (z : number_of r.verdict.answer ≡ 0) where
    unrefused : clear (joined_verdict morning noon) ≡ true
    unrefused = ap clear (sym by.verdict_is) ∙ eq-eqb (number_of r.verdict.answer) 0 z

    pub pair_stands : Stands morning noon r.account
    pair_stands = by.stands unrefused

    pair_accepted : r.verdict ≡ of_joined (Ok tt)
    pair_accepted = by.verdict_is ∙ joined_accepted morning noon unrefused

    pair_asked : (next : Verdict) → joined_verdict morning noon then next ≡ next
    pair_asked next = ap (λ (v : Verdict). v then next) (sym by.verdict_is) ∙ goes r.verdict next z

    pub answer_accepted : (question : Question) (lent left : List ℤ) (a : Answer) (v : Verdict) → v ≡ of_joined a
        → (a ≡ answer_over account question (length lent)) × (left ≡ after_over account question lent)
        → (v ≡ joined_answer morning noon question (length lent)) × (left ≡ after_joined morning noon question lent)
    answer_accepted question lent left a v of (is, has) =
        let e = sym (pair_asked (of_joined (answer_over account question (length lent)))) in
        (of ∙ ap of_joined is ∙ e, has ∙ ap (λ (w : Verdict). afterwards w.answer (numbers_for account question) lent) e)

    pub needed_accepted : (question : Question) (n : ℕ) → (n ≡ need_over account question) × (n ≤ most_for question)
        → (n ≡ joined_need morning noon question) × (n ≤ most_for question)
    needed_accepted question n (is, most) = (is ∙ sym (ap (λ (t : Bool). cond t (need_over account question) 0) unrefused), most)

    pub all_accepted : (paid : Bool) (lent left : List ℤ) (a : Answer) (v : Verdict) → v ≡ of_joined a
        → (a ≡ all_over paid account (length lent)) × (left ≡ after_all_over paid account lent)
        → (v ≡ joined_all paid morning noon (length lent)) × (left ≡ after_joined_all paid morning noon lent)
    all_accepted paid lent left a v of (is, has) = (
      of ∙ ap of_joined is ∙ sym (pair_asked (of_joined (all_over paid account (length lent)))),
      has ∙ sym (ap (λ (t : Bool). cond t (after_all_over paid account lent) lent) unrefused),
    )

  -- ---- the call
  module _ (last threshold collateral : ℤ) where
    abbrev outside : Bool
    outside = (beyond_amount last || beyond_amount threshold) || beyond_amount collateral

    abbrev due : ℕ
    due = cover_call (requirement account) (nat_abs last) (nat_abs threshold) (nat_abs collateral)

    amounts_if : (t : Bool) → outside ≡ t
        → of_joined (amounts_within (length account) last threshold collateral) ≡ of_joined (cond t (Err (AmountOutside (length account))) (Ok tt))
    amounts_if t e = ap (λ (b : Bool). of_joined (cond b (Err (AmountOutside (length account))) (Ok tt))) e

    -- a refusal calls for nothing
    told : (v : Verdict) → call_verdict morning noon last threshold collateral ≡ v → (number_of v.answer ≡ 0 → ⊥)
        → record { verdict = v; amount = record { 0 = 0 } } ≡ joined_call morning noon last threshold collateral
    told v e h =
        let q : cond (clear (call_verdict morning noon last threshold collateral)) due 0 ≡ 0 =
        ap (λ (t : Bool). cond t due 0) (ap clear e ∙ ne_eqb (number_of v.answer) 0 h)
        in
        λ i. record { verdict = sym e i; amount = record { 0 = sym q i } }

    pub call_refused : (number_of r.verdict.answer ≡ 0 → ⊥)
        → record { verdict = r.verdict; amount = record { 0 = 0 } } ≡ joined_call morning noon last threshold collateral
    call_refused h = told r.verdict (pair_refused h _) h

    module _ (z : number_of r.verdict.answer ≡ 0) where
      pub call_outside : outside ≡ true → (n : ℕ) → n ≡ r.account.records → (v : Verdict) → v ≡ of_joined (Err (AmountOutside n))
          → record { verdict = v; amount = record { 0 = 0 } } ≡ joined_call morning noon last threshold collateral
      call_outside out n is v of =
          let e = of ∙ ap (λ (k : ℕ). of_joined (Err (AmountOutside k))) (is ∙ (pair_stands z).places.all) in
          told v (pair_asked z _ ∙ amounts_if true out ∙ sym e) (λ no. some (sym (ap (λ (w : Verdict). number_of w.answer) e) ∙ no))

      pub call_made : outside ≡ false → (a : Amount) → a.0 ≡ due
          → record { verdict = r.verdict; amount = a } ≡ joined_call morning noon last threshold collateral
      call_made in_range a d =
          let e : call_verdict morning noon last threshold collateral ≡ of_joined (Ok tt) = pair_asked z _ ∙ amounts_if false in_range in
          let q : cond (clear (call_verdict morning noon last threshold collateral)) due 0 ≡ due = ap (λ (v : Verdict). cond (clear v) due 0) e in
          λ i. record { verdict = (pair_accepted z ∙ sym e) i; amount = record { 0 = (d ∙ sym q) i } }

-- all questions at once are answered in one way
pub one_asked_pair : (a b c : Verdict) (r s : AskedPair) → (r.figures ≡ a) × ((r.books ≡ b) × (r.uses ≡ c))
    → (s.figures ≡ a) × ((s.books ≡ b) × (s.uses ≡ c)) → r ≡ s
one_asked_pair a b c r s (x, (y, z)) (x', (y', z')) =
    λ i. record { figures = (x ∙ sym x') i; books = (y ∙ sym y') i; uses = (z ∙ sym z') i }

-- ---- the amounts of a call

pub amount_within : (z : ℤ) → beyond_amount z ≡ false → nat_abs z ≤ most_amount
amount_within (pos n) e = ltb-false most_amount n (neither (ltb n 0) (ltb most_amount n) e).1
amount_within (negsuc n) e = absurd (false≢true (sym e))

pub no_call : (required last threshold collateral : ℕ) → required ≤ last + threshold → cover_call required last threshold collateral ≡ 0
no_call required last threshold collateral h =
    ap (λ (t : Bool). cond (t && ltb collateral required) (required - collateral) 0) (le-ltb (last + threshold) required h)

module _ (required last threshold collateral : ℕ) (h : last + threshold < required) where
  over : (t : Bool) → ltb collateral required ≡ t → cover_call required last threshold collateral ≡ cond t (required - collateral) 0
  over t e =
      ap (λ (u : Bool). cond (u && ltb collateral required) (required - collateral) 0) (lt-ltb (last + threshold) required h)
      ∙ ap (λ (u : Bool). cond u (required - collateral) 0) e

  pub covered : required ≤ collateral → cover_call required last threshold collateral ≡ 0
  covered k = over false (le-ltb collateral required k)

  pub called : collateral < required → cover_call required last threshold collateral ≡ required - collateral
  called k = over true (lt-ltb collateral required k)
