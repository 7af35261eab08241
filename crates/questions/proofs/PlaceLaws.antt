-- All questions at once: in the place of each stands what the question by itself writes there.
-- Assumes nothing.
use Rattle.std.specs.Prelude.{Ok}
use Prim.Native.Nat.{ℕ, zero, suc, ◌*◌}
use mathlib.Core.Path.{◌≡◌, refl, sym, ap, ◌∙◌}
use mathlib.Core.Bool.{Bool, true, false, cond}
use mathlib.Core.List.{List}
use borrow.Author.Tests.{eqb-true, eqb-false}
use lib.IntN.{ℤ}
use lib.ListN.{length, drop}
use Rattle.account.specs.Answers.{number_of}
use Rattle.account.specs.Checked.{checked}
use Rattle.account.specs.Noon.{of_joined, clear, joined_verdict}
use Rattle.account.specs.Records.{records}
use Rattle.account.specs.Joined.{account_of}
use Rattle.account.specs.Answers.{Answer}
use Rattle.account.specs.declared.noon.Verdict.{Verdict}
use Rattle.account.proofs.NoonLaws.{stops, goes}
use Rattle.account.proofs.AcceptedOnly.{some}
use Rattle.margin.specs.Places.{questions, question_of, width_of, place, all_over, after_all_over, EachPlace}
use Rattle.margin.specs.Questions.{not_refused, numbers_for, answer_over, afterwards}
use Rattle.margin.proofs.PlaceLaws.{all_places}
use Rattle.margin.proofs.QuestionLaws.{accepted_only, if_refused, if_accepted_lem}
use Rattle.questions.specs.Noon.{joined_all, after_joined, after_joined_all}
use Rattle.questions.specs.Questions.{all_to, after_to, after_all_to}

-- the same places, by what another name calls what is written there
as-named : (width : ℕ) (after after' : ℕ → List ℤ → List ℤ) (lent left left' : List ℤ)
    → ((q : ℕ) (xs : List ℤ) → after' q xs ≡ after q xs) → left' ≡ left → EachPlace width after lent left → EachPlace width after' lent left'
as-named width after after' lent left left' same e p =
    record {
      each = λ q h. ap (place width q) e ∙ p.each q h ∙ sym (same q (place width q lent));
      rest = ap (drop (width * questions)) e ∙ p.rest;
    }

-- ---- of a file

pub file_places : (paid : Bool) (file : List ℕ) (lent : List ℤ) → all_to paid file (length lent) ≡ Ok tt
    → EachPlace (width_of paid) (λ q. after_to file (question_of paid q)) lent (after_all_to paid file lent)
file_places paid file lent given = go (number_of (checked file)) refl
  where
    go : (n : ℕ) → number_of (checked file) ≡ n → EachPlace (width_of paid) (λ q. after_to file (question_of paid q)) lent (after_all_to paid file lent)
    go zero e =
        let ok = accepted_only (checked file) e in
        as-named (width_of paid) _ _ lent _ _
        (λ q xs.
        ap (λ (a : Answer). afterwards a (numbers_for (records file) (question_of paid q)) xs)
        (if_accepted_lem (checked file) (answer_over (records file) (question_of paid q) (length xs)) ok))
        (ap (λ (a : Answer). cond (not_refused a) (after_all_over paid (records file) lent) lent) ok)
        (all_places paid (records file) lent (sym (if_accepted_lem (checked file) (all_over paid (records file) (length lent)) ok) ∙ given))
    go (suc k) e =
        let h : number_of (checked file) ≡ 0 → ⊥ = λ z. some (sym e ∙ z) in
        absurd (h (ap number_of (sym (if_refused (checked file) (all_over paid (records file) (length lent)) h) ∙ given)))

-- ---- of a pair of files

pub pair_places : (paid : Bool) (morning noon : List ℕ) (lent : List ℤ) → joined_all paid morning noon (length lent) ≡ of_joined (Ok tt)
    → EachPlace (width_of paid) (λ q. after_joined morning noon (question_of paid q)) lent (after_joined_all paid morning noon lent)
pair_places paid morning noon lent given = go (clear (joined_verdict morning noon)) refl
  where
    go : (t : Bool) → clear (joined_verdict morning noon) ≡ t
        → EachPlace (width_of paid) (λ q. after_joined morning noon (question_of paid q)) lent (after_joined_all paid morning noon lent)
    go true c =
        let z = eqb-true (number_of (joined_verdict morning noon).answer) 0 c in
        as-named (width_of paid) _ _ lent _ _
        (λ q xs.
        ap (λ (v : Verdict). afterwards v.answer (numbers_for (account_of morning noon) (question_of paid q)) xs)
        (goes (joined_verdict morning noon) (of_joined (answer_over (account_of morning noon) (question_of paid q) (length xs))) z))
        (ap (λ (t : Bool). cond t (after_all_over paid (account_of morning noon) lent) lent) c)
        (all_places paid (account_of morning noon) lent (ap (λ (v : Verdict). v.answer) (sym (goes (joined_verdict morning noon) _ z) ∙ given)))
    go false c =
        let h = eqb-false (number_of (joined_verdict morning noon).answer) 0 c in
        absurd (h (ap (λ (v : Verdict). number_of v.answer) (sym (stops (joined_verdict morning noon) _ h) ∙ given)))
