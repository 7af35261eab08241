-- What a question put to an account is answered: 11, then 10.
-- Assumes nothing.
use Rattle.std.specs.Prelude.{Ok, Err}
use Prim.Native.Nat.{ℕ, ◌≤◌, ◌<◌}
use native.Mathlib.Omega.{arith}
use mathlib.Core.Path.{◌≡◌, refl, ap, subst⁻¹, ◌∙◌}
use mathlib.Core.Bool.{Bool, true, false, cond}
use mathlib.Core.List.{List}
use borrow.Author.Tests.{ltb-true, ltb-false, lt-ltb, le-ltb}
use lib.Dec.{ltb}
use lib.IntN.{ℤ}
use lib.ListN.{length}
use Rattle.record.specs.Layout.{Record}
use Rattle.account.specs.Answers.{number_of, record_of}
use Rattle.account.specs.Answers.{Answer}
use Rattle.account.specs.declared.answers.Refusal.TheVariants.{TooFewNumbers, NoSuchQuestion}
use Rattle.margin.specs.declared.asking.Question.{Question}
use Rattle.margin.specs.Questions.{if_accepted, numbers_for, answers, enough, answer_over, afterwards}
use Rattle.margin.proofs.QuestionLaws.{accepted_only, after_refused}
use Rattle.questions.specs.Demands.{Asking, Lent}

module _ (account : List Record) (question : Question) (lent : ℕ) where
  abbrev many : ℕ
  many = length (numbers_for account question)

  abbrev room : Answer
  room = enough account (numbers_for account question) lent

  room_if : (t : Bool) → ltb lent many ≡ t → room ≡ cond t (Err (TooFewNumbers (length account))) (Ok tt)
  room_if t e = ap (λ (b : Bool). cond b (Err (TooFewNumbers (length account))) (Ok tt)) e

  given : Answer
  given = answer_over account question lent

  given_if : (t : Bool) → answers account question ≡ t → given ≡ cond t room (Err (NoSuchQuestion (length account)))
  unfolding given
  given_if t e = ap (λ (b : Bool). if_accepted (cond b (Ok tt) (Err (NoSuchQuestion (length account)))) room) e ∙ go t
    where
      go : (b : Bool) → if_accepted (cond b (Ok tt) (Err (NoSuchQuestion (length account)))) room ≡ cond b room (Err (NoSuchQuestion (length account)))
      go true = refl
      go false = refl

  -- the three that there are
  unasked : answers account question ≡ false → given ≡ (Err (NoSuchQuestion (length account)))
  unasked a = given_if false a

  few : answers account question ≡ true → lent < many → given ≡ (Err (TooFewNumbers (length account)))
  few a h = given_if true a ∙ room_if true (lt-ltb lent many h)

  full : answers account question ≡ true → many ≤ lent → given ≡ Ok tt
  full a h = given_if true a ∙ room_if false (le-ltb lent many h)

  -- one of them is given
  by_cases : (P : Answer → Type 0) → (answers account question ≡ false → P (Err (NoSuchQuestion (length account))))
      → (answers account question ≡ true → lent < many → P (Err (TooFewNumbers (length account))))
      → (answers account question ≡ true → many ≤ lent → P (Ok tt)) → P given
  by_cases P none less all = go (answers account question) refl (ltb lent many) refl
    where
      go : (t : Bool) → answers account question ≡ t → (u : Bool) → ltb lent many ≡ u → P given
      go false a u b = subst⁻¹ P (unasked a) (none a)
      go true a true b = subst⁻¹ P (few a (ltb-true lent many b)) (less a (ltb-true lent many b))
      go true a false b = subst⁻¹ P (full a (ltb-false lent many b)) (all a (ltb-false lent many b))

  pub asking : Asking account question lent
  unfolding given
  asking =
      record {
        eleven =
            record {
              forth =
                  by_cases (λ a. number_of a ≡ 11 → answers account question ≡ false) (λ a e. a) (λ a h e. absurd (omega arith))
                  (λ a h e. absurd (omega arith));
              back = λ a. ap number_of (unasked a);
            };
        ten =
            record {
              forth =
                  by_cases (λ a. number_of a ≡ 10 → (answers account question ≡ true) × (lent < many)) (λ a e. absurd (omega arith)) (λ a h e. (a, h))
                  (λ a h e. absurd (omega arith));
              back = λ (a, h). ap number_of (few a h);
            };
        accepted =
            record {
              forth =
                  by_cases (λ a. number_of a ≡ 0 → (answers account question ≡ true) × (many ≤ lent)) (λ a e. absurd (omega arith))
                  (λ a h e. absurd (omega arith)) (λ a h e. (a, h));
              back = λ (a, h). ap number_of (full a h);
            };
        named = by_cases (λ a. 1 ≤ number_of a → record_of a ≡ length account) (λ a l. refl) (λ a h l. refl) (λ a h l. absurd (omega arith));
      }

-- ---- lent memory

pub lent_after : (a : Answer) (answer lent : List ℤ) → Lent a answer lent (afterwards a answer lent)
lent_after a answer lent =
    record {
      untouched = after_refused a answer lent;
      written = λ z. ap (λ (x : Answer). afterwards x answer lent) (accepted_only a z);
    }
