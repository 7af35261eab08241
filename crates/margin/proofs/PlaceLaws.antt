-- All questions at once, each in its place: what is written in one place leaves the others alone.
-- Assumes nothing.
use Rattle.std.specs.Prelude.{Ok, Err}
use Prim.Native.Nat.{ℕ, zero, suc, ◌+◌, ◌-◌, ◌*◌, ◌≤◌, ◌<◌}
use native.Mathlib.Decide.{ℕ_discrete}
use native.Mathlib.Nat.{mul-suc, mul-le-mul_left}
use native.Mathlib.Omega.{arith}
use mathlib.Core.Path.{◌≡◌, refl, sym, ap, ap₂, subst, ◌∙◌}
use mathlib.Core.Bool.{Bool, true, false, cond}
use mathlib.Core.List.{List, ◌++◌}
use borrow.Rule.Slice.PartMut.{put_mid, Post-is}
use borrow.Author.Tests.{eqb-true, ltb-false}
use lib.Dec.{ltb}
use lib.IntN.{ℤ}
use lib.ListN.{length, length-append, length-drop, take, drop, take-append-drop}
use lib.Seq.{length-take-le, take_at, drop_at, take-append-le, drop-append-le, drop-append-add, drop-drop}
use Rattle.record.specs.Layout.{Record}
use Rattle.account.specs.Answers.{number_of}
use Rattle.account.specs.Answers.{Answer}
use Rattle.account.specs.declared.answers.Refusal.TheVariants.{TooFewNumbers}
use Rattle.margin.specs.Books.{answered}
use Rattle.margin.specs.Places.{questions, at_place, after_each, each_over, after_each_over, question_of, width_of, all_over, after_all_over, place, EachPlace}
use Rattle.margin.specs.Questions.{not_refused, answers, numbers_for, answer_over, after_over}
use Rattle.margin.specs.declared.asking.Question.{Question}
use Rattle.margin.proofs.QuestionLaws.{not-asked, then_enough}

-- ---- one place

module _ (width at : ℕ) (change : List ℤ → List ℤ) (keeps : (xs : List ℤ) → length (change xs) ≡ length xs) (l : List ℤ) (h : at + width ≤ length l) where
  abbrev mid : List ℤ
  mid = take width (drop at l)

  abbrev rest : List ℤ
  rest = drop (at + width) l

  front : length (take at l) ≡ at
  front = length-take-le at l (omega arith)

  middle : length (change mid) ≡ width
  middle = keeps mid ∙ length-take-le width (drop at l) (let d = length-drop at l in omega arith)

  at_length : length (at_place width at change l) ≡ length l
  at_length =
      length-append (take at l) (change mid ++ rest)
      ∙ ap₂ ◌+◌ front (length-append (change mid) rest ∙ ap₂ ◌+◌ middle (length-drop (at + width) l))
      ∙ (omega arith)

  at_here : take width (drop at (at_place width at change l)) ≡ change (take width (drop at l))
  at_here = ap (take width) (drop_at (take at l) (change mid ++ rest) at front) ∙ take_at (change mid) rest width middle

  front_part : (j : ℕ) (r : List ℤ) → j + width ≤ at → take width (drop j (take at l ++ r)) ≡ take width (drop j (take at l))
  front_part j r g =
      ap (take width) (drop-append-le j (take at l) r (let f = front in omega arith))
      ∙ take-append-le width (drop j (take at l)) r (let f = front in let d = length-drop j (take at l) in omega arith)

  at_before : (j : ℕ) → j + width ≤ at → take width (drop j (at_place width at change l)) ≡ take width (drop j l)
  at_before j g =
      front_part j (change mid ++ rest) g
      ∙ sym (ap (λ (xs : List ℤ). take width (drop j xs)) (sym (take-append-drop at l)) ∙ front_part j (drop at l) g)

  at_after : (n : ℕ) → drop (at + width + n) (at_place width at change l) ≡ drop (at + width + n) l
  at_after n =
      let e : at + width + n ≡ length (take at l) + (width + n) = let f = front in omega arith in
      let m : width + n ≡ length (change mid) + n = let f = middle in omega arith in
      ap (λ (k : ℕ). drop k (at_place width at change l)) e
      ∙ drop-append-add (take at l) (change mid ++ rest) (width + n)
      ∙ ap (λ (k : ℕ). drop k (change mid ++ rest)) m
      ∙ drop-append-add (change mid) rest n
      ∙ drop-drop n (at + width) l

-- ---- a question changes no length

-- where 10 is not the answer, enough numbers are lent
lent_enough : (need lent k : ℕ) (t : Bool) → ltb lent need ≡ t → number_of (cond t (Err (TooFewNumbers k)) (Ok tt)) ≡ 0 → need ≤ lent
lent_enough need lent k true e z = absurd (omega arith)
lent_enough need lent k false e z = ltb-false lent need e

module _ (account : List Record) (question : Question) (lent : List ℤ) where
  abbrev answer : Answer
  answer = answer_over account question (length lent)

  abbrev numbers : List ℤ
  numbers = numbers_for account question

  within : number_of answer ≡ 0 → length numbers ≤ length lent
  within z = go (answers account question) refl
    where
      go : (t : Bool) → answers account question ≡ t → length numbers ≤ length lent
      go true e =
          lent_enough (length numbers) (length lent) (length account) (ltb (length lent) (length numbers)) refl
          (ap number_of (sym (then_enough account question (length lent) e)) ∙ z)
      go false e = absurd (let n = ap number_of (sym (not-asked account question (length lent) e)) ∙ z in omega arith)

  pub keeps_length : length (after_over account question lent) ≡ length lent
  keeps_length = go (not_refused answer) refl
    where
      go : (t : Bool) → not_refused answer ≡ t → length (cond t (numbers ++ drop (length numbers) lent) lent) ≡ length lent
      go true e =
          let w = within (eqb-true (number_of answer) 0 e) in
          length-append numbers (drop (length numbers) lent) ∙ (let d = length-drop (length numbers) lent in omega arith)
      go false e = refl

-- a book is answered where who paid in it is
pub answers_of : (account : List Record) (paid : Bool) (question : ℕ) → answers account (question_of paid question) ≡ answered account question
answers_of account true question = refl
answers_of account false question = refl

-- a place ends before a later one begins
pub ends_within : (width n m : ℕ) → n < m → width * n + width ≤ width * m
ends_within width n m g = subst (λ (k : ℕ). k ≤ width * m) (mul-suc width n) (mul-le-mul_left width g)

-- ---- all places

module _ (width : ℕ) (after : ℕ → List ℤ → List ℤ) (keeps : (q : ℕ) (xs : List ℤ) → length (after q xs) ≡ length xs) where
  ends : (n m : ℕ) → n < m → width * n + width ≤ width * m
  ends = ends_within width

  module _ (lent : List ℤ) (h : width * questions ≤ length lent) where
    each_length : (n : ℕ) → n ≤ questions → length (after_each width after n lent) ≡ length lent
    each_length zero g = refl
    each_length (suc n) g =
        let l = each_length n (omega arith) in
        let e = ends n questions g in
        at_length width (width * n) (after n) (keeps n) (after_each width after n lent) (omega arith) ∙ l

    room : (n : ℕ) → n < questions → width * n + width ≤ length (after_each width after n lent)
    room n g =
        let l = each_length n (omega arith) in
        let e = ends n questions g in
        omega arith

    past : (n j : ℕ) → n ≤ questions → width * n ≤ j → drop j (after_each width after n lent) ≡ drop j lent
    past zero j g k = refl
    past (suc n) j g k =
        let e : j ≡ width * n + width + (j - (width * n + width)) = omega (arith, k) in
        ap (λ (i : ℕ). drop i (after_each width after (suc n) lent)) e
        ∙ at_after width (width * n) (after n) (keeps n) (after_each width after n lent) (room n g) (j - (width * n + width))
        ∙ ap (λ (i : ℕ). drop i (after_each width after n lent)) (sym e)
        ∙ past n j (omega arith) (omega (arith, k))

    placed : (n q : ℕ) → q < n → n ≤ questions → place width q (after_each width after n lent) ≡ after q (place width q lent)
    placed zero q k g = absurd (omega arith)
    placed (suc n) q k g = go (ℕ_discrete q n) (λ l. placed n q l (omega arith))
      where
        go : Dec (q ≡ n) → (q < n → place width q (after_each width after n lent) ≡ after q (place width q lent))
            → place width q (after_each width after (suc n) lent) ≡ after q (place width q lent)
        go (yes e) before =
            ap (λ (i : ℕ). place width i (after_each width after (suc n) lent)) e
            ∙ at_here width (width * n) (after n) (keeps n) (after_each width after n lent) (room n g)
            ∙ ap (λ (xs : List ℤ). after n (take width xs)) (past n (width * n) (omega arith) (omega arith))
            ∙ ap (λ (i : ℕ). after i (place width i lent)) (sym e)
        go (no e) before =
            let l : q < n = omega (arith, e) in
            at_before width (width * n) (after n) (keeps n) (after_each width after n lent) (room n g) (width * q) (ends q n l)
            ∙ before l

  each_room : (account : List Record) (lent : ℕ) → each_over width account lent ≡ Ok tt → width * questions ≤ lent
  each_room account lent ok = lent_enough (width * questions) lent (length account) (ltb lent (width * questions)) refl (ap number_of ok)

  pub each_place_lem : (account : List Record) (lent : List ℤ) → each_over width account (length lent) ≡ Ok tt
      → EachPlace width after lent (after_each_over width after account lent)
  each_place_lem account lent ok =
      let h = each_room account (length lent) ok in
      let e : after_each_over width after account lent ≡ after_each width after questions lent = ap
      (λ (a : Answer). cond (not_refused a) (after_each width after questions lent) lent) ok in
      record {
        each = λ q g. ap (place width q) e ∙ placed lent h questions q g (omega arith);
        rest = ap (drop (width * questions)) e ∙ past lent h questions (width * questions) (omega arith) (omega arith);
      }

pub all_places : (paid : Bool) (account : List Record) (lent : List ℤ) → all_over paid account (length lent) ≡ Ok tt
    → EachPlace (width_of paid) (λ q. after_over account (question_of paid q)) lent (after_all_over paid account lent)
all_places paid account lent = each_place_lem (width_of paid) (λ q. after_over account (question_of paid q))
    (λ q. keeps_length account (question_of paid q)) account lent

-- ---- what the code does, place by place

-- the part that was lent on, put back
pub put-place : {A : Type 0} (width at : ℕ) (out part : List A) (change : List A → List A)
    → part ≡ change (take (at + width - at) (drop at out)) → put_mid at (at + width - at) out part ≡ at_place width at change out
put-place width at out part change e =
    let k : at + width - at ≡ width = omega arith in
    ap₂ (λ ys zs. take at out ++ (ys ++ zs)) (e ∙ ap (λ (n : ℕ). change (take n (drop at out))) k) (Post-is at (at + width) out (omega arith))
