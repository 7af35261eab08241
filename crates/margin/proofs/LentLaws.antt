-- The books and uses of the contracts in file order: each is written to its place, and the places between them stay as they are.
-- Assumes nothing.
use Rattle.std.specs.Prelude.{Ok, Err}
use Prim.Native.Nat.{ℕ, zero, suc, ◌+◌, ◌*◌, ◌≤◌, ◌<◌}
use native.Mathlib.Decide.{ℕ_discrete}
use native.Mathlib.Omega.{arith}
use mathlib.Core.Path.{◌≡◌, refl, sym, ap, ◌∙◌}
use mathlib.Core.Bool.{Bool, true, false, cond, ◌||◌}
use mathlib.Core.List.{List, [], ◌++◌}
use borrow.Author.Tests.{ne_eqb, lt-ltb, le-ltb, ltb-true, ltb-false}
use lib.Dec.{ltb}
use lib.IntN.{ℤ}
use lib.ListN.{length, get_or, take, drop, take-append-drop}
use lib.Seq.{drop-drop}
use Rattle.exact.specs.Lists.{any}
use Rattle.record.specs.Layout.{Record, contract}
use Rattle.account.specs.Lawful.{Lawful}
use Rattle.account.specs.Parts.{contracts_of, entries_of}
use Rattle.account.specs.Answers.{Answer}
use Rattle.account.specs.declared.answers.Refusal.TheVariants.{TooFewNumbers}
use Rattle.account.specs.Check.{most_contracts}
use Rattle.margin.specs.Books.{asks, answered, table_question}
use Rattle.margin.specs.Places.{questions, at_place, after_each, lent_place, lent_each, question_of, width_of, after_all_over}
use Rattle.margin.specs.Questions.{not_refused, afterwards, numbers_for, answer_over, after_over}
use Rattle.margin.specs.Uses.{table_uses}
use Rattle.margin.specs.declared.asking.Question.TheVariants.{Uses}
use Rattle.formulas.specs.Contract.{contracts}
use Rattle.margin.proofs.AcceptLaws.{numbers_rise}
use Rattle.margin.proofs.PlaceLaws.{answers_of}
use Rattle.margin.proofs.PositionsLaws.{found}
use Rattle.margin.proofs.QuestionLaws.{not-asked}
use Rattle.margin.proofs.StandLaws.{own_number}

-- ---- places that stay as they are

same_place : (width at : ℕ) (change : List ℤ → List ℤ) (l : List ℤ) → ((xs : List ℤ) → change xs ≡ xs) → at_place width at change l ≡ l
same_place width at change l same =
    ap (λ (xs : List ℤ). take at l ++ (xs ++ drop (at + width) l)) (same (take width (drop at l)))
    ∙ ap (λ (xs : List ℤ). take at l ++ (take width (drop at l) ++ xs)) (sym (drop-drop width at l))
    ∙ ap (λ (xs : List ℤ). take at l ++ xs) (take-append-drop width (drop at l))
    ∙ take-append-drop at l

module _ (width : ℕ) (after : ℕ → List ℤ → List ℤ) (lent : List ℤ) where
  skip : (m n : ℕ) → n ≤ m → ((q : ℕ) → n ≤ q → q < m → (xs : List ℤ) → after q xs ≡ xs) → after_each width after m lent ≡ after_each width after n lent
  skip zero n h same = let e : 0 ≡ n = omega (arith, h) in ap (λ (k : ℕ). after_each width after k lent) e
  skip (suc m) n h same = go (ℕ_discrete n (suc m)) (λ l. skip m n l (λ q a b. same q a (omega arith)))
    where
      go : Dec (n ≡ suc m) → (n ≤ m → after_each width after m lent ≡ after_each width after n lent)
          → after_each width after (suc m) lent ≡ after_each width after n lent
      go (yes e) before = ap (λ (k : ℕ). after_each width after k lent) (sym e)
      go (no e) before =
          same_place width (width * m) (after m) (after_each width after m lent) (same m (omega (arith, e)) (omega arith)) ∙ before (omega (arith, e))

-- ---- one place, or none

pub lent_few : (width q : ℕ) (change : List ℤ → List ℤ) (lent : List ℤ) → length lent < width * questions → lent ≡ lent_place width q change lent
lent_few width q change lent h =
    sym (ap (λ (t : Bool). cond t lent (at_place width (width * q) change lent)) (lt-ltb (length lent) (width * questions) h))

pub lent_enough : (width q : ℕ) (change : List ℤ → List ℤ) (lent left : List ℤ) → width * questions ≤ length lent → left ≡ at_place width (width * q) change lent
    → left ≡ lent_place width q change lent
lent_enough width q change lent left h e =
    e ∙ sym (ap (λ (t : Bool). cond t lent (at_place width (width * q) change lent)) (le-ltb (length lent) (width * questions) h))

-- a place that nothing changes
pub lent_same : (width q : ℕ) (change : List ℤ → List ℤ) (lent : List ℤ) → ((xs : List ℤ) → change xs ≡ xs) → lent ≡ lent_place width q change lent
lent_same width q change lent same = go (ltb (length lent) (width * questions))
  where
    go : (t : Bool) → lent ≡ cond t lent (at_place width (width * q) change lent)
    go true = refl
    go false = sym (same_place width (width * q) change lent same)

-- who paid in a table without spreads is no number
pub no_uses : (account : List Record) → entries_of account ≡ [] → (xs : List ℤ) → after_over account (Uses table_question) xs ≡ xs
no_uses account none xs =
    ap (λ (es : List Record). afterwards (answer_over account (Uses table_question) (length xs)) (table_uses es (contracts account)) xs) none
    ∙ go (not_refused (answer_over account (Uses table_question) (length xs)))
  where
    go : (t : Bool) → cond t xs xs ≡ xs
    go true = refl
    go false = refl

-- ---- one contract after the other

module _ (account : List Record) where
  abbrev pub number_at : ℕ → ℕ
  number_at j = contract (get_or (contracts_of account) j [])

  abbrev pub after : Bool → ℕ → List ℤ → List ℤ
  after paid q = after_over account (question_of paid q)

  -- the first i contracts are answered in their places, and so every number below one that parts the contracts there
  pub record LentTo (paid : Bool) (i : ℕ) (lent left : List ℤ) : Type 0 where
    pub same : length left ≡ length lent
    pub each : (n : ℕ) → n ≤ most_contracts → ((j : ℕ) → j < i → number_at j < n) → ((j : ℕ) → i ≤ j → j < length (contracts_of account) → n ≤ number_at j)
        → left ≡ lent_each (width_of paid) (after paid) n lent

  unlisted : (q : ℕ) → q < most_contracts → ((j : ℕ) → j < length (contracts_of account) → number_at j ≡ q → ⊥) → answered account q ≡ false
  unlisted q h none =
      ap (λ (t : Bool). t || any (asks q) (contracts_of account)) (ne_eqb q table_question (λ e. omega (arith, e, h)))
      ∙ go (any (asks q) (contracts_of account)) refl
    where
      go : (t : Bool) → any (asks q) (contracts_of account) ≡ t → t ≡ false
      go true e = let f = found q (contracts_of account) e in absurd (none f.place f.below f.here)
      go false e = refl

  stays : (paid : Bool) (q : ℕ) → answered account q ≡ false → (xs : List ℤ) → after paid q xs ≡ xs
  stays paid q e xs =
      ap (λ (a : Answer). afterwards a (numbers_for account (question_of paid q)) xs)
      (not-asked account (question_of paid q) (length xs) (answers_of account paid q ∙ e))

  pub lent_none : (paid : Bool) (lent : List ℤ) → LentTo paid 0 lent lent
  lent_none paid lent = record { same = refl; each = λ n few below above. go n few above (ltb (length lent) (width_of paid * questions)) }
    where
      go : (n : ℕ) → n ≤ most_contracts → ((j : ℕ) → 0 ≤ j → j < length (contracts_of account) → n ≤ number_at j) → (t : Bool)
          → lent ≡ cond t lent (after_each (width_of paid) (after paid) n lent)
      go n few above true = refl
      go n few above false =
          sym (skip (width_of paid) (after paid) lent n 0 (omega arith)
          (λ q a b. stays paid q (unlisted q (omega arith) (λ j h e. let k = above j (omega arith) h in omega arith))))

module _ (account : List Record) (law : Lawful account) where
  module _ (paid : Bool) (i : ℕ) (lent left left' : List ℤ) (is : LentTo account paid i lent left) (listed : i < length (contracts_of account)) where
    abbrev width : ℕ
    width = width_of paid

    abbrev c : ℕ
    c = number_at account i

    so_far : left ≡ lent_each width (after account paid) c lent
    so_far =
        is.each c (let h = own_number account law i listed in omega arith) (λ j h. numbers_rise account law j i h listed)
        (λ j h m. go j h m (ℕ_discrete j i))
      where
        go : (j : ℕ) → i ≤ j → j < length (contracts_of account) → Dec (j ≡ i) → c ≤ number_at account j
        go j h m (yes e) = let same = ap (number_at account) e in omega arith
        go j h m (no e) = let up = numbers_rise account law i j (omega (arith, e)) m in omega arith

    -- no number between this contract's and one that parts the contracts after it is listed
    between : (n q : ℕ) → n ≤ most_contracts → ((j : ℕ) → i + 1 ≤ j → j < length (contracts_of account) → n ≤ number_at account j) → suc c ≤ q → q < n
        → answered account q ≡ false
    between n q few above a b = unlisted account q (omega arith) (λ j h e. go j h e (ltb j i) refl (ℕ_discrete j i))
      where
        go : (j : ℕ) → j < length (contracts_of account) → number_at account j ≡ q → (t : Bool) → ltb j i ≡ t → Dec (j ≡ i) → ⊥
        go j h e true f d = let up = numbers_rise account law j i (ltb-true j i f) listed in omega arith
        go j h e false f (yes d) = let same = ap (number_at account) d in omega arith
        go j h e false f (no d) = let past = above j (let far = ltb-false j i f in omega (arith, d)) h in omega arith

    pub lent_next : length left' ≡ length left → left' ≡ lent_place width c (after account paid c) left → LentTo account paid (i + 1) lent left'
    lent_next long e =
        record {
          same = long ∙ is.same;
          each =
              λ n few below above.
              go n few (below i (omega arith)) above (ltb (length lent) (width * questions)) so_far
              (e ∙ ap (λ (k : ℕ). cond (ltb k (width * questions)) left (at_place width (width * c) (after account paid c) left)) is.same);
        }
      where
        go : (n : ℕ) → n ≤ most_contracts → c < n → ((j : ℕ) → i + 1 ≤ j → j < length (contracts_of account) → n ≤ number_at account j) → (t : Bool)
            → left ≡ cond t lent (after_each width (after account paid) c lent) → left' ≡ cond t left (at_place width (width * c) (after account paid c) left)
            → left' ≡ cond t lent (after_each width (after account paid) n lent)
        go n few here above true a b = b ∙ a
        go n few here above false a b =
            b
            ∙ ap (at_place width (width * c) (after account paid c)) a
            ∙ sym (skip width (after account paid) lent n (suc c) here (λ q d f. stays account paid q (between n q few above d f)))

  pub lent_all : (paid : Bool) (i : ℕ) (lent left : List ℤ) → LentTo account paid i lent left → i ≡ length (contracts_of account)
      → left ≡ lent_each (width_of paid) (after account paid) most_contracts lent
  lent_all paid i lent left is all =
      is.each most_contracts (omega arith) (λ j h. let few = own_number account law j (omega arith) in omega arith) (λ j h m. absurd (omega arith))

-- ---- then the table

module _ (account : List Record) (paid : Bool) (lent left left' : List ℤ) (same : length left ≡ length lent) where
  abbrev wide : ℕ
  wide = width_of paid

  abbrev each : ℕ → List ℤ → List ℤ
  each q = after_over account (question_of paid q)

  abbrev table : List ℤ → List ℤ
  table = at_place wide (wide * table_question) (each table_question)

  pub then_table : left ≡ lent_each wide each most_contracts lent → left' ≡ lent_place wide table_question (each table_question) left
      → left' ≡ after_all_over paid account lent
  then_table so_far e =
      go (ltb (length lent) (wide * questions)) so_far (e ∙ ap (λ (k : ℕ). cond (ltb k (wide * questions)) left (table left)) same)
    where
      go : (t : Bool) → left ≡ cond t lent (after_each wide each most_contracts lent) → left' ≡ cond t left (table left)
          → left' ≡ cond (not_refused (cond t (Err (TooFewNumbers (length account))) (Ok tt))) (after_each wide each questions lent) lent
      go true p q = q ∙ p
      go false p q = q ∙ ap table p
