-- What a question answers and leaves behind, by what the check, the question and the lent numbers say.
-- Assumes nothing.
use Rattle.std.specs.Prelude.{Ok, Err}
use Prim.Native.Nat.{ℕ, suc, ◌+◌, ◌*◌, ◌≤◌, ◌<◌}
use native.Mathlib.Omega.{arith}
use mathlib.Core.Path.{◌≡◌, refl, sym, ap, ◌∙◌}
use mathlib.Core.Bool.{Bool, true, false, cond}
use mathlib.Core.List.{List, [], ◌∷◌, ◌++◌, map}
use borrow.Author.Tests.{lt-ltb, le-ltb, ne_eqb}
use lib.IntN.{ℤ, pos, nat_abs}
use lib.ListN.{length, get_or, drop, length-append, length-map, get_or-append}
use lib.Seq.{sets}
use Rattle.exact.proofs.Lists.{get_d_map}
use Rattle.record.specs.Layout.{Record}
use Rattle.account.specs.Answers.{number_of}
use Rattle.account.specs.Parts.{contracts_of, entries_of}
use Rattle.account.specs.Answers.{Answer}
use Rattle.account.specs.declared.answers.Refusal.TheVariants.{TooFewNumbers, NoSuchQuestion}
pub use Rattle.account.proofs.NoonLaws.{accepted_only}
use Rattle.formulas.specs.Contract.{contracts, parts_in, as_tier}
use Rattle.formulas.specs.Bounds.{figures_each}
use Rattle.margin.specs.Figures.{eights, figures, figures_over, total_margin, account_total}
use Rattle.margin.specs.Questions.{not_refused, if_accepted, numbers_for, answers, enough, answer_over, afterwards, after_over}
use Rattle.margin.specs.declared.asking.Question.{Question}
use Rattle.margin.specs.declared.asking.Question.TheVariants.{Figures}
use Rattle.margin.proofs.FigureLaws.{eights-length}
use Rattle.margin.proofs.NumberLaws.{sets_front}

-- ---- the answer and the lent numbers, case by case

pub if_refused : (a next : Answer) → (number_of a ≡ 0 → ⊥) → if_accepted a next ≡ a
if_refused a next h = rw (ne_eqb (number_of a) 0 h)

pub if_accepted_lem : (a next : Answer) → a ≡ Ok tt → if_accepted a next ≡ next
if_accepted_lem a next e = ap (λ (x : Answer). cond (not_refused x) next x) e

pub after_refused : (a : Answer) (numbers out : List ℤ) → (number_of a ≡ 0 → ⊥) → afterwards a numbers out ≡ out
after_refused a numbers out h = rw (ne_eqb (number_of a) 0 h)

pub too_few_lem : (account : List Record) (numbers : List ℤ) (lent : ℕ) → lent < length numbers → enough account numbers lent ≡ Err (TooFewNumbers (length account))
too_few_lem account numbers lent h = rw (lt-ltb lent (length numbers) h)

pub as_many : (account : List Record) (numbers : List ℤ) (lent : ℕ) → length numbers ≤ lent → enough account numbers lent ≡ Ok tt
as_many account numbers lent h = rw (le-ltb lent (length numbers) h)

-- an answer, and the lent numbers afterwards
abbrev pub Answers : Answer → List ℤ → Answer → List ℤ → List ℤ → Type 0
Answers a after answer numbers out = (a ≡ answer) × (after ≡ afterwards answer numbers out)

pub refused_with : (a answer : Answer) (numbers out : List ℤ) → answer ≡ a → (number_of a ≡ 0 → ⊥) → Answers a out answer numbers out
refused_with a answer numbers out e h =
    (sym e, sym (ap (λ (x : Answer). afterwards x numbers out) e ∙ after_refused a numbers out h))

pub accepted_with : (answer : Answer) (numbers out after : List ℤ) (n : ℕ) → answer ≡ Ok tt → length numbers ≡ n → after ≡ numbers ++ drop n out
    → Answers (Ok tt) after answer numbers out
accepted_with answer numbers out after n e l f =
    (sym e, f ∙ ap (λ (m : ℕ). numbers ++ drop m out) (sym l) ∙ sym (ap (λ (x : Answer). afterwards x numbers out) e))

-- ---- a question: whether it may be asked, then whether enough numbers are lent

module _ (account : List Record) (question : Question) (lent : ℕ) where
  pub not-asked : answers account question ≡ false → answer_over account question lent ≡ (Err (NoSuchQuestion (length account)))
  not-asked e = ap (λ (t : Bool). if_accepted (cond t (Ok tt) (Err (NoSuchQuestion (length account)))) (enough account (numbers_for account question) lent)) e

  pub then_enough : answers account question ≡ true → answer_over account question lent ≡ enough account (numbers_for account question) lent
  then_enough e = ap (λ (t : Bool). if_accepted (cond t (Ok tt) (Err (NoSuchQuestion (length account)))) (enough account (numbers_for account question) lent)) e

  pub asked_few : answers account question ≡ true → lent < length (numbers_for account question) → answer_over account question lent ≡ (Err (TooFewNumbers (length account)))
  asked_few e h = then_enough e ∙ too_few_lem account (numbers_for account question) lent h

  pub asked_many : answers account question ≡ true → length (numbers_for account question) ≤ lent → answer_over account question lent ≡ Ok tt
  asked_many e h = then_enough e ∙ as_many account (numbers_for account question) lent h

-- ---- how many numbers the figures have

pub figures-length : (account : List Record) → length (figures account) ≡ figures_each * length (contracts_of account) + 1
figures-length account =
    let ks = contracts account in
    let es = entries_of account in
    length-map (figures_over es ks) pos
    ∙ length-append (eights es (map as_tier ks) ks) (total_margin es (map as_tier ks) ks ∷ [])
    ∙ ap (λ (n : ℕ). n + 1) (eights-length es (map as_tier ks) ks ∙ ap (λ (n : ℕ). figures_each * n) (length-map (contracts_of account) (parts_in account)))

-- where enough numbers are lent they stand at the front
pub figures_front : (account : List Record) (out : List ℤ) → length (figures account) ≤ length out → after_over account Figures out ≡ sets out 0
    (figures account)
figures_front account out room =
    sym (accepted_with (answer_over account Figures (length out)) (figures account) out _ (length (figures account))
    (asked_many account Figures (length out) refl room) refl (sets_front (figures account) out room)).1

-- and where too few are lent they stay as they are
pub figures_refused : (account : List Record) (out : List ℤ) (records : ℕ) → records ≡ length account → length out < length (figures account)
    → Answers (Err (TooFewNumbers records)) out (answer_over account Figures (length out)) (figures account) out
figures_refused account out records n few =
    refused_with (Err (TooFewNumbers records)) _ (figures account) out (asked_few account Figures (length out) refl few ∙ ap (λ (n : ℕ). Err (TooFewNumbers n)) (sym n))
    (λ e. omega arith)

-- ---- the total stands last in the figures

last_is : (xs : List ℕ) (x : ℕ) → get_or (xs ++ x ∷ []) (length xs) 0 ≡ x
last_is [] x = refl
last_is (y ∷ xs) x = last_is xs x

ends_with : (xs : List ℕ) (x : ℕ) → length (xs ++ x ∷ []) ≡ suc (length xs)
ends_with [] x = refl
ends_with (y ∷ xs) x = ap suc (ends_with xs x)

pub total_last : (account : List Record) (out numbers : List ℤ) (n : ℕ) → numbers ≡ sets out 0 (figures account) → length (figures account) ≤ length out
    → n ≡ figures_each * length (contracts_of account) → nat_abs (get_or numbers n (pos 0)) ≡ account_total account
total_last account out numbers n w room k =
    let es = entries_of account in
    let ks = contracts account in
    let xs = eights es (map as_tier ks) ks in
    let x = total_margin es (map as_tier ks) ks in
    let l : length (figures account) ≡ suc (length xs) = length-map (figures_over es ks) pos ∙ ends_with xs x in
    let i : n ≡ length xs = omega (arith, figures-length account) in
    ap (λ (m : ℕ). nat_abs (get_or numbers m (pos 0))) i
    ∙ ap (λ (zs : List ℤ). nat_abs (get_or zs (length xs) (pos 0))) (w ∙ sets_front (figures account) out room)
    ∙ ap nat_abs (get_or-append (figures account) (drop (length (figures account)) out) (pos 0) (length xs) (omega arith))
    ∙ ap nat_abs (get_d_map pos (figures_over es ks) (length xs) 0 (pos 0) (omega (arith, ends_with xs x)))
    ∙ last_is xs x
