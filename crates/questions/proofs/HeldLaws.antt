-- A held file is one view, and a question put to it is answered as over its bytes.
-- Assumes nothing.
use Prim.Native.Nat.{ℕ}
use mathlib.Core.Path.{◌≡◌, sym, ap, ◌∙◌, subst⁻¹}
use mathlib.Core.List.{List}
use lib.IntN.{ℤ}
use lib.ListN.{length}
use denote.Ref.{Bor}
use Rattle.account.specs.code.Standing.{CheckedBy}
use Rattle.account.specs.Answers.{Answer}
use Rattle.account.proofs.OneJoined.{one_file_lem}
use Rattle.margin.specs.declared.asking.Question.{Question}
use Rattle.questions.specs.code.Held.{FromCheck}
use Rattle.questions.specs.Questions.{answer_to, after_to, need_to}
use Rattle.questions.specs.declared.held.Asked.{Asked}
use Rattle.questions.specs.declared.held.Held.{Held}

-- ---- the promises determine what comes back

-- the check hands out one view of a file
pub one_view : (file : Bor (List ℕ)) (h k : Held) → (h.file ≡ file) × FromCheck h → (k.file ≡ file) × FromCheck k → h ≡ k
one_view file h k (fh, is) (fk, it) =
    let e : h.file ≡ k.file = fh ∙ sym fk in
    let s : h.checked ≡ k.checked =
    one_file_lem h.file.now h.checked k.checked is (subst⁻¹ (λ (f : Bor (List ℕ)). CheckedBy f.now k.checked) e it)
    in
    λ i. record { file = e i; checked = s i }

-- and all questions at once are answered in one way
pub one_asked : (a b c : Answer) (r s : Asked) → (r.figures ≡ a) × ((r.books ≡ b) × (r.uses ≡ c))
    → (s.figures ≡ a) × ((s.books ≡ b) × (s.uses ≡ c)) → r ≡ s
one_asked a b c r s (x, (y, z)) (x', (y', z')) =
    λ i. record { figures = (x ∙ sym x') i; books = (y ∙ sym y') i; uses = (z ∙ sym z') i }

-- ---- "each question is also offered over plain bytes, checked first, with the same answer": whatever a held file and its bytes
-- are answered, and whatever is left in the same lent numbers, is the same

module _ (h : Held) (file : List ℕ) (e : h.file.now ≡ file) where
  pub held-as-plain : (question : Question) (lent : List ℤ) (r r' : Answer) (left left' : List ℤ)
      → (r ≡ answer_to h.file.now question (length lent)) × (left ≡ after_to h.file.now question lent)
      → (r' ≡ answer_to file question (length lent)) × (left' ≡ after_to file question lent)
      → (r ≡ r') × (left ≡ left')
  held-as-plain question lent r r' left left' (p, s) (p', s') = (
    p ∙ ap (λ (f : List ℕ). answer_to f question (length lent)) e ∙ sym p',
    s ∙ ap (λ (f : List ℕ). after_to f question lent) e ∙ sym s',
  )

  pub held-needs-as-plain : (question : Question) (n n' : ℕ) → n ≡ need_to h.file.now question → n' ≡ need_to file question → n ≡ n'
  held-needs-as-plain question n n' p p' = p ∙ ap (λ (f : List ℕ). need_to f question) e ∙ sym p'
