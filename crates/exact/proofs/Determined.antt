-- A promise that is an equation leaves no choice: two outcomes that meet it are the same.
-- Assumes nothing.
use mathlib.Core.Path.{◌≡◌, sym, ◌∙◌}
use mathlib.Core.List.{List}
use lib.IntN.{ℤ}
use Rattle.exact.specs.Largest.{IsLargest}
use Rattle.exact.specs.declared.largest.NumberedTotal.{NumberedTotal}

-- a result, and a result with the lent numbers afterwards
pub one_result {ℓ} : {A : Type ℓ} (x r s : A) → r ≡ x → s ≡ x → r ≡ s
one_result x r s e f = e ∙ sym f

pub one_outcome_lem {ℓ ℓ'} : {A : Type ℓ} {B : Type ℓ'} (x r s : A) (y after after' : B) → (r ≡ x) × (after ≡ y) → (s ≡ x) × (after' ≡ y) → (r ≡ s)
    × (after ≡ after')
one_outcome_lem x r s y after after' (e, f) (g, h) = (one_result x r s e g, one_result y after after' f h)

-- records of equations, field by field
pub one_largest : (totals : List ℤ) (r s : NumberedTotal) → IsLargest totals r.value r.number → IsLargest totals s.value s.number → r ≡ s
one_largest totals r s a b =
    λ i. record { value = (a.value_is ∙ sym b.value_is) i; number = (a.number_is ∙ sym b.number_is) i }
