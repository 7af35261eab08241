-- How many steps, deltas and uses there are.
-- Assumes nothing.
use Prim.Native.Nat.{ℕ, suc, ◌+◌, ◌*◌}
use native.Mathlib.Nat.{add_comm, zero-mul, suc-mul}
use native.Mathlib.Omega.{arith}
use mathlib.Core.List.{List, [], ◌∷◌, map}
use mathlib.Core.Path.{◌≡◌, refl, sym, ap, ap₂, ◌∙◌}
use lib.IntN.{ℤ}
use lib.ListN.{length, length-append, length-map}
use Rattle.spread.specs.Steps.{Open, Taker, steps, formed, after, left, minus, used_of, unused_of}
use Rattle.spread.specs.Uses.{taken_of, uses_of}
use Rattle.spread.specs.declared.Spread.{Spread}
use Rattle.spread.proofs.Stepping.{after-length, left_length}

pub steps-length : (ss : List Spread) → length (steps ss) ≡ 2 * length ss
steps-length [] = refl
steps-length (s ∷ ss) = let h = steps-length ss in omega arith

minus-length : (xs ys : List ℤ) → length xs ≡ length ys → length (minus xs ys) ≡ length xs
minus-length [] ys e = refl
minus-length (x ∷ xs) [] e = absurd (omega arith)
minus-length (x ∷ xs) (y ∷ ys) e = ap suc (minus-length xs ys (omega arith))

pub unused_length : (ss : List (List Taker)) (ps : List Open) → length (unused_of ss ps) ≡ length ps
unused_length ss ps = length-map (left ss ps) (λ p. p.unused) ∙ left_length ss ps

pub used_length : (ss : List (List Taker)) (ps : List Open) → length (used_of ss ps) ≡ length ps
used_length ss ps =
    minus-length (map (λ p. p.unused) ps) (unused_of ss ps) (length-map ps (λ p. p.unused) ∙ sym (unused_length ss ps))
    ∙ length-map ps (λ p. p.unused)

-- a step takes something, or nothing, of each prompt
pub uses-length : (ss : List (List Taker)) (ps : List Open) → length (uses_of ss ps) ≡ length ss * length ps
uses-length [] ps = sym (zero-mul (length ps))
uses-length (s ∷ ss) ps =
    length-append (taken_of s ps) (uses_of ss (after s (formed s ps) ps))
    ∙ ap₂ ◌+◌ (used_length (s ∷ []) ps) (uses-length ss (after s (formed s ps) ps) ∙ ap (λ (n : ℕ). length ss * n) (after-length s (formed s ps) ps))
    ∙ add_comm (length ps) (length ss * length ps)
    ∙ sym (suc-mul (length ss) (length ps))
