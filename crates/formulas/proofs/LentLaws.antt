-- Lent numbers: the deltas and numbers of spreads that they stand for, and an array that is copied place by place.
-- Assumes nothing.
use Prim.Native.Nat.{ℕ, ◌+◌, ◌≤◌, ◌<◌, zero-le}
use native.Mathlib.Numerals.{add-one}
use native.Mathlib.Omega.{arith}
use mathlib.Core.Path.{◌≡◌, refl, sym, ap, ap₂, ◌∙◌}
use mathlib.Core.List.{List, [], ◌∷◌, ◌++◌, map}
use lib.IntN.{ℤ, pos}
use lib.ListN.{length, get_or, take, set, length-map, length-set, get_or-map}
use lib.Seq.{take-suc, take-suc-set, take_all}
use Rattle.spread.specs.code.Book.{by_place}
use Rattle.spread.specs.code.Lent.{deltas_from, spreads_from}
use Rattle.spread.proofs.Filling.{entries_length}
use Rattle.spread.proofs.Lent.{deltas_back}
use Rattle.spread.specs.declared.Delta.{Delta}
use Rattle.spread.specs.declared.Spreads.{Spreads}
use Rattle.formulas.specs.declared.rows.Position.{Position}
use Rattle.formulas.specs.code.Position.{position_in}
use Rattle.formulas.specs.code.Sums.{deltas_in, spreads_at, delta_in}

pub delta-from : (zs : List ℤ) (k : ℕ) → delta_in (deltas_from zs) k ≡ get_or zs k (pos 0)
delta-from zs k = ap (λ (d : Delta). d.0) (get_or-map (λ (z : ℤ). record { 0 = z }) zs k (pos 0))

pub spread_from : (ns : List ℕ) (k : ℕ) → spreads_at (spreads_from ns) k ≡ get_or ns k 0
spread_from ns k = ap (λ (s : Spreads). s.0) (get_or-map (λ (n : ℕ). record { 0 = n }) ns k 0)

-- as many numbers are lent as an array has places
pub lent_length {ℓ} : {A B : Type ℓ} (f : A → B) (n : ℕ) (g : ℕ → B) (xs : List A) → map f xs ≡ by_place n g → length xs ≡ n
lent_length f n g xs e = sym (length-map xs f) ∙ ap length e ∙ entries_length n g

-- the position of which the net deltas are lent
pub position_lent : (p : Position) (nets : List ℤ) → nets ≡ deltas_in p.nets → position_in p.totals.0 nets p.shorts ≡ p
position_lent p nets e = let back = ap deltas_from e ∙ deltas_back p.nets in λ i. record { totals = p.totals; nets = back i; shorts = p.shorts }

-- a list of which the first places are copied into another
module _ {A : Type 0} (none : A) (xs : List A) where
  pub record Copied (i : ℕ) (ys : List A) : Type 0 where
    pub as_many : length ys ≡ length xs
    pub within : i ≤ length xs
    pub so_far : take i ys ≡ take i xs

  pub start : (ys : List A) → length ys ≡ length xs → Copied 0 ys
  start ys e = record { as_many = e; within = zero-le; so_far = refl }

  pub next : (i : ℕ) (ys : List A) (y : A) → Copied i ys → i < length xs → y ≡ get_or xs i none → Copied (i + 1) (set ys i y)
  next i ys y is h e =
      record {
        as_many = length-set ys i y ∙ is.as_many;
        within = omega arith;
        so_far =
            ap (λ (n : ℕ). take n (set ys i y)) (add-one i)
            ∙ take-suc-set ys i y (omega (arith, is.as_many))
            ∙ ap₂ (λ (zs : List A) (z : A). zs ++ (z ∷ [])) is.so_far e
            ∙ sym (take-suc xs i none h)
            ∙ ap (λ (n : ℕ). take n xs) (sym (add-one i));
      }

  pub finish : (i : ℕ) (ys : List A) → Copied i ys → length xs ≤ i → ys ≡ xs
  finish i ys is h = sym (take_all i ys (omega (arith, is.as_many))) ∙ is.so_far ∙ take_all i xs h
