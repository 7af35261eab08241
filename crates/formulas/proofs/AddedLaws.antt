-- Numbers of a list that are added to one after the other.
-- Assumes nothing.
use mathlib.Core.Path.{◌≡◌, refl, sym, ◌∙◌, ap, subst}
use mathlib.Core.Bool.{Bool, true, false}
use mathlib.Core.List.{List}
use Prim.Native.Nat.{ℕ, ◌+◌, ◌^◌, ◌≤◌, ◌<◌}
use native.Mathlib.Nat.{not-suc-le-zero, le_trans, le_refl}
use native.Mathlib.Omega.{arith}
use lib.Dec.{ltb}
use lib.IntN.{ℤ, pos, nat_abs, ◌+ℤ◌, +ℤ_idr, +ℤ_assoc}
use lib.ListN.{length, get_or, set, length-set, length-map}
use lib.Seq.{ext_get_or, get_or-set_same, get_or-set_other}
use borrow.Author.Count.{below_more}
use borrow.Author.Tests.{ltb-true, ltb-false}
use lib.Signed.{mag}
use mir.Syntax.{w64}
use mir.Val.{SFits}
use Rattle.spread.specs.declared.Delta.{Delta}
use Rattle.spread.proofs.Lent.{delta_at_lem}
use Rattle.formulas.specs.code.Position.{AtMost, Added, deltas_in}
use Rattle.exact.proofs.Integers.{sfits_abs}
use Rattle.formulas.proofs.Calls.{handed, op_fits, op_is}
use Rattle.formulas.proofs.SignedCalls.{abs_plus}

pub start : (more : ℕ → ℤ) (xs : List ℤ) → Added 0 more xs xs
start more xs = record { as_many = refl; added = λ k h. absurd (not-suc-le-zero h); others = λ k h. refl }

-- the next number is added to
pub next : (i : ℕ) (more : ℕ → ℤ) (xs ys : List ℤ) (z : ℤ) → Added i more xs ys → i < length xs → z ≡ get_or xs i (pos 0) +ℤ more i
    → Added (i + 1) more xs (set ys i z)
next i more xs ys z a h e =
    record {
      as_many = length-set ys i z ∙ a.as_many;
      added = below_more (λ (k : ℕ). get_or (set ys i z) k (pos 0) ≡ get_or xs k (pos 0) +ℤ more k) i earlier
          (get_or-set_same ys i z (pos 0) (omega (arith, a.as_many)) ∙ e);
      others = λ k l. get_or-set_other ys i k z (pos 0) (λ q. omega arith) ∙ a.others k (omega arith);
    }
  where
    earlier : (k : ℕ) → k < i → get_or (set ys i z) k (pos 0) ≡ get_or xs k (pos 0) +ℤ more k
    earlier k l = get_or-set_other ys i k z (pos 0) (λ q. omega arith) ∙ a.added k l

-- the same of a number in the code: place i is read, y is added or taken away, and what comes out is put there
module _ (op : ℤ → ℤ → ℤ) (i : ℕ) (more : ℕ → ℤ) (xs ys : List ℤ) (at : Added i more xs ys) (y b : ℤ) (fy : mag y < 2 ^ 63) (ey : y ≡ b)
    (here : nat_abs (get_or xs i (pos 0)) < 2 ^ 63) (small : nat_abs (op (get_or xs i (pos 0)) b) < 2 ^ 63) where
  same : get_or ys i (pos 0) ≡ get_or xs i (pos 0)
  same = at.others i (le_refl i)

  read : SFits w64 (get_or ys i (pos 0))
  read = sfits_abs (get_or ys i (pos 0)) (omega (arith, ap nat_abs same))

  pub put_fits : SFits w64 (op (handed (get_or ys i (pos 0))) (handed y))
  put_fits = op_fits op (get_or ys i (pos 0)) y (get_or xs i (pos 0)) b read.sfits fy same ey small

  pub put_next : i < length xs → op (get_or xs i (pos 0)) b ≡ get_or xs i (pos 0) +ℤ more i
      → Added (i + 1) more xs (set ys i (handed (op (handed (get_or ys i (pos 0))) (handed y))))
  put_next h e =
      let put = op (handed (get_or ys i (pos 0))) (handed y) in
      next i more xs ys (handed put) at h
      (op_is op (get_or ys i (pos 0)) y (get_or xs i (pos 0)) b read.sfits fy same ey put put_fits.sfits refl ∙ e)

-- nothing is added
pub nothing-added : (n : ℕ) (more : ℕ → ℤ) (xs : List ℤ) → ((k : ℕ) → more k ≡ pos 0) → Added n more xs xs
nothing-added n more xs z =
    record {
      as_many = refl;
      added = λ k h. sym (+ℤ_idr (get_or xs k (pos 0))) ∙ ap (λ (m : ℤ). get_or xs k (pos 0) +ℤ m) (sym (z k));
      others = λ k h. refl;
    }

-- the same is added
pub same_added : (n : ℕ) (f g : ℕ → ℤ) (xs ys : List ℤ) → ((k : ℕ) → f k ≡ g k) → Added n f xs ys → Added n g xs ys
same_added n f g xs ys e a =
    record {
      as_many = a.as_many;
      added = λ k h. a.added k h ∙ ap (λ (z : ℤ). get_or xs k (pos 0) +ℤ z) (e k);
      others = a.others;
    }

-- added once, and once more
pub twice : (n : ℕ) (f g more : ℕ → ℤ) (xs ys zs : List ℤ) → ((k : ℕ) → k < n → f k +ℤ g k ≡ more k) → Added n f xs ys → Added n g ys zs → Added n more xs zs
twice n f g more xs ys zs e a b =
    record {
      as_many = b.as_many ∙ a.as_many;
      added = λ k h.
          b.added k h
          ∙ ap (λ (z : ℤ). z +ℤ g k) (a.added k h)
          ∙ +ℤ_assoc (get_or xs k (pos 0)) (f k) (g k)
          ∙ ap (λ (z : ℤ). get_or xs k (pos 0) +ℤ z) (e k h);
      others = λ k h. b.others k h ∙ a.others k h;
    }

-- ---- sizes

pub at_most_wider : (n b c : ℕ) (xs : List ℤ) → b ≤ c → AtMost n b xs → AtMost n c xs
at_most_wider n b c xs h a = record { as_many = a.as_many; size = λ k l. le_trans (a.size k l) h }

pub at_most_added : (m n b c : ℕ) (more : ℕ → ℤ) (xs ys : List ℤ) → AtMost m b xs → Added n more xs ys → ((k : ℕ) → k < n → nat_abs (more k) ≤ c)
    → AtMost m (b + c) ys
at_most_added m n b c more xs ys a d h = record { as_many = d.as_many ∙ a.as_many; size = λ k l. go k l (ltb k n) refl }
  where
    go : (k : ℕ) → k < m → (t : Bool) → ltb k n ≡ t → nat_abs (get_or ys k (pos 0)) ≤ b + c
    go k l true e =
        let below : k < n = ltb-true k n e in
        subst (λ (z : ℤ). nat_abs z ≤ b + c) (sym (d.added k below)) (abs_plus (get_or xs k (pos 0)) (more k) (a.size k l) (h k below))
    go k l false e =
        subst (λ (z : ℤ). nat_abs z ≤ b + c) (sym (d.others k (ltb-false k n e))) (le_trans (a.size k l) (omega arith))

-- deltas, read as integers
-- deltas by their numbers
pub same_deltas : (xs ys : List Delta) → deltas_in xs ≡ deltas_in ys → xs ≡ ys
same_deltas xs ys e =
    ext_get_or (record { 0 = pos 0 }) xs ys (sym (length-map xs (λ d. d.0)) ∙ ap length e ∙ length-map ys (λ d. d.0))
    (λ j h. one (sym (delta_at_lem xs j) ∙ ap (λ (zs : List ℤ). get_or zs j (pos 0)) e ∙ delta_at_lem ys j))
  where
    one : {x y : Delta} → x.0 ≡ y.0 → x ≡ y
    one q = λ i. record { 0 = q i }
