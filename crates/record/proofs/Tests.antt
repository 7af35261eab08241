-- Tests in a row, and a test over a count of numbers, taken one number at a time.
-- Assumes nothing.
use Prim.Native.Nat.{ℕ, zero, suc, ◌+◌, ◌-◌, ◌≤◌, ◌<◌}
use mathlib.Core.Path.{◌≡◌, refl, sym, ap, ◌∙◌}
use mathlib.Core.Bool.{Bool, true, false, ◌||◌, or-true, or-false, or_assoc}
use mathlib.Core.List.{List, ◌∷◌, ◌++◌}
use native.Mathlib.Omega.{arith}
use Rattle.exact.specs.Lists.{any}
use Rattle.exact.proofs.Lists.{any_append}
use Rattle.record.specs.Bytes.{count_from}

pub both : {a b c d : Bool} → a ≡ b → c ≡ d → a || c ≡ b || d
both p q = rw (p, q)

-- a test beside the third of several, taken out behind them all
pub or_inside : (a b c d e : Bool) → a || (b || ((c || d) || e)) ≡ (a || (b || (c || e))) || d
or_inside true b c d e = refl
or_inside false true c d e = refl
or_inside false false true d e = refl
or_inside false false false true e = sym (or-true e)
or_inside false false false false e = sym (or-false e)

pub last : {a b : Bool} → a ≡ b → a ≡ b || false
last {a} {b} p = p ∙ sym (or-false b)

counts_on : (e i : ℕ) → i < e → count_from i (e - i) ≡ i ∷ count_from (i + 1) (e - (i + 1))
counts_on e i h =
    let s : e - i ≡ suc (e - (i + 1)) = omega arith in
    rw s

-- a loop that tests one number after the other: what is known so far, or what is to come
module _ (p : ℕ → Bool) (e i : ℕ) (b : Bool) where
  pub any_next : i < e → b || any p (count_from i (e - i)) ≡ (b || p i) || any p (count_from (i + 1) (e - (i + 1)))
  any_next h = rw (counts_on e i h) (sym (or_assoc b (p i) (any p (count_from (i + 1) (e - (i + 1))))))

  pub any_past : e ≤ i → b || any p (count_from i (e - i)) ≡ b
  any_past h =
      let s : e - i ≡ 0 = omega arith in
      rw s (or-false b)

-- tests that agree on the numbers
pub any_same : (p q : ℕ → Bool) (n i : ℕ) → ((k : ℕ) → i ≤ k → k < i + n → p k ≡ q k)
    → any p (count_from i n) ≡ any q (count_from i n)
any_same p q zero i same = refl
any_same p q (suc n) i same =
    both (same i (omega arith) (omega arith)) (any_same p q n (i + 1) (λ k g h. same k (omega arith) (omega arith)))

-- a count of numbers in two parts
counts_parted : (m n o : ℕ) → count_from o (m + n) ≡ count_from o m ++ count_from (o + m) n
counts_parted zero n o =
    let t : 0 + n ≡ n = omega arith in
    let s : o ≡ o + 0 = omega arith in
    ap (count_from o) t ∙ ap (λ (k : ℕ). count_from k n) s
counts_parted (suc m) n o =
    let t : suc m + n ≡ suc (m + n) = omega arith in
    let s : o + 1 + m ≡ o + suc m = omega arith in
    ap (count_from o) t
    ∙ ap (λ (ks : List ℕ). o ∷ ks) (counts_parted m n (o + 1) ∙ ap (λ (k : ℕ). count_from (o + 1) m ++ count_from k n) s)

pub any_parted :
    (p : ℕ → Bool) (m n o k : ℕ) → k ≡ o + m → {a b : Bool} → a ≡ any p (count_from o m) → b ≡ any p (count_from k n)
    → a || b ≡ any p (count_from o (m + n))
any_parted p m n o k s e f =
    both e (f ∙ ap (λ (j : ℕ). any p (count_from j n)) s)
    ∙ sym (ap (any p) (counts_parted m n o) ∙ any_append p (count_from o m) (count_from (o + m) n))
