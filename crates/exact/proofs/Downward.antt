-- The largest total and its first number, found from the last total to the first.
-- Assumes nothing.
use mathlib.Core.Path.{◌≡◌, refl, sym, ◌∙◌, ap, ap₂, subst}
use mathlib.Core.Bool.{Bool, true, false, cond}
use mathlib.Core.List.{List, [], ◌∷◌}
use Prim.Native.Nat.{ℕ, zero, suc, ◌+◌, ◌-◌, ◌≤◌, ◌<◌}
use native.Mathlib.Nat.{not-suc-le-zero}
use native.Mathlib.Omega.{arith}
use lib.IntN.{ℤ, pos}
use lib.ListN.{length, get_or, drop, drop_of_length-le}
use lib.Seq.{drop-cons}
use lib.Signed.{lt_z}
use Rattle.exact.specs.Signed.{larger}
use Rattle.exact.specs.Largest.{largest, first_at, IsLargest}
use Rattle.exact.proofs.Totals.{same_refl, first_earlier}

number_earlier : (j : ℕ) (x y : ℤ) (ys : List ℤ) (n : ℕ) → n ≡ suc j + first_at (largest (y ∷ ys)) (y ∷ ys)
    → cond (lt_z x (largest (y ∷ ys))) n (j + 1) ≡ j + first_at (largest (x ∷ y ∷ ys)) (x ∷ y ∷ ys)
number_earlier j x y ys n e = go (lt_z x (largest (y ∷ ys))) ∙ ap (λ (k : ℕ). j + k) (sym (first_earlier x y ys))
  where
    go : (t : Bool) → cond t n (j + 1) ≡ j + cond t (suc (first_at (largest (y ∷ ys)) (y ∷ ys))) 1
    go true = omega arith
    go false = refl

-- the totals from place i on are seen: a value and a number are their largest and its first number
pub record Seen (ts : List ℤ) (i : ℕ) (value : ℤ) (number : ℕ) : Type 0 where
  pub sixteen : length ts ≡ 16
  pub within : i < 16
  pub value_is : value ≡ largest (drop i ts)
  pub number_is : number ≡ i + first_at (largest (drop i ts)) (drop i ts)

pub start : (ts : List ℤ) (x : ℤ) → length ts ≡ 16 → x ≡ get_or ts 15 (pos 0) → Seen ts 15 x 16
start ts x sixteen e =
    let last : drop 15 ts ≡ x ∷ [] =
    drop-cons ts 15 (pos 0) (omega arith) ∙ ap₂ (λ (y : ℤ) (ys : List ℤ). y ∷ ys) (sym e) (drop_of_length-le ts {i = 16} (omega arith)) in
    record {
      sixteen = sixteen;
      within = omega arith;
      value_is = rw last;
      number_is = rw (last, same_refl x);
    }

earlier : (ts : List ℤ) (j : ℕ) (v v' : ℤ) (n n' : ℕ) → Seen ts (suc j) v n
    → v' ≡ larger (get_or ts j (pos 0)) v
    → n' ≡ cond (lt_z (get_or ts j (pos 0)) v) n (j + 1)
    → Seen ts j v' n'
earlier ts j v v' n n' s ev en =
    let x = get_or ts j (pos 0) in
    let y = get_or ts (suc j) (pos 0) in
    let ys = drop (suc (suc j)) ts in
    let seen : drop (suc j) ts ≡ y ∷ ys = drop-cons ts (suc j) (pos 0) (omega (arith, s.sixteen, s.within)) in
    let all : drop j ts ≡ x ∷ y ∷ ys = drop-cons ts j (pos 0) (omega (arith, s.sixteen, s.within)) ∙ ap (λ (zs : List ℤ). x ∷ zs) seen in
    let v-is : v ≡ largest (y ∷ ys) = s.value_is ∙ ap largest seen in
    let n-is : n ≡ suc j + first_at (largest (y ∷ ys)) (y ∷ ys) = s.number_is ∙ ap (λ (zs : List ℤ). suc j + first_at (largest zs) zs) seen in
    record {
      sixteen = s.sixteen;
      within = omega (arith, s.within);
      value_is = ev ∙ ap (larger x) v-is ∙ ap largest (sym all);
      number_is = en ∙ ap (λ (w : ℤ). cond (lt_z x w) n (j + 1)) v-is ∙ number_earlier j x y ys n n-is
          ∙ ap (λ (zs : List ℤ). j + first_at (largest zs) zs) (sym all);
    }

pub next : (ts : List ℤ) (i : ℕ) (v v' : ℤ) (n n' : ℕ) → 0 < i → Seen ts i v n
    → v' ≡ larger (get_or ts (i - 1) (pos 0)) v
    → n' ≡ cond (lt_z (get_or ts (i - 1) (pos 0)) v) n (i - 1 + 1)
    → Seen ts (i - 1) v' n'
next ts i v v' n n' above s ev en =
    earlier ts (i - 1) v v' n n' (subst (λ (k : ℕ). Seen ts k v n) (omega arith) s) ev en

pub finish : (ts : List ℤ) (i : ℕ) (v : ℤ) (n : ℕ) → i ≤ 0 → Seen ts i v n → IsLargest ts v n
finish ts zero v n h s = record { value_is = s.value_is; number_is = omega (arith, s.number_is) }
finish ts (suc i) v n h s = absurd (not-suc-le-zero h)
