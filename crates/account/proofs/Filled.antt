-- Arrays filled place by place: the notes of a joined account.
-- Assumes nothing.
use Prim.Native.Nat.{ℕ, zero, suc, ◌+◌, ◌-◌, ◌%◌, ◌≤◌, ◌<◌}
use native.Mathlib.Nat.{le_of_suc-le-suc, not-suc-le-zero}
use native.Mathlib.Decide.{ℕ_discrete}
use native.Mathlib.Omega.{arith}
use mathlib.Core.Path.{◌≡◌, refl, sym, ap, ap₂, subst, ◌∙◌}
use mathlib.Core.Bool.{Bool, true, false, ◌&&◌, cond}
use mathlib.Core.List.{List, [], ◌∷◌, ◌++◌, append-nil}
use lib.Dec.{ltb}
use lib.ListN.{length, get_or, take, drop, set, replicate, length-append, length-set}
use lib.Seq.{get_or-set_same, get_or-set_other}
use borrow.Author.Tests.{ltb-true, ltb-false}
use denote.Param.Members.{Mut}
use Rattle.std.specs.Array.{IsFromFnResultFrom}
use Rattle.std.specs.Fn.{Called}
use Rattle.std.specs.List as Std
use Rattle.std.proofs.lemmas.List.Sums as Sums
use Rattle.exact.specs.Lists.{cons_if, keep, sum}
use Rattle.record.specs.Bytes.{count_from}
use Rattle.account.specs.Check.{most_contracts}
use Rattle.account.specs.PartNumbers.{parts, entry_part}
use Rattle.account.specs.code.Standing.{lists, either_note, Filled, Flagged, EitherTo}

module _ {A : Type 0} (d : A) (f : ℕ → A) (xs : List A) (v : ℕ) (x : A) (h : v < length xs) (e : x ≡ f v) (old : (i : ℕ) → i < v → get_or xs i d ≡ f i) where
  pub filled_next : (i : ℕ) → i < v + 1 → get_or (set xs v x) i d ≡ f i
  filled_next i l = go (ℕ_discrete i v)
    where
      go : Dec (i ≡ v) → get_or (set xs v x) i d ≡ f i
      go (yes q) = ap (λ (k : ℕ). get_or (set xs v x) k d) q ∙ get_or-set_same xs v x d h ∙ e ∙ ap f (sym q)
      go (no q) = get_or-set_other xs v i x d q ∙ old i (omega (arith, q))

-- an array made of a function that gives h of each index
module _ {F B : Type 0} {g : Mut F (ℕ × Unit {0}) B} (f : F) (h : ℕ → B)
    (gives : (k : ℕ) (x : B) (q : F) → Called g f (k, tt) x q → (q ≡ f) × (x ≡ h k)) (xs : List B) where
  pub made_at : (n i : ℕ) → IsFromFnResultFrom g f xs i n → (k : ℕ) → i ≤ k → k < i + n → (d : B) → get_or xs k d ≡ h k
  made_at zero i made k low high d = absurd (omega arith)
  made_at (suc n) i made k low high d =
      let gave = gives i made.1 made.0 made.3 in
      let rest = subst (λ (q : F). IsFromFnResultFrom g q xs (i + 1) n) gave.0 made.4 in
      elim (ℕ_discrete k i) [
        | yes e ↦ ap (λ (m : ℕ). get_or xs m d) e ∙ made.2.1 d ∙ gave.1 ∙ ap h (sym e)
        | no e ↦ made_at n (i + 1) rest k (omega (arith, e)) (omega arith) d
      ]

-- one note more of whichever file supplies it
module _ {morning noon notes : List ℕ} {late : List Bool} (start c x : ℕ) (aligned : start % most_contracts ≡ 0) (h : c < most_contracts)
    (fits : start + c < parts) (e : x ≡ cond (get_or late c false) (get_or noon (start + c) 0) (get_or notes (start + c) 0)) where
  pub either_next : EitherTo morning noon late (start + c) notes → EitherTo morning noon late (start + (c + 1)) (set notes (start + c) x)
  either_next old =
      record {
        long = length-set notes (start + c) x ∙ old.long;
        done = λ v l. filled_next 0 (λ (i : ℕ). cond (get_or late (i % most_contracts) false) (get_or noon i 0) (get_or morning i 0)) notes (start + c) x
            (omega (arith, fits, old.long)) chosen old.done v (omega (arith, l));
        rest = λ v l. get_or-set_other notes (start + c) v x 0 (λ q. absurd (omega (arith, q, l))) ∙ old.rest v (omega (arith, l));
      }
    where
      place : c ≡ (start + c) % most_contracts
      place = omega (arith, aligned, h)

      chosen : x ≡ cond (get_or late ((start + c) % most_contracts) false) (get_or noon (start + c) 0) (get_or morning (start + c) 0)
      chosen =
          e
          ∙ ap₂ (λ (k n : ℕ). cond (get_or late k false) (get_or noon (start + c) 0) n) place (old.rest (start + c) (omega arith))

-- all of them, where the flags are those of the noon file
pub either_all :
    {morning noon counts notes : List ℕ} {late : List Bool} → Flagged counts late → EitherTo morning noon late entry_part notes
    → Filled parts (either_note morning noon counts) notes
either_all {morning} {noon} {counts} {notes} {late} flagged e = record { long = e.long; each = λ v h. go v (ltb v entry_part) refl }
  where
    go : (v : ℕ) (t : Bool) → ltb v entry_part ≡ t → get_or notes v 0 ≡ cond (t && lists counts (v % most_contracts)) (get_or noon v 0) (get_or morning v 0)
    go v true l =
        e.done v (ltb-true v entry_part l)
        ∙ ap (λ (b : Bool). cond b (get_or noon v 0) (get_or morning v 0)) (flagged.each (v % most_contracts) (omega arith))
    go v false l = e.rest v (ltb-false v entry_part l)

pub take_next : (xs : List ℕ) (n x : ℕ) → n < length xs → take (suc n) (set xs n x) ≡ take n xs ++ x ∷ []
take_next [] n x h = absurd (not-suc-le-zero h)
take_next (y ∷ xs) zero x h = refl
take_next (y ∷ xs) (suc n) x h = ap (λ (ys : List ℕ). y ∷ ys) (take_next xs n x (le_of_suc-le-suc h))

put_before : (t : Bool) (x : ℕ) (xs ys : List ℕ) → cons_if t x (xs ++ ys) ≡ cons_if t x xs ++ ys
put_before true x xs ys = refl
put_before false x xs ys = refl

-- the first n numbers and those after them
keep-parts : (p : ℕ → Bool) (from n m : ℕ) → keep p (count_from from (n + m)) ≡ keep p (count_from from n) ++ keep p (count_from (from + n) m)
keep-parts p from zero m =
    let e : 0 + m ≡ m = omega arith in
    let z : from ≡ from + 0 = omega arith in
    ap (λ (k : ℕ). keep p (count_from from k)) e ∙ ap (λ (k : ℕ). keep p (count_from k m)) z
keep-parts p from (suc n) m =
    let e : suc n + m ≡ suc (n + m) = omega arith in
    let d : from + 1 + n ≡ from + suc n = omega arith in
    ap (λ (k : ℕ). keep p (count_from from k)) e
    ∙ ap (cons_if (p from) from) (keep-parts p (from + 1) n m ∙ ap (λ (k : ℕ). keep p (count_from (from + 1) n) ++ keep p (count_from k m)) d)
    ∙ put_before (p from) from (keep p (count_from (from + 1) n)) (keep p (count_from (from + suc n) m))

keep_next : (p : ℕ → Bool) (from n : ℕ) → keep p (count_from from (suc n)) ≡ keep p (count_from from n) ++ cons_if (p (from + n)) (from + n) []
keep_next p from n = let e : suc n ≡ n + 1 = omega arith in ap (λ (k : ℕ). keep p (count_from from k)) e ∙ keep-parts p from n 1

pub kept_few : (p : ℕ → Bool) (from n : ℕ) → length (keep p (count_from from n)) ≤ n
kept_few p from zero = omega arith
kept_few p from (suc n) = go (p from) (kept_few p (from + 1) n)
  where
    go : (t : Bool) → length (keep p (count_from (from + 1) n)) ≤ n → length (cons_if t from (keep p (count_from (from + 1) n))) ≤ suc n
    go true h = omega arith
    go false h = omega arith

no_length : (xs : List ℕ) → length xs ≡ 0 → xs ≡ []
no_length [] e = refl
no_length (x ∷ xs) e = absurd (omega (arith, e))

-- as many are found as there may be: there are no more
pub all_found :
    (p : ℕ → Bool) (n c m : ℕ) → n ≡ length (keep p (count_from 0 c)) → c ≤ m → length (keep p (count_from 0 m)) ≤ n
    → keep p (count_from 0 c) ≡ keep p (count_from 0 m)
all_found p n c m many h few =
    sym (whole ∙ ap (λ (ys : List ℕ). keep p (count_from 0 c) ++ ys) (no_length later none) ∙ append-nil (keep p (count_from 0 c)))
  where
    later : List ℕ
    later = keep p (count_from (0 + c) (m - c))

    whole : keep p (count_from 0 m) ≡ keep p (count_from 0 c) ++ later
    whole = let e : m ≡ c + (m - c) = omega arith in ap (λ (k : ℕ). keep p (count_from 0 k)) e ∙ keep-parts p 0 c (m - c)

    none : length later ≡ 0
    none = omega (arith, ap length whole, length-append (keep p (count_from 0 c)) later, many, few)

drop-set : (xs : List ℕ) (n x : ℕ) → drop (suc n) (set xs n x) ≡ drop (suc n) xs
drop-set [] zero x = refl
drop-set [] (suc n) x = refl
drop-set (y ∷ xs) zero x = refl
drop-set (y ∷ xs) (suc n) x = drop-set xs n x

-- one less is left
left_next : (xs : List ℕ) (n k : ℕ) → drop n xs ≡ replicate (suc k) 0 → drop (suc n) xs ≡ replicate k 0
left_next [] zero k e = absurd (omega (arith, ap length e))
left_next [] (suc n) k e = absurd (omega (arith, ap length e))
left_next (y ∷ xs) zero k e = ap (drop 1) e
left_next (y ∷ xs) (suc n) k e = left_next xs n k e

-- one number more that is looked at: it is listed and put after the others, or it is not
module _ (p : ℕ → Bool) (c : ℕ) where
  keep_more : keep p (count_from 0 (c + 1)) ≡ keep p (count_from 0 c) ++ cons_if (p c) c []
  keep_more =
      let more : c + 1 ≡ suc c = omega arith in
      let same : 0 + c ≡ c = omega arith in
      ap (λ (m : ℕ). keep p (count_from 0 m)) more ∙ keep_next p 0 c ∙ ap (λ (k : ℕ). keep p (count_from 0 c) ++ cons_if (p k) k []) same

  pub numbers_next :
      (n : ℕ) (xs : List ℕ) → n < length xs → p c ≡ true → take n xs ≡ keep p (count_from 0 c)
      → take (n + 1) (set xs n c) ≡ keep p (count_from 0 (c + 1))
  numbers_next n xs h e old =
      let m : n + 1 ≡ suc n = omega arith in
      ap (λ (k : ℕ). take k (set xs n c)) m ∙ take_next xs n c h ∙ ap₂ ◌++◌ old (sym (ap (λ (b : Bool). cons_if b c []) e)) ∙ sym keep_more

  pub numbers_same : p c ≡ false → keep p (count_from 0 c) ≡ keep p (count_from 0 (c + 1))
  numbers_same e =
      sym (keep_more ∙ ap (λ (b : Bool). keep p (count_from 0 c) ++ cons_if b c []) e ∙ append-nil (keep p (count_from 0 c)))

-- one place less is left
pub left_after :
    (xs : List ℕ) (n c m : ℕ) → n < m → drop n xs ≡ replicate (m - n) 0 → drop (n + 1) (set xs n c) ≡ replicate (m - (n + 1)) 0
left_after xs n c m h old =
    let a : n + 1 ≡ suc n = omega arith in
    let b : m - n ≡ suc (m - (n + 1)) = omega arith in
    ap (λ (k : ℕ). drop k (set xs n c)) a ∙ drop-set xs n c ∙ left_next xs n (m - (n + 1)) (old ∙ ap (λ (k : ℕ). replicate k 0) b)

pub sum_next : (xs : List ℕ) (v : ℕ) → v < length xs → sum (take (suc v) xs) ≡ sum (take v xs) + get_or xs v 0
sum_next [] v h = absurd (not-suc-le-zero h)
sum_next (x ∷ xs) zero h = omega arith
sum_next (x ∷ xs) (suc v) h = let r = sum_next xs v (le_of_suc-le-suc h) in omega arith

-- the sum of the library is the one of `exact`
pub sum_is : (xs : List ℕ) → Std.sum xs ≡ sum xs
sum_is [] = refl
sum_is (x ∷ xs) = Sums.sum_by-cons (λ n. n) x xs ∙ ap (λ (n : ℕ). x + n) (sum_is xs)
