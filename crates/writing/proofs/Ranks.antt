-- What an entry goes by, and the keys of all.
-- Assumes nothing.
use Prim.Native.Nat.{ℕ, zero, suc, ◌+◌, ◌*◌, ◌≤◌, ◌<◌}
use mathlib.Core.Path.{◌≡◌, refl, sym, ap, ap₂, ◌∙◌}
use mathlib.Core.Bool.{Bool, true, false, cond}
use mathlib.Core.List.{List, [], ◌∷◌, ◌++◌}
use lib.Dec.{eqb, leb}
use lib.ListN.{length, get_or, take, drop, set, replicate, length-append, length-drop, length-set, length-replicate}
use lib.Seq.{get_or-set_same, get_or-set_other, length-take-le, take_at}
use native.Mathlib.Decide.{ℕ_discrete}
use native.Mathlib.Omega.{arith}
use borrow.Author.Tests.{ne_eqb}
use Rattle.account.specs.Check.{most_records}
use Rattle.record.specs.Bytes.{count_from}
use Rattle.record.specs.Layout.{Record, kind, contract, day}
use Rattle.account.specs.Records.{record_at, record_count}
use Rattle.writing.specs.Order.{of_its_kind, rank, rank_at, places, Keyed, Ordered}
use Rattle.writing.specs.code.Sorting.{key_at}
use Rattle.writing.specs.Sorting.{put_in, sorted}
use Rattle.writing.proofs.Placed.{All, all_sorted, all_weaker, counted_all, places_long}

pub of_prompt : (r : Record) → kind r ≡ 2 → of_its_kind r ≡ contract r * 4294967296 + day r
of_prompt r e = rw e

pub of_entry : (r : Record) → kind r ≡ 5 → of_its_kind r ≡ 0
of_entry r e = rw e

any_other :
    (x y z : ℕ) (a b c d e f : Bool) → b ≡ false → e ≡ false
    → cond a x (cond b y (cond c x (cond d x (cond e z (cond f x x))))) ≡ x
any_other x y z true b c d e f hb he = refl
any_other x y z false b true d e f hb he = rw hb
any_other x y z false b false true e f hb he = rw hb
any_other x y z false b false false e true hb he = rw (hb, he)
any_other x y z false b false false e false hb he = rw (hb, he)

-- a currency stands where others have their contract
pub of_other : (r : Record) → (kind r ≡ 2 → ⊥) → (kind r ≡ 5 → ⊥) → of_its_kind r ≡ contract r
of_other r h g =
    any_other (contract r) (contract r * 4294967296 + day r) 0 (eqb (kind r) 1) (eqb (kind r) 2) (eqb (kind r) 3)
    (eqb (kind r) 4) (eqb (kind r) 5) (eqb (kind r) 6) (ne_eqb (kind r) 2 h) (ne_eqb (kind r) 5 g)

-- ---- the keys, one after the other
pub record Keying (entries keys : List ℕ) (k : ℕ) : Type 0 where
  pub long : length keys ≡ most_records
  pub inside : k ≤ record_count entries
  pub done : (i : ℕ) → i < k → get_or keys i 0 ≡ rank_at entries i

pub keying_start : (entries : List ℕ) → Keying entries (replicate most_records 0) 0
keying_start entries =
    record { long = length-replicate {A = ℕ} most_records 0; inside = omega arith; done = λ i h. absurd (omega arith) }

pub keying_next :
    {entries keys : List ℕ} {k : ℕ} → Keying entries keys k → record_count entries ≤ most_records → {r : Record} {x : ℕ}
    → k < record_count entries → r ≡ record_at entries k → x ≡ rank r → Keying entries (set keys k x) (k + 1)
keying_next {entries} {keys} {k} s room {r} {x} more hr hx =
    record {
      long = length-set keys k x ∙ s.long;
      inside = omega arith;
      done = λ i h. here i h (ℕ_discrete i k);
    }
  where
    here : (i : ℕ) → i < k + 1 → Dec (i ≡ k) → get_or (set keys k x) i 0 ≡ rank_at entries i
    here i h (yes e) =
        ap (λ (j : ℕ). get_or (set keys k x) j 0) e ∙ get_or-set_same keys k x 0 (omega (arith, s.long)) ∙ hx ∙ ap rank hr
        ∙ ap (rank_at entries) (sym e)
    here i h (no e) = get_or-set_other keys k i x 0 e ∙ s.done i (omega (arith, e))

pub keying_ends : {entries keys : List ℕ} {k : ℕ} → Keying entries keys k → record_count entries ≤ k → Keyed entries keys
keying_ends {entries} {keys} {k} s past = record { long = s.long; each = λ i h. s.done i (omega arith) }

-- ---- the order
module _ (f g : ℕ → ℕ) where
  put_same : (x : ℕ) (ys : List ℕ) → f x ≡ g x → All (λ (y : ℕ). f y ≡ g y) ys → put_in f x ys ≡ put_in g x ys
  put_same x [] e h = refl
  put_same x (y ∷ ys) e h =
      ap (λ (b : Bool). cond b (x ∷ y ∷ ys) (y ∷ put_in f x ys)) (ap₂ leb e h.0)
      ∙ ap (λ (zs : List ℕ). cond (leb (g x) (g y)) (x ∷ y ∷ ys) (y ∷ zs)) (put_same x ys e h.1)

  sorted_same : (xs : List ℕ) → All (λ (y : ℕ). f y ≡ g y) xs → sorted f xs ≡ sorted g xs
  sorted_same [] h = refl
  sorted_same (x ∷ xs) h =
      put_same x (sorted f xs) h.0 (all_sorted (λ (y : ℕ). f y ≡ g y) f xs h.1)
      ∙ ap (put_in g x) (sorted_same xs h.1)

-- fewer than two are their own sort
pub short-sorted : (keys xs : List ℕ) → length xs < 2 → xs ≡ sorted (key_at keys) xs
short-sorted keys [] h = refl
short-sorted keys (x ∷ []) h = refl
short-sorted keys (x ∷ y ∷ ys) h = absurd (omega arith)

take_count : (n m k : ℕ) → m ≤ k → take m (count_from n k) ≡ count_from n m
take_count n zero k h = refl
take_count n (suc m) zero h = absurd (omega arith)
take_count n (suc m) (suc k) h = ap (λ (xs : List ℕ). n ∷ xs) (take_count (n + 1) m k (omega arith))

pub ordered_by :
    (entries first : List ℕ) {keys sortedFirst : List ℕ} {n : ℕ} → record_count entries ≤ most_records → Keyed entries keys → n ≡ record_count entries
    → length first ≡ most_records → sortedFirst ≡ sorted (key_at keys) (count_from 0 (length (take n first)))
    → Ordered entries (sortedFirst ++ drop n first)
ordered_by entries first {keys} {sortedFirst} {n} room k hn hl hs =
    let m : length (take n first) ≡ n = length-take-le n first (omega arith) in
    let is : sortedFirst ≡ places entries =
    hs ∙ ap (λ (j : ℕ). sorted (key_at keys) (count_from 0 j)) (m ∙ hn)
    ∙ sorted_same (key_at keys) (rank_at entries) (count_from 0 (record_count entries))
    (all_weaker (λ (j : ℕ). j < record_count entries) (λ (j : ℕ). key_at keys j ≡ rank_at entries j) k.each (count_from 0 (record_count entries))
    (counted_all (record_count entries) 0 (record_count entries) (omega arith))) in
    let l : length sortedFirst ≡ record_count entries = ap length is ∙ places_long entries in
    record {
      long = omega (arith, length-append sortedFirst (drop n first), length-drop n first);
      first = take_at sortedFirst (drop n first) (record_count entries) l ∙ is;
    }
