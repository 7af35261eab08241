-- The records of a file up to record k: in file order, `cut k file`, and the latest first, `earlier file k`.
-- Assumes nothing.
use Prim.Native.Nat.{ℕ, zero, suc, ◌+◌, ◌-◌, ◌*◌, ◌≤◌}
use mathlib.Core.Path.{◌≡◌, refl, sym, ap, ◌∙◌}
use mathlib.Core.Bool.{Bool, true, false, ◌||◌, or-false}
use mathlib.Core.List.{List, [], ◌∷◌, ◌++◌}
use lib.ListN.{length, take, drop, length-drop}
use lib.Seq.{drop-drop, take-take, take-add, drop_at, length-take-le}
use native.Mathlib.Omega.{arith}
use Rattle.record.specs.Bytes.{record_bytes}
use Rattle.exact.specs.Lists.{any, count}
use Rattle.exact.proofs.Lists.{count_append, any_append}
use Rattle.record.specs.Layout.{Record}
use Rattle.account.specs.Records.{cut, stretch, record_at, records, record_count, earlier}

pub cut_more : (k : ℕ) (file : List ℕ) → cut (suc k) file ≡ cut k file ++ record_at file k ∷ []
cut_more zero file = refl
cut_more (suc k) file =
    let d : record_bytes + k * record_bytes ≡ suc k * record_bytes = omega arith in
    ap (λ (l : List Record). take record_bytes file ∷ l) (cut_more k (drop record_bytes file))
    ∙ ap (λ (b : List ℕ). take record_bytes file ∷ cut k (drop record_bytes file) ++ take record_bytes b ∷ [])
    (drop-drop (k * record_bytes) record_bytes file ∙ ap (λ (n : ℕ). drop n file) d)

or_comm : (a b : Bool) → a || b ≡ b || a
or_comm true true = refl
or_comm true false = refl
or_comm false true = refl
or_comm false false = refl

module _ (p : Record → Bool) (file : List ℕ) where
  pub any_earlier : (k : ℕ) → any p (earlier file k) ≡ any p (cut k file)
  any_earlier zero = refl
  any_earlier (suc k) =
      ap (λ (b : Bool). p (record_at file k) || b) (any_earlier k) ∙ or_comm (p (record_at file k)) (any p (cut k file))
      ∙ ap (λ (b : Bool). any p (cut k file) || b) (sym (or-false (p (record_at file k))))
      ∙ sym (any_append p (cut k file) (record_at file k ∷ [])) ∙ ap (any p) (sym (cut_more k file))

  pub count-earlier : (k : ℕ) → count p (earlier file k) ≡ count p (cut k file)
  count-earlier zero = refl
  count-earlier (suc k) =
      let i = count-earlier k in
      let a = count_append p (cut k file) (record_at file k ∷ []) in
      let m = ap (count p) (cut_more k file) in
      omega arith

-- ---- a stretch of the file is a part of its records
drop-cut : (f k : ℕ) (file : List ℕ) → f ≤ k → drop f (cut k file) ≡ cut (k - f) (drop (f * record_bytes) file)
drop-cut zero k file h =
    let e : k - 0 ≡ k = omega arith in
    rw e
drop-cut (suc f) zero file h = absurd (omega arith)
drop-cut (suc f) (suc k) file h =
    let e : suc k - suc f ≡ k - f = omega arith in
    let d : record_bytes + f * record_bytes ≡ suc f * record_bytes = omega arith in
    drop-cut f k (drop record_bytes file) (omega arith)
    ∙ ap (cut (k - f)) (drop-drop (f * record_bytes) record_bytes file ∙ ap (λ (n : ℕ). drop n file) d)
    ∙ ap (λ (n : ℕ). cut n (drop (suc f * record_bytes) file)) (sym e)

pub take-cut : (n m : ℕ) (file : List ℕ) → n ≤ m → take n (cut m file) ≡ cut n file
take-cut zero m file h = refl
take-cut (suc n) zero file h = absurd (omega arith)
take-cut (suc n) (suc m) file h = ap (λ (l : List Record). take record_bytes file ∷ l)
    (take-cut n m (drop record_bytes file) (omega arith))

cut-take : (n : ℕ) (file : List ℕ) → n * record_bytes ≤ length file → cut n (take (n * record_bytes) file) ≡ cut n file
cut-take zero file h = refl
cut-take (suc n) file h =
    let e : suc n * record_bytes ≡ record_bytes + n * record_bytes = omega arith in
    let l : length (take record_bytes file) ≡ record_bytes = length-take-le record_bytes file (omega arith) in
    let d : length (drop record_bytes file) ≡ length file - record_bytes = length-drop record_bytes file in
    let both : take (suc n * record_bytes) file ≡ take record_bytes file ++ take (n * record_bytes) (drop record_bytes file) =
    ap (λ (m : ℕ). take m file) e ∙ take-add record_bytes (n * record_bytes) file in
    let left : take record_bytes (take (suc n * record_bytes) file) ≡ take record_bytes file = take-take record_bytes (suc n * record_bytes) file (omega arith) in
    let right : drop record_bytes (take (suc n * record_bytes) file) ≡ take (n * record_bytes) (drop record_bytes file) =
    ap (drop record_bytes) both ∙ drop_at (take record_bytes file) (take (n * record_bytes) (drop record_bytes file)) record_bytes l in
    ap (λ (r : Record). r ∷ cut n (drop record_bytes (take (suc n * record_bytes) file))) left
    ∙ ap (λ (b : List ℕ). take record_bytes file ∷ cut n b) right
    ∙ ap (λ (rs : List Record). take record_bytes file ∷ rs) (cut-take n (drop record_bytes file) (omega arith))

pub stretch-cut :
    (file : List ℕ) (f n k : ℕ) → f + n ≤ k → k ≤ record_count file
    → records (stretch file f n) ≡ take n (drop f (cut k file))
stretch-cut file f n k h m =
    let b = drop (f * record_bytes) file in
    let l : length b ≡ length file - f * record_bytes = length-drop (f * record_bytes) file in
    let t : length (take (n * record_bytes) b) ≡ n * record_bytes = length-take-le (n * record_bytes) b (omega arith) in
    let c : record_count (stretch file f n) ≡ n = omega arith in
    ap (λ (i : ℕ). cut i (stretch file f n)) c
    ∙ cut-take n b (omega arith)
    ∙ sym (take-cut n (k - f) b (omega arith))
    ∙ ap (take n) (sym (drop-cut f k file (omega arith)))
