-- A record put among bytes in place: one byte more is moved up at each turn, and what is moved and what is not are the whole.
-- Assumes nothing.
use Prim.Native.Nat.{ℕ, suc, ◌+◌, ◌-◌, ◌≤◌, ◌<◌}
use native.Mathlib.Omega.{arith}
use mathlib.Core.Path.{◌≡◌, sym, ap, ap₂, subst, ◌∙◌}
use mathlib.Core.List.{List, [], ◌∷◌, ◌++◌}
use lib.ListN.{length, length-append, length-drop, get_or, set, take, drop, take-append-drop, get_or-append}
use lib.Seq.{length-take-le, drop_at, drop-drop, take-suc, drop-cons, set_at, get_or-take, take-take, take-append-le, append_snoc}
use Rattle.record.specs.Layout.{record_bytes}
use Rattle.screen.specs.code.Inserting.{moved_up, inserted}

-- the bytes from i on, m of them, moved up by n
abbrev pub lifted : ℕ → ℕ → ℕ → List ℕ → List ℕ
lifted n i m lent = take (i + n) lent ++ (take m (drop i lent) ++ drop (i + m + n) lent)

pub lifted_none : (n i : ℕ) (lent : List ℕ) → lent ≡ lifted n i 0 lent
lifted_none n i lent =
    let e : i + n ≡ i + 0 + n = omega arith in
    sym (take-append-drop (i + n) lent) ∙ ap (λ (k : ℕ). take (i + n) lent ++ drop k lent) e

-- a turn: the byte at k is put n further up
pub lifted_more : (n k m : ℕ) (lent : List ℕ) → k + suc m + n ≤ length lent
    → set (lifted n (suc k) m lent) (k + n) (get_or (lifted n (suc k) m lent) k 0) ≡ lifted n k (suc m) lent
lifted_more n k m lent h =
    let rest = take m (drop (suc k) lent) ++ drop (suc k + m + n) lent in
    let front = length-take-le (suc k + n) lent (omega (arith, h)) in
    let read : get_or (lifted n (suc k) m lent) k 0 ≡ get_or lent k 0 =
    get_or-append (take (suc k + n) lent) rest 0 k (omega (arith, front)) ∙ get_or-take (suc k + n) lent k 0 (omega arith)
    in
    let s : suc k + n ≡ suc (k + n) = omega arith in
    let j : suc k + m + n ≡ k + suc m + n = omega arith in
    let apart : take (suc k + n) lent ≡ take (k + n) lent ++ (get_or lent (k + n) 0 ∷ []) =
    ap (λ (i : ℕ). take i lent) s ∙ take-suc lent (k + n) 0 (omega (arith, h))
    in
    ap (set (lifted n (suc k) m lent) (k + n)) read
    ∙ ap (λ (xs : List ℕ). set (xs ++ rest) (k + n) (get_or lent k 0)) apart
    ∙ ap (λ (xs : List ℕ). set xs (k + n) (get_or lent k 0)) (append_snoc (take (k + n) lent) (get_or lent (k + n) 0) rest)
    ∙ set_at (take (k + n) lent) (get_or lent (k + n) 0) rest (get_or lent k 0) (k + n) (length-take-le (k + n) lent (omega (arith, h)))
    ∙ ap (λ (j : ℕ). take (k + n) lent ++ (get_or lent k 0 ∷ (take m (drop (suc k) lent) ++ drop j lent))) j
    ∙ ap (λ (xs : List ℕ). take (k + n) lent ++ (take (suc m) xs ++ drop (k + suc m + n) lent)) (sym (drop-cons lent k 0 (omega (arith, h))))

pub lifted_length : (n i m : ℕ) (lent : List ℕ) → i + m + n ≤ length lent → length (lifted n i m lent) ≡ length lent
lifted_length n i m lent h =
    let a = length-take-le (i + n) lent (omega (arith, h)) in
    let d = length-drop i lent in
    let b = length-take-le m (drop i lent) (omega (arith, h, d)) in
    let e = length-drop (i + m + n) lent in
    let p = length-append (take (i + n) lent) (take m (drop i lent) ++ drop (i + m + n) lent) in
    let q = length-append (take m (drop i lent)) (drop (i + m + n) lent) in
    omega (arith, a, b, e, p, q, h)

-- ---- while they are moved: those from i to before `end` stand a record higher
pub record Lifted (end : ℕ) (lent₀ lent : List ℕ) (i : ℕ) : Type 0 where
  pub is : lent ≡ lifted record_bytes i (end - i) lent₀
  pub within : i ≤ end

pub none_yet : (end : ℕ) (lent : List ℕ) → Lifted end lent lent end
none_yet end lent =
    let e : 0 ≡ end - end = omega arith in
    record { is = lifted_none record_bytes end lent ∙ ap (λ (m : ℕ). lifted record_bytes end m lent) e; within = omega arith }

module _ (end : ℕ) (lent₀ : List ℕ) (room : end + record_bytes ≤ length lent₀) (lent : List ℕ) where
  pub as_long : (i : ℕ) → Lifted end lent₀ lent i → length lent ≡ length lent₀
  as_long i l = ap length l.is ∙ lifted_length record_bytes i (end - i) lent₀ (let w = l.within in omega (arith, w, room))

  below : (k : ℕ) → Lifted end lent₀ lent (suc k) → Lifted end lent₀ (set lent (k + record_bytes) (get_or lent k 0)) k
  below k l =
      let w = l.within in
      let m = end - suc k in
      let more : suc m ≡ end - k = omega (arith, w) in
      record {
        is =
            ap (λ (xs : List ℕ). set xs (k + record_bytes) (get_or xs k 0)) l.is
            ∙ lifted_more record_bytes k m lent₀ (omega (arith, w, room))
            ∙ ap (λ (j : ℕ). lifted record_bytes k j lent₀) more;
        within = omega (arith, w);
      }

  pub one_more_lem : (i : ℕ) → 0 < i → Lifted end lent₀ lent i → Lifted end lent₀ (set lent (i - 1 + record_bytes) (get_or lent (i - 1) 0)) (i - 1)
  one_more_lem i h l =
      let e : i ≡ suc (i - 1) = omega (arith, h) in
      below (i - 1) (subst (Lifted end lent₀ lent) e l)

-- the whole of it
pub all_moved : (at end : ℕ) (lent : List ℕ) → at ≤ end → lifted record_bytes at (end - at) lent ≡ moved_up at end lent
all_moved at end lent h =
    let e : at + (end - at) + record_bytes ≡ end + record_bytes = omega (arith, h) in
    ap (λ (k : ℕ). take (at + record_bytes) lent ++ (take (end - at) (drop at lent) ++ drop k lent)) e

-- a record in the place of as many bytes
pub put_over :
    (at : ℕ) (row put lent : List ℕ) → length row ≡ record_bytes → put ≡ row
    → take at lent ++ (put ++ drop (at + record_bytes - at) (drop at lent)) ≡ take at lent ++ (row ++ drop (at + length row) lent)
put_over at row put lent l e =
    let n : at + (at + record_bytes - at) ≡ at + length row = omega (arith, l) in
    ap₂ (λ (xs ys : List ℕ). take at lent ++ (xs ++ ys)) e (drop-drop (at + record_bytes - at) at lent ∙ ap (λ (k : ℕ). drop k lent) n)

pub then_put : (at end : ℕ) (row lent : List ℕ) → length row ≡ record_bytes → at + record_bytes ≤ length lent
    → take at (moved_up at end lent) ++ (row ++ drop (at + length row) (moved_up at end lent)) ≡ inserted at end row lent
then_put at end row lent e h =
    let front = length-take-le (at + record_bytes) lent h in
    let rest = take (end - at) (drop at lent) ++ drop (end + record_bytes) lent in
    ap₂ (λ (xs ys : List ℕ). xs ++ (row ++ ys))
    (take-append-le at (take (at + record_bytes) lent) rest (omega (arith, front)) ∙ take-take at (at + record_bytes) lent (omega arith))
    (drop_at (take (at + record_bytes) lent) rest (at + length row) (omega (arith, front, e)))
