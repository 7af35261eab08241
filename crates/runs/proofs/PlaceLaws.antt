-- Places of one width, one after the other: those done, and those to go, are the whole; and what stands in each of them.
-- Assumes nothing.
use Prim.Native.Nat.{ℕ, zero, suc, ◌+◌, ◌*◌, ◌≤◌, ◌<◌}
use native.Mathlib.Nat.{mul-zero, mul-suc, le_of_suc-le-suc, not-suc-le-zero}
use native.Mathlib.Omega.{arith}
use mathlib.Core.Path.{◌≡◌, refl, sym, ap, ap₂, ◌∙◌}
use mathlib.Core.List.{List, [], ◌∷◌, ◌++◌, append_assoc}
use lib.ListN.{length, length-append, length-drop, get_or, set, take, drop, take-append-drop}
use lib.Seq.{length-take-le, take_at, drop_at, drop-append-add, drop-drop, sets-eq}
use Rattle.margin.specs.Places.{place, at_place}
use Rattle.runs.specs.Runs.{each_place}

module _ {ℓ} {A : Type ℓ} (width : ℕ) (after : List ℕ → List A → List A)
    (keeps : (a : List ℕ) (xs : List A) → length xs ≡ width → length (after a xs) ≡ width) where
  -- ---- while they are written: those of the accounts before i stand, those of `accounts` are to go
  pub record ToGo (whole : List A) (accounts : List (List ℕ)) (i : ℕ) (out : List A) : Type ℓ where
    pub is : whole ≡ take (width * i) out ++ each_place width after accounts (drop (width * i) out)

  pub start : (accounts : List (List ℕ)) (lent : List A) → ToGo (each_place width after accounts lent) accounts 0 lent
  start accounts lent =
      record { is = ap (λ (n : ℕ). take n lent ++ each_place width after accounts (drop n lent)) (sym (mul-zero width)) }

  module _ (whole : List A) (a : List ℕ) (accounts : List (List ℕ)) (i : ℕ) (out : List A) (room : width * i + width ≤ length out) where
    abbrev front : List A
    front = take (width * i) out

    abbrev written : List A
    written = after a (take width (drop (width * i) out))

    front_length : length front ≡ width * i
    front_length = length-take-le (width * i) out (omega arith)

    written-length : length written ≡ width
    written-length =
        keeps a (take width (drop (width * i) out))
        (length-take-le width (drop (width * i) out) (let d = length-drop (width * i) out in omega arith))

    both_length : length (front ++ written) ≡ width * suc i
    both_length = length-append front written ∙ ap₂ ◌+◌ front_length written-length ∙ sym (mul-suc width i)

    pub next : ToGo whole (a ∷ accounts) i out → ToGo whole accounts (suc i) (at_place width (width * i) (after a) out)
    next g =
        let rest = drop (width * i + width) out in
        let apart : at_place width (width * i) (after a) out ≡ (front ++ written) ++ rest = sym (append_assoc front written rest) in
        let done : take (width * suc i) (at_place width (width * i) (after a) out) ≡ front ++ written =
        ap (take (width * suc i)) apart ∙ take_at (front ++ written) rest (width * suc i) both_length
        in
        let left : drop (width * suc i) (at_place width (width * i) (after a) out) ≡ rest =
        ap (drop (width * suc i)) apart ∙ drop_at (front ++ written) rest (width * suc i) both_length
        in
        record {
          is =
              g.is
              ∙ ap (λ (xs : List A). front ++ (written ++ each_place width after accounts xs)) (drop-drop width (width * i) out)
              ∙ sym (append_assoc front written (each_place width after accounts rest))
              ∙ sym (ap₂ (λ (xs ys : List A). xs ++ each_place width after accounts ys) done left);
        }

    pub next_length : length (at_place width (width * i) (after a) out) ≡ length out
    next_length =
        length-append front (written ++ drop (width * i + width) out)
        ∙ ap₂ ◌+◌ front_length (length-append written (drop (width * i + width) out) ∙ ap₂ ◌+◌ written-length (length-drop (width * i + width) out))
        ∙ (omega arith)

  pub finish : (whole : List A) (i : ℕ) (out : List A) → ToGo whole [] i out → out ≡ whole
  finish whole i out g = sym (g.is ∙ take-append-drop (width * i) out)

  -- ---- once they are written
  head_length : (a : List ℕ) (accounts : List (List ℕ)) (lent : List A) → width * suc (length accounts) ≤ length lent
      → length (after a (take width lent)) ≡ width
  head_length a accounts lent h =
      keeps a (take width lent) (length-take-le width lent (let m = mul-suc width (length accounts) in omega arith))

  behind : (accounts : List (List ℕ)) (lent : List A) → width * suc (length accounts) ≤ length lent → width * length accounts ≤ length (drop width lent)
  behind accounts lent h = let m = mul-suc width (length accounts) in let d = length-drop width lent in omega arith

  -- past the first place
  beyond : (x rest : List A) (n : ℕ) → length x ≡ width → drop (width * suc n) (x ++ rest) ≡ drop (width * n) rest
  beyond x rest n e =
      let there : width * suc n ≡ length x + width * n = let m = mul-suc width n in omega (arith, e) in
      ap (λ (k : ℕ). drop k (x ++ rest)) there ∙ drop-append-add x rest (width * n)

  skipped : (n : ℕ) (lent : List A) → drop (width * n) (drop width lent) ≡ drop (width * suc n) lent
  skipped n lent =
      let there : width + width * n ≡ width * suc n = let m = mul-suc width n in omega arith in
      drop-drop (width * n) width lent ∙ ap (λ (k : ℕ). drop k lent) there

  pub placed : (accounts : List (List ℕ)) (lent : List A) → width * length accounts ≤ length lent → (i : ℕ) → i < length accounts →
      place width i (each_place width after accounts lent) ≡ after (get_or accounts i []) (place width i lent)
  placed [] lent h i k = absurd (not-suc-le-zero k)
  placed (a ∷ accounts) lent h zero k =
      let rest = each_place width after accounts (drop width lent) in
      ap (λ (n : ℕ). take width (drop n (after a (take width lent) ++ rest))) (mul-zero width)
      ∙ take_at (after a (take width lent)) rest width (head_length a accounts lent h)
      ∙ ap (λ (n : ℕ). after a (take width (drop n lent))) (sym (mul-zero width))
  placed (a ∷ accounts) lent h (suc i) k =
      ap (take width) (beyond (after a (take width lent)) (each_place width after accounts (drop width lent)) i (head_length a accounts lent h))
      ∙ placed accounts (drop width lent) (behind accounts lent h) i (le_of_suc-le-suc k)
      ∙ ap (λ (xs : List A). after (get_or accounts i []) (take width xs)) (skipped i lent)

  pub past : (accounts : List (List ℕ)) (lent : List A) → width * length accounts ≤ length lent →
      drop (width * length accounts) (each_place width after accounts lent) ≡ drop (width * length accounts) lent
  past [] lent h = refl
  past (a ∷ accounts) lent h =
      beyond (after a (take width lent)) (each_place width after accounts (drop width lent)) (length accounts) (head_length a accounts lent h)
      ∙ past accounts (drop width lent) (behind accounts lent h)
      ∙ skipped (length accounts) lent

-- ---- one place

-- two numbers, written one after the other
pub two_at : (out : List ℕ) (at n r : ℕ) → at + 2 ≤ length out → set (set out at n) (at + 1) r ≡ take at out ++ ((n ∷ r ∷ []) ++ drop (at + 2) out)
two_at out at n r h =
    let more : at + 1 ≡ suc at = omega arith in
    ap (λ (k : ℕ). set (set out at n) k r) more
    ∙ sets-eq (n ∷ r ∷ []) out at h
    ∙ append_assoc (take at out) (n ∷ r ∷ []) (drop (at + 2) out)
