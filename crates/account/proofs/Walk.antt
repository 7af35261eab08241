-- Records one after another: a stretch of a file, the record before another, the records of a file taken one at a time, the place of a
-- record, and whether any passes a test.
-- Assumes nothing.
use Prim.Native.Nat.{ℕ, zero, suc, ◌+◌, ◌-◌, ◌*◌, ◌/◌, ◌≤◌, ◌<◌}
use mathlib.Core.Path.{◌≡◌, refl, sym, ap, ◌∙◌}
use mathlib.Core.Bool.{Bool, true, false, not, ◌||◌}
use mathlib.Core.List.{List, [], ◌∷◌}
use lib.ListN.{length, take, drop, length-drop, drop_of_length-le}
use lib.Seq.{take-nil, take_all, drop-drop}
use lib.Dec.{leb, leb-suc-zero, leb-suc-suc}
use native.Mathlib.Nat.{zero-add}
use native.Mathlib.Omega.{arith}
use native.Mathlib.Numerals.{add-one}
use Rattle.std.specs.List.{list_any, range_with_len}
use Rattle.record.specs.Bytes.{record_bytes}
use Rattle.exact.specs.Lists.{any}
use Rattle.record.specs.Layout.{Record}
use Rattle.account.specs.code.Notes.{before_at}
use Rattle.account.specs.Parts.{place_of}
use Rattle.account.specs.Records.{cut, stretch, record_at, records, record_count}

-- ---- a stretch
module _ (file : List ℕ) (k n : ℕ) where
  pub stretch_past :
      length file / record_bytes < k → take (length file - length file) (drop (length file) file) ≡ stretch file k n
  stretch_past h =
      let z : length file - length file ≡ 0 = omega arith in
      let d : drop (k * record_bytes) file ≡ [] = drop_of_length-le file {i = k * record_bytes} (omega arith) in
      rw (z, d) (sym (take-nil (n * record_bytes)))

  pub stretch_rest :
      k * record_bytes ≤ length file → (length file - k * record_bytes) / record_bytes < n
      → take (length file - k * record_bytes) (drop (k * record_bytes) file) ≡ stretch file k n
  stretch_rest h m =
      let l : length (drop (k * record_bytes) file) ≡ length file - k * record_bytes = length-drop (k * record_bytes) file in
      take_all (length file - k * record_bytes) (drop (k * record_bytes) file) (omega arith)
      ∙ sym (take_all (n * record_bytes) (drop (k * record_bytes) file) (omega arith))

  pub stretch-whole : take (k * record_bytes + n * record_bytes - k * record_bytes) (drop (k * record_bytes) file) ≡ stretch file k n
  stretch-whole =
      let e : k * record_bytes + n * record_bytes - k * record_bytes ≡ n * record_bytes = omega arith in
      rw e

pub before_is : (file : List ℕ) (k : ℕ) → (k ≡ 0 → ⊥) → record_at file (k - 1) ≡ before_at file k
before_is file zero h = absurd (h refl)
before_is file (suc k) h =
    let e : suc k - 1 ≡ k = omega arith in
    rw e

-- ---- the records of a file, from record i on
pub cut_on :
    (file : List ℕ) (n i : ℕ) → i < n
    → cut (n - i) (drop (i * record_bytes) file) ≡ record_at file i ∷ cut (n - (i + 1)) (drop ((i + 1) * record_bytes) file)
cut_on file n i h =
    let s : n - i ≡ suc (n - (i + 1)) = omega arith in
    let d : i * record_bytes + record_bytes ≡ (i + 1) * record_bytes = omega arith in
    rw (s, drop-drop record_bytes (i * record_bytes) file, d)

pub length_cut : (n : ℕ) (file : List ℕ) → length (cut n file) ≡ n
length_cut zero file = refl
length_cut (suc n) file = ap suc (length_cut n (drop record_bytes file))

-- whether any record passes, looked for by their places
any_from :
    (p : Record → Bool) (file : List ℕ) (n i : ℕ)
    → list_any (λ j. p (record_at file j)) (range_with_len i n) ≡ any p (cut n (drop (i * record_bytes) file))
any_from p file zero i = refl
any_from p file (suc n) i =
    let d : i * record_bytes + record_bytes ≡ (i + 1) * record_bytes = omega arith in
    let e : drop record_bytes (drop (i * record_bytes) file) ≡ drop ((i + 1) * record_bytes) file = rw (drop-drop record_bytes (i * record_bytes) file, d) in
    ap (λ (b : Bool). p (record_at file i) || b) (any_from p file n (i + 1) ∙ ap (λ (xs : List ℕ). any p (cut n xs)) (sym e))

pub any_at_places :
    (p : Record → Bool) (file : List ℕ) → list_any (λ j. p (record_at file j)) (range_with_len 0 (record_count file)) ≡ any p (records file)
any_at_places p file = any_from p file (record_count file) 0

-- ---- the place of a record, looked for from the front
module _ (p : Record → Bool) (file : List ℕ) (n i : ℕ) where
  abbrev pub place_from : ℕ
  place_from = i + place_of p (cut (n - i) (drop (i * record_bytes) file))

  pub place_here : i < n → p (record_at file i) ≡ true → place_from ≡ i
  place_here h t = rw (cut_on file n i h, t) (omega arith)

  pub place_past : n ≤ i → place_from ≡ i
  place_past h =
      let s : n - i ≡ 0 = omega arith in
      rw s (omega arith)

pub place_next :
    (p : Record → Bool) (file : List ℕ) (n i : ℕ) → i < n → p (record_at file i) ≡ false
    → place_from p file n i ≡ place_from p file n (i + 1)
place_next p file n i h t = rw (cut_on file n i h, t) (omega arith)

pub place_start :
    (p : Record → Bool) (file : List ℕ) → place_of p (records file) ≡ place_from p file (record_count file) 0
place_start p file =
    let e : record_count file - 0 ≡ record_count file = omega arith in
    rw e (sym (zero-add (place_of p (records file))))

pub none-place : (p : Record → Bool) (rs : List Record) → leb (length rs) (place_of p rs) ≡ not (any p rs)
none-place p [] = refl
none-place p (r ∷ rs) = go (p r) refl (none-place p rs)
  where
    go :
        (t : Bool) → p r ≡ t → leb (length rs) (place_of p rs) ≡ not (any p rs)
        → leb (length (r ∷ rs)) (place_of p (r ∷ rs)) ≡ not (any p (r ∷ rs))
    go true e h = rw e (leb-suc-zero (length rs))
    go false e h = rw (e, add-one, leb-suc-suc) h
