-- The entries in the file's order: their places, their bytes, and the file they make.
-- Assumes nothing.
use Prim.Native.Nat.{ℕ, zero, suc, ◌+◌, ◌-◌, ◌*◌, ◌/◌, ◌%◌, ◌≤◌, ◌<◌}
use mathlib.Core.Logic.{⊎_elim}
use mathlib.Core.Path.{◌≡◌, refl, sym, ap, subst, subst⁻¹, ◌∙◌}
use mathlib.Core.Bool.{Bool, true, false, not, cond}
use mathlib.Core.List.{List, [], ◌∷◌, ◌++◌, map, append_assoc, map-append}
use lib.Dec.{eqb, leb, ltb}
use lib.ListN.{length, get_or, take, drop, set, length-append, length-drop, length-map}
use lib.Seq.{length-take-le, take-add, take-suc, take_at, drop_at, set_at, drop-cons, get_or-take, drop-drop}
use native.Mathlib.Omega.{arith}
use native.Mathlib.Numerals.{add-one}
use borrow.Author.Tests.{eqb-true, not-false, ltb-false}
use Rattle.exact.proofs.Lists.{get_d_map}
use Rattle.record.specs.Bytes.{count_from, record_bytes}
use Rattle.record.specs.Layout.{Record}
use Rattle.account.specs.Answers.{number_of, record_of, refusal}
use Rattle.account.specs.Check.{too_long, cut_record}
use Rattle.account.specs.Checked.{checked}
use Rattle.account.specs.Records.{cut, stretch, records, record_at, record_count}
use Rattle.account.proofs.Claimed.{claimed}
use Rattle.account.proofs.Earlier.{cut_more}
use Rattle.account.proofs.Orders.{cut_at}
use Rattle.account.proofs.Walk.{length_cut}
use Rattle.writing.specs.Order.{rank, rank_at, places, Ordered}
use Rattle.writing.specs.Sorting.{put_in, sorted}
use Rattle.writing.specs.Written.{together, left_over, written, filled_in, as_entered, verdict_on}
use Rattle.writing.proofs.Sorting.{sorted-map, length-sorted}

-- ---- what holds of each
abbrev pub All : {A : Type 0} → (A → Type 0) → List A → Type 0
All P [] = Unit
All P (x ∷ xs) = P x × All P xs

module _ {A : Type 0} (P : A → Type 0) where
  pub all_at : (d : A) (xs : List A) → All P xs → (i : ℕ) → i < length xs → P (get_or xs i d)
  all_at d [] h i l = absurd (omega arith)
  all_at d (x ∷ xs) h zero l = h.0
  all_at d (x ∷ xs) h (suc i) l = all_at d xs h.1 i (omega arith)

  module _ (rank : A → ℕ) where
    pub put_all : (x : A) (ys : List A) → P x → All P ys → All P (put_in rank x ys)
    put_all x [] p h = (p, tt)
    put_all x (y ∷ ys) p h = go (leb (rank x) (rank y)) refl (put_all x ys p h.1)
      where
        go : (t : Bool) → leb (rank x) (rank y) ≡ t → All P (put_in rank x ys) → All P (put_in rank x (y ∷ ys))
        go true e r = subst⁻¹ (λ (b : Bool). All P (cond b (x ∷ y ∷ ys) (y ∷ put_in rank x ys))) e (p, h)
        go false e r = subst⁻¹ (λ (b : Bool). All P (cond b (x ∷ y ∷ ys) (y ∷ put_in rank x ys))) e (h.0, r)

    pub all_sorted : (xs : List A) → All P xs → All P (sorted rank xs)
    all_sorted [] h = tt
    all_sorted (x ∷ xs) h = put_all x (sorted rank xs) h.0 (all_sorted xs h.1)

pub all_map : {A B : Type 0} (P : B → Type 0) (f : A → B) (xs : List A) → All (λ x. P (f x)) xs → All P (map f xs)
all_map P f [] h = tt
all_map P f (x ∷ xs) h = (h.0, all_map P f xs h.1)

pub all_weaker : {A : Type 0} (P Q : A → Type 0) → ((x : A) → P x → Q x) → (xs : List A) → All P xs → All Q xs
all_weaker P Q f [] h = tt
all_weaker P Q f (x ∷ xs) h = (f x h.0, all_weaker P Q f xs h.1)

pub counted_all : (b n k : ℕ) → n + k ≤ b → All (λ (j : ℕ). j < b) (count_from n k)
counted_all b n zero h = tt
counted_all b n (suc k) h = (omega arith, counted_all b (n + 1) k (omega arith))

-- ---- copies, and numbers counted up
pub copy_next :
    (source to : List ℕ) (i : ℕ) → i < length to → i < length source
    → set (take i source ++ drop i to) i (get_or source i 0) ≡ take (i + 1) source ++ drop (i + 1) to
copy_next source to i h l =
    ap (λ (ys : List ℕ). set (take i source ++ ys) i (get_or source i 0)) (drop-cons to i 0 h)
    ∙ set_at (take i source) (get_or to i 0) (drop (suc i) to) (get_or source i 0) i (length-take-le i source (omega arith))
    ∙ sym (ap (λ (n : ℕ). take n source ++ drop n to) (add-one i)
    ∙ ap (λ (xs : List ℕ). xs ++ drop (suc i) to) (take-suc source i 0 l)
    ∙ append_assoc (take i source) (get_or source i 0 ∷ []) (drop (suc i) to))

pub count_more : (n k : ℕ) → count_from n (suc k) ≡ count_from n k ++ (n + k) ∷ []
count_more n zero =
    let e : n + 0 ≡ n = omega arith in
    rw e
count_more n (suc k) =
    let e : n + 1 + k ≡ n + suc k = omega arith in
    ap (λ (xs : List ℕ). n ∷ xs) (count_more (n + 1) k ∙ ap (λ (x : ℕ). count_from (n + 1) k ++ x ∷ []) e)

pub length-count : (n k : ℕ) → length (count_from n k) ≡ k
length-count n zero = refl
length-count n (suc k) = ap suc (length-count (n + 1) k)

pub count_next :
    (to : List ℕ) (i : ℕ) → i < length to → set (count_from 0 i ++ drop i to) i i ≡ count_from 0 (i + 1) ++ drop (i + 1) to
count_next to i h =
    let e : 0 + i ≡ i = omega arith in
    ap (λ (ys : List ℕ). set (count_from 0 i ++ ys) i i) (drop-cons to i 0 h)
    ∙ set_at (count_from 0 i) (get_or to i 0) (drop (suc i) to) i i (length-count 0 i)
    ∙ sym (ap (λ (n : ℕ). count_from 0 n ++ drop n to) (add-one i)
    ∙ ap (λ (xs : List ℕ). xs ++ drop (suc i) to) (count_more 0 i ∙ ap (λ (x : ℕ). count_from 0 i ++ x ∷ []) e)
    ∙ append_assoc (count_from 0 i) (i ∷ []) (drop (suc i) to))

-- ---- the places
pub places_all : (entries : List ℕ) → All (λ (j : ℕ). j < record_count entries) (places entries)
places_all entries =
    all_sorted (λ (j : ℕ). j < record_count entries) (rank_at entries) (count_from 0 (record_count entries))
    (counted_all (record_count entries) 0 (record_count entries) (omega arith))

pub places_long : (entries : List ℕ) → length (places entries) ≡ record_count entries
places_long entries = length-sorted (rank_at entries) (count_from 0 (record_count entries)) ∙ length-count 0 (record_count entries)

pub record_long : (entries : List ℕ) (k : ℕ) → k < record_count entries → length (record_at entries k) ≡ record_bytes
record_long entries k h =
    let d : length (drop (k * record_bytes) entries) ≡ length entries - k * record_bytes = length-drop (k * record_bytes) entries in
    length-take-le (1 * record_bytes) (drop (k * record_bytes) entries) (omega arith)

-- ---- the records as the places have them
cut-places : (file : List ℕ) (n : ℕ) → map (record_at file) (count_from 0 n) ≡ cut n file
cut-places file zero = refl
cut-places file (suc n) =
    let e : 0 + n ≡ n = omega arith in
    ap (map (record_at file)) (count_more 0 n)
    ∙ map-append (record_at file) (count_from 0 n) ((0 + n) ∷ [])
    ∙ ap (λ (rs : List Record). rs ++ record_at file (0 + n) ∷ []) (cut-places file n)
    ∙ ap (λ (k : ℕ). cut n file ++ record_at file k ∷ []) e
    ∙ sym (cut_more n file)

pub through : (entries : List ℕ) → map (record_at entries) (places entries) ≡ sorted rank (records entries)
through entries =
    sorted-map (record_at entries) rank (count_from 0 (record_count entries))
    ∙ ap (sorted rank) (cut-places entries (record_count entries))

pub records_long : (entries : List ℕ) → All (λ (r : Record). length r ≡ record_bytes) (sorted rank (records entries))
records_long entries =
    subst (All (λ (r : Record). length r ≡ record_bytes)) (through entries)
    (all_map (λ (r : Record). length r ≡ record_bytes) (record_at entries) (places entries)
    (all_weaker (λ (j : ℕ). j < record_count entries) (λ (j : ℕ). length (record_at entries j) ≡ record_bytes) (record_long entries) (places entries)
    (places_all entries)))

-- ---- their bytes
pub together_long : (rs : List Record) → All (λ (r : Record). length r ≡ record_bytes) rs → length (together rs) ≡ length rs * record_bytes
together_long [] h = refl
together_long (r ∷ rs) h = omega (arith, length-append r (together rs), together_long rs h.1, h.0)

pub together-cut : (n : ℕ) (file : List ℕ) → together (cut n file) ≡ take (n * record_bytes) file
together-cut zero file = refl
together-cut (suc n) file =
    let e : suc n * record_bytes ≡ record_bytes + n * record_bytes = omega arith in
    ap (λ (xs : List ℕ). take record_bytes file ++ xs) (together-cut n (drop record_bytes file)) ∙ sym (take-add record_bytes (n * record_bytes) file)
    ∙ ap (λ (m : ℕ). take m file) (sym e)

pub written_long : (entries : List ℕ) → length (written entries) ≡ length entries
written_long entries =
    let n = record_count entries in
    let rs = sorted rank (records entries) in
    let t : length (together rs) ≡ length rs * record_bytes = together_long rs (records_long entries) in
    let m : length rs ≡ n =
    ap length (sym (through entries)) ∙ length-map (places entries) (record_at entries) ∙ places_long entries in
    let d : length (left_over entries) ≡ length entries - n * record_bytes = length-drop (n * record_bytes) entries in
    omega (arith, length-append (together rs) (left_over entries))

pub nothing_over : (entries : List ℕ) → cut_record entries ≡ false → record_count entries * record_bytes ≡ length entries
nothing_over entries e =
    let z : length entries % record_bytes ≡ 0 = eqb-true (length entries % record_bytes) 0 (not-false (eqb (length entries % record_bytes) 0) e) in
    omega arith

-- so it gets 1 and 2 as the list itself would
module _ (entries : List ℕ) where
  pub long_same : too_long (written entries) ≡ too_long entries
  long_same = ap (λ (n : ℕ). ltb 61440 n) (written_long entries)

  pub cut_same : cut_record (written entries) ≡ cut_record entries
  cut_same = ap (λ (n : ℕ). not (eqb (n % record_bytes) 0)) (written_long entries)

  pub count_same : record_count (written entries) ≡ record_count entries
  count_same = ap (λ (n : ℕ). n / record_bytes) (written_long entries)

-- ---- read back
pub cut-together :
    (rs : List Record) (after : List ℕ) → All (λ (r : Record). length r ≡ record_bytes) rs → cut (length rs) (together rs ++ after) ≡ rs
cut-together [] after h = refl
cut-together (r ∷ rs) after h =
    let e : r ++ together rs ++ after ≡ r ++ (together rs ++ after) = append_assoc r (together rs) after in
    ap (λ (xs : List ℕ). take record_bytes xs ∷ cut (length rs) (drop record_bytes xs)) e
    ∙ ap (λ (x : Record). x ∷ cut (length rs) (drop record_bytes (r ++ (together rs ++ after)))) (take_at r (together rs ++ after) record_bytes h.0)
    ∙ ap (λ (xs : List ℕ). r ∷ cut (length rs) xs) (drop_at r (together rs ++ after) record_bytes h.0)
    ∙ ap (λ (xs : List Record). r ∷ xs) (cut-together rs after h.1)

pub read_back : (entries : List ℕ) → records (written entries) ≡ sorted rank (records entries)
read_back entries =
    let rs = sorted rank (records entries) in
    let m : length rs ≡ record_count entries =
    ap length (sym (through entries)) ∙ length-map (places entries) (record_at entries) ∙ places_long entries in
    let c : record_count (written entries) ≡ length rs = count_same entries ∙ sym m in
    ap (λ (n : ℕ). cut n (written entries)) c ∙ cut-together rs (left_over entries) (records_long entries)

-- a record of the written file is the entry at its place
pub record_is : (entries : List ℕ) (k : ℕ) → k < record_count entries → record_at (written entries) k ≡ record_at entries (get_or (places entries) k 0)
record_is entries k h =
    sym (cut_at (record_count (written entries)) k (written entries) (omega (arith, count_same entries)))
    ∙ ap (λ (rs : List Record). get_or rs k []) (read_back entries ∙ sym (through entries))
    ∙ get_d_map (record_at entries) (places entries) k 0 [] (omega (arith, places_long entries))

module _ (entries order : List ℕ) (o : Ordered entries order) where
  pub at_place : (k : ℕ) → k < record_count entries → get_or order k 0 ≡ get_or (places entries) k 0
  at_place k h = sym (get_or-take (record_count entries) order k 0 h) ∙ ap (λ (xs : List ℕ). get_or xs k 0) o.first

  pub place_within : (k : ℕ) → k < record_count entries → get_or order k 0 < record_count entries
  place_within k h =
      subst⁻¹ (λ (j : ℕ). j < record_count entries) (at_place k h)
      (all_at (λ (j : ℕ). j < record_count entries) 0 (places entries) (places_all entries) k (omega (arith, places_long entries)))

  -- record k of the file, where it was entered
  pub entered_at : (k : ℕ) → k < record_count entries → record_at entries (get_or order k 0) ≡ record_at (written entries) k
  entered_at k h = ap (record_at entries) (at_place k h) ∙ sym (record_is entries k h)

-- ---- the loop that fills
module _ (file : List ℕ) (k i : ℕ) where
  stretch_long : k + i ≤ record_count file → length (stretch file k i) ≡ i * record_bytes
  stretch_long h =
      let d : length (drop (k * record_bytes) file) ≡ length file - k * record_bytes = length-drop (k * record_bytes) file in
      length-take-le (i * record_bytes) (drop (k * record_bytes) file) (omega arith)

  stretch_more : stretch file k (i + 1) ≡ stretch file k i ++ record_at file (k + i)
  stretch_more =
      let e : (i + 1) * record_bytes ≡ i * record_bytes + record_bytes = omega arith in
      let f : k * record_bytes + i * record_bytes ≡ (k + i) * record_bytes = omega arith in
      ap (λ (m : ℕ). take m (drop (k * record_bytes) file)) e ∙ take-add (i * record_bytes) record_bytes (drop (k * record_bytes) file)
      ∙ ap (λ (xs : List ℕ). stretch file k i ++ take record_bytes xs) (drop-drop (i * record_bytes) (k * record_bytes) file ∙ ap (λ (m : ℕ). drop m file) f)

pub record Filling (entries : List ℕ) (k n : ℕ) (out₀ out : List ℕ) (i : ℕ) : Type 0 where
  pub long : length out ≡ length out₀
  pub inside : i ≤ n
  pub done : out ≡ filled_in entries k i out₀

pub filling_start : (entries : List ℕ) (k n : ℕ) (out : List ℕ) → Filling entries k n out out 0
filling_start entries k n out = record { long = refl; inside = omega arith; done = refl }

module _ (entries : List ℕ) (k n : ℕ) (out₀ out : List ℕ) (i : ℕ) (f : Filling entries k n out₀ out i) (more : i < n)
    (within : k + n ≤ record_count entries) (room : n * record_bytes ≤ length out₀) where
  abbrev W : List ℕ
  W = written entries

  -- the part that one record takes
  abbrev pub part_for : List ℕ
  part_for = take (i * record_bytes + record_bytes - i * record_bytes) (drop (i * record_bytes) out)

  pub part_long : length part_for ≡ record_bytes
  part_long =
      let d : length (drop (i * record_bytes) out) ≡ length out - i * record_bytes = length-drop (i * record_bytes) out in
      let e : i * record_bytes + record_bytes - i * record_bytes ≡ record_bytes = omega arith in
      length-take-le (i * record_bytes + record_bytes - i * record_bytes) (drop (i * record_bytes) out) (omega (arith, f.long)) ∙ e

  pub filling_next :
      {Y r : List ℕ} → r ≡ record_at W (k + i) → Y ≡ r
      → Filling entries k n out₀ (take (i * record_bytes) out ++ (Y ++ drop (i * record_bytes + record_bytes - i * record_bytes) (drop (i * record_bytes) out)))
      (i + 1)
  filling_next {Y} {r} hr hY =
      let e : i * record_bytes + record_bytes - i * record_bytes ≡ record_bytes = omega arith in
      let s = count_same entries in
      let whole : Y ≡ record_at W (k + i) = hY ∙ hr in
      let fl = stretch_long W k i (omega arith) in
      let front : take (i * record_bytes) out ≡ stretch W k i = ap (take (i * record_bytes)) f.done
      ∙ take_at (stretch W k i) (drop (i * record_bytes) out₀) (i * record_bytes) fl in
      let back : drop (i * record_bytes) out ≡ drop (i * record_bytes) out₀ = ap (drop (i * record_bytes)) f.done
      ∙ drop_at (stretch W k i) (drop (i * record_bytes) out₀) (i * record_bytes) fl in
      let m : i * record_bytes + record_bytes ≡ (i + 1) * record_bytes = omega arith in
      let after : drop (i * record_bytes + record_bytes - i * record_bytes) (drop (i * record_bytes) out) ≡ drop ((i + 1) * record_bytes) out₀ =
      ap (λ (m : ℕ). drop m (drop (i * record_bytes) out)) e ∙ ap (drop record_bytes) back ∙ drop-drop record_bytes (i * record_bytes) out₀
      ∙ ap (λ (m : ℕ). drop m out₀) m in
      let is : take (i * record_bytes) out ++ (Y ++ drop (i * record_bytes + record_bytes - i * record_bytes) (drop (i * record_bytes) out)) ≡ filled_in entries k
      (i + 1) out₀ =
      ap (λ (xs : List ℕ). xs ++ (Y ++ drop (i * record_bytes + record_bytes - i * record_bytes) (drop (i * record_bytes) out))) front
      ∙ ap (λ (xs : List ℕ). stretch W k i ++ (xs ++ drop (i * record_bytes + record_bytes - i * record_bytes) (drop (i * record_bytes) out))) whole
      ∙ ap (λ (xs : List ℕ). stretch W k i ++ (record_at W (k + i) ++ xs)) after
      ∙ sym (append_assoc (stretch W k i) (record_at W (k + i)) (drop ((i + 1) * record_bytes) out₀))
      ∙ ap (λ (xs : List ℕ). xs ++ drop ((i + 1) * record_bytes) out₀) (sym (stretch_more W k i)) in
      let l = stretch_long W k (i + 1) (omega arith) in
      let d : length (drop ((i + 1) * record_bytes) out₀) ≡ length out₀ - (i + 1) * record_bytes = length-drop ((i + 1) * record_bytes) out₀ in
      record {
        long = ap length is ∙ omega (arith, length-append (stretch W k (i + 1)) (drop ((i + 1) * record_bytes) out₀));
        inside = omega arith;
        done = is;
      }

pub filling_ends :
    (entries : List ℕ) (k n : ℕ) (out₀ out : List ℕ) (i : ℕ) → Filling entries k n out₀ out i → n ≤ i → out ≡ filled_in entries k n out₀
filling_ends entries k n out₀ out i f past =
    let e : i ≡ n = omega (arith, f.inside) in
    f.done ∙ ap (λ (m : ℕ). filled_in entries k m out₀) e

-- what is put at the front is there
pub front_filled :
    (entries : List ℕ) (k n : ℕ) (out : List ℕ) → k + n ≤ record_count entries
    → take (n * record_bytes) (filled_in entries k n out) ≡ stretch (written entries) k n
front_filled entries k n out h =
    take_at (stretch (written entries) k n) (drop (n * record_bytes) out) (n * record_bytes) (stretch_long (written entries) k n (omega
    (arith, count_same entries)))

-- ---- the record at fault
pub named_within : (file : List ℕ) → 3 ≤ number_of (checked file) → record_of (checked file) < record_count file
named_within file h =
    let x = (claimed file).exactly in
    let n = number_of (checked file) in
    let k = record_of (checked file) in
    ⊎_elim (λ l. ((x.others n k h l).forth (record { number = refl; place = refl })).there)
    (λ b.
    let f = ((x.rates n k b.0 b.1).forth (record { number = refl; place = refl })).1.there in
    omega (arith, f, length_cut (record_count file) file)) x.numbers

pub same_places :
    (entries order : List ℕ) → Ordered entries order → as_entered order (checked (written entries)) ≡ verdict_on entries
same_places entries order o = go (ltb (number_of (checked (written entries))) 3) refl
  where
    go :
        (t : Bool) → ltb (number_of (checked (written entries))) 3 ≡ t
        → as_entered order (checked (written entries)) ≡ verdict_on entries
    go true e = rw e
    go false e =
        let w : record_of (checked (written entries)) < record_count (written entries) =
        named_within (written entries) (ltb-false (number_of (checked (written entries))) 3 e) in
        let c = count_same entries in
        ap (λ (k : ℕ). cond (ltb (number_of (checked (written entries))) 3) (checked (written entries)) (refusal (number_of (checked (written entries))) k))
        (at_place entries order o (record_of (checked (written entries))) (omega arith))
