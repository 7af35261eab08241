-- What is read of the notes of an account that is lent; and an account put in them.
-- Assumes nothing.
use Rattle.std.specs.Prelude.{Ok, Err}
use Prim.Native.Nat.{ℕ, ◌+◌, ◌<◌, ◌≤◌}
use native.Mathlib.Omega.{arith}
use mathlib.Core.Path.{◌≡◌, refl, sym, ap, subst, ◌∙◌}
use mathlib.Core.Bool.{Bool, true, false}
use mathlib.Core.List.{List, [], ◌∷◌, ◌++◌, map, append_assoc}
use lib.ListN.{length, get_or, set, take, drop, length-set, length-take, length-map}
use lib.ListN.{get_or-eq_default, get_or-map}
use lib.Seq.{get_or-take, get_or-drop, take_at, drop_at, drop-drop, take_all}
use borrow.Rule.Slice.PartMut.{put_mid}
use Rattle.std.proofs.lemmas.List.Edits.{length-paste}
use Rattle.std.proofs.lemmas.Slice.{take-put_mid, put_mid-paste}
use Rattle.exact.specs.Lists.{one_if}
use Rattle.account.specs.Answers.{Answer}
use Rattle.account.specs.Check.{most_contracts}
use Rattle.account.specs.PartNumbers.{parts}
use Rattle.account.specs.code.Lent.{counts_note, numbers_note, late_note, records_note, listed_note, note_count, flagged, account_in, Lendable, LentBy}
use Rattle.account.specs.code.Standing.{Stands, CheckedBy}
use Rattle.account.specs.declared.accounts.Account.{Account}
use Rattle.account.specs.declared.answers.Refusal.{Refusal}
use Rattle.account.proofs.Filled.{take_next}

-- a stretch of the notes, read by its places
module _ (notes : List ℕ) (at n i : ℕ) where
  pub read_in : i < n → get_or (take n (drop at notes)) i 0 ≡ get_or notes (at + i) 0
  read_in h = get_or-take n (drop at notes) i 0 h ∙ get_or-drop at notes i 0

  pub read_past : n ≤ i → get_or (take n (drop at notes)) i 0 ≡ 0
  read_past h = get_or-eq_default (take n (drop at notes)) 0 (omega (arith, length-take n (drop at notes)))

-- whether the noon file supplies a contract
pub read_late : (notes : List ℕ) (c : ℕ) → c < most_contracts → get_or (account_in notes).noon c false ≡ flagged (get_or notes (late_note + c) 0)
read_late notes c h =
    get_or-map flagged (take most_contracts (drop late_note notes)) c 0 ∙ ap flagged (read_in notes late_note most_contracts c h)

-- where a part begins, and how many records it has
module _ (notes : List ℕ) (v : ℕ) (h : v < parts) where
  pub read_first : get_or notes v 0 ≡ get_or (account_in notes).first v 0
  read_first = sym (get_or-take parts notes v 0 h)

  pub read_count : (at : ℕ) → at ≡ counts_note + v → get_or notes at 0 ≡ get_or (account_in notes).counts v 0
  read_count at e = ap (λ (k : ℕ). get_or notes k 0) e ∙ sym (read_in notes counts_note parts v h)

-- the parts of a list that is put together of them
module _ (f c n l : List ℕ) (r k : ℕ) (lf : length f ≡ parts) (lc : length c ≡ parts) (ln : length n ≡ most_contracts) (ll : length l ≡ most_contracts) where
  abbrev ends : List ℕ
  ends = r ∷ k ∷ []

  abbrev whole : List ℕ
  whole = f ++ (c ++ (n ++ (l ++ ends)))

  past_first : drop counts_note whole ≡ c ++ (n ++ (l ++ ends))
  past_first = drop_at f (c ++ (n ++ (l ++ ends))) parts lf

  past_counts : drop numbers_note whole ≡ n ++ (l ++ ends)
  past_counts = sym (drop-drop parts parts whole) ∙ ap (drop parts) past_first ∙ drop_at c (n ++ (l ++ ends)) parts lc

  past_numbers : drop late_note whole ≡ l ++ ends
  past_numbers =
      sym (drop-drop most_contracts numbers_note whole) ∙ ap (drop most_contracts) past_counts ∙ drop_at n (l ++ ends) most_contracts ln

  past_late : drop records_note whole ≡ ends
  past_late = sym (drop-drop most_contracts late_note whole) ∙ ap (drop most_contracts) past_numbers ∙ drop_at l ends most_contracts ll

  pub account_of-parts : account_in whole ≡ record { records = r; contracts = k; numbers = n; noon = map flagged l; first = f; counts = c }
  account_of-parts =
      let e-records : get_or whole records_note 0 ≡ r = sym (get_or-drop records_note whole 0 0) ∙ ap (λ (xs : List ℕ). get_or xs 0 0) past_late in
      let e-contracts : get_or whole listed_note 0 ≡ k = sym (get_or-drop records_note whole 1 0) ∙ ap (λ (xs : List ℕ). get_or xs 1 0) past_late in
      let e-numbers : take most_contracts (drop numbers_note whole) ≡ n = ap (take most_contracts) past_counts ∙ take_at n (l ++ ends) most_contracts ln in
      let e-late : take most_contracts (drop late_note whole) ≡ l = ap (take most_contracts) past_numbers ∙ take_at l ends most_contracts ll in
      let e-first : take parts whole ≡ f = take_at f (c ++ (n ++ (l ++ ends))) parts lf in
      let e-counts : take parts (drop counts_note whole) ≡ c = ap (take parts) past_first ∙ take_at c (n ++ (l ++ ends)) parts lc in
      λ i. record {
        records = e-records i;
        contracts = e-contracts i;
        numbers = e-numbers i;
        noon = map flagged (e-late i);
        first = e-first i;
        counts = e-counts i;
      }

-- flags noted are the flags
pub flags_back : (bs : List Bool) → map flagged (map one_if bs) ≡ bs
flags_back [] = refl
flags_back (true ∷ bs) = ap (λ (xs : List Bool). true ∷ xs) (flags_back bs)
flags_back (false ∷ bs) = ap (λ (xs : List Bool). false ∷ xs) (flags_back bs)

-- what is put after what stands
put_next : (at n : ℕ) (before after xs ys : List ℕ) → length ys ≡ n → take at before ≡ xs → take (at + length ys) after ≡ take at before ++ ys
    → take (at + n) after ≡ xs ++ ys
put_next at n before after xs ys e b a = ap (λ (k : ℕ). take (at + k) after) (sym e) ∙ a ∙ ap (λ (zs : List ℕ). zs ++ ys) b

-- a stretch is put in after what stands
pub mid_length : (at n : ℕ) (xs ys : List ℕ) → length ys ≡ n → at + n ≤ length xs → length (put_mid at n xs ys) ≡ length xs
mid_length at n xs ys e h =
    let k : n ≤ length ys = omega (arith, e) in
    ap length (put_mid-paste at n xs ys ys n refl refl (sym e)) ∙ length-paste xs at ys n h k

-- an account put in the notes, stretch after stretch
module _ (a : Account) (l : Lendable a) (f c numbers late rest : List ℕ)
    (ef : f ≡ a.first) (ec : c ≡ a.counts) (en : numbers ≡ a.numbers) (el : late ≡ map one_if a.noon) (er : length (f ++ rest) ≡ note_count) where
  abbrev with_counts : List ℕ
  with_counts = put_mid counts_note parts (f ++ rest) c

  abbrev with_numbers : List ℕ
  with_numbers = put_mid numbers_note most_contracts with_counts numbers

  abbrev with_late : List ℕ
  with_late = put_mid late_note most_contracts with_numbers late

  pub lent_is : account_in (set (set with_late records_note a.records) listed_note a.contracts) ≡ a
  lent_is =
      let lf : length f ≡ parts = ap length ef ∙ l.first in
      let lc : length c ≡ parts = ap length ec ∙ l.counts in
      let ln : length numbers ≡ most_contracts = ap length en ∙ l.numbers in
      let ll : length late ≡ most_contracts = ap length el ∙ length-map a.noon one_if ∙ l.noon in
      let long2 : length with_counts ≡ note_count = mid_length counts_note parts (f ++ rest) c lc (omega (arith, er)) ∙ er in
      let long3 : length with_numbers ≡ note_count = mid_length numbers_note most_contracts with_counts numbers ln (omega (arith, long2)) ∙ long2 in
      let long4 : length with_late ≡ note_count = mid_length late_note most_contracts with_numbers late ll (omega (arith, long3)) ∙ long3 in
      let ends : List ℕ = a.records ∷ a.contracts ∷ [] in
      let n5 = set with_late records_note a.records in
      let n6 = set n5 listed_note a.contracts in
      let long5 : length n5 ≡ note_count = length-set with_late records_note a.records ∙ long4 in
      let long6 : length n6 ≡ note_count = length-set n5 listed_note a.contracts ∙ long5 in
      let t2 : take numbers_note with_counts ≡ f ++ c =
      take-put_mid counts_note parts (f ++ rest) c numbers_note (omega (arith, lc)) (omega (arith, er)) ∙ ap (λ (xs : List ℕ). xs ++ c) (take_at f rest parts lf) in
      let t3 : take late_note with_numbers ≡ (f ++ c) ++ numbers =
      take-put_mid numbers_note most_contracts with_counts numbers late_note (omega (arith, ln)) (omega (arith, long2))
      ∙ ap (λ (xs : List ℕ). xs ++ numbers) t2 in
      let t4 : take records_note with_late ≡ ((f ++ c) ++ numbers) ++ late =
      take-put_mid late_note most_contracts with_numbers late records_note (omega (arith, ll)) (omega (arith, long3))
      ∙ ap (λ (xs : List ℕ). xs ++ late) t3 in
      let t5 : take listed_note n5 ≡ (((f ++ c) ++ numbers) ++ late) ++ (a.records ∷ []) =
      take_next with_late records_note a.records (omega (arith, long4)) ∙ ap (λ (xs : List ℕ). xs ++ (a.records ∷ [])) t4 in
      let t6 : take note_count n6 ≡ ((((f ++ c) ++ numbers) ++ late) ++ (a.records ∷ [])) ++ (a.contracts ∷ []) =
      take_next n5 listed_note a.contracts (omega (arith, long5)) ∙ ap (λ (xs : List ℕ). xs ++ (a.contracts ∷ [])) t5 in
      let whole_is : n6 ≡ f ++ (c ++ (numbers ++ (late ++ ends))) =
      sym (take_all note_count n6 (omega (arith, long6)))
      ∙ t6
      ∙ append_assoc (((f ++ c) ++ numbers) ++ late) (a.records ∷ []) (a.contracts ∷ [])
      ∙ append_assoc ((f ++ c) ++ numbers) late ends
      ∙ append_assoc (f ++ c) numbers (late ++ ends)
      ∙ append_assoc f c (numbers ++ (late ++ ends)) in
      ap account_in whole_is
      ∙ account_of-parts f c numbers late a.records a.contracts lf lc ln ll
      ∙ (λ i. record { records = a.records; contracts = a.contracts; numbers = en i; noon = map flagged (el i); first = ef i; counts = ec i })
      ∙ (λ i. record { records = a.records; contracts = a.contracts; numbers = a.numbers; noon = flags_back a.noon i; first = a.first; counts = a.counts })

-- an account that stands has room in the notes
pub lendable : (morning noon : List ℕ) (a : Account) → Stands morning noon a → Lendable a
lendable morning noon a st =
    record {
      first = st.places.firsts;
      counts = st.places.sizes;
      numbers = st.places.numbers;
      noon = st.places.flags;
      records = omega (arith, st.places.all, st.lawful.limits.all);
      contracts = omega (arith, st.places.contracts, st.lawful.limits.contracts);
    }

-- a file whose account is lent is checked
pub lent_refused : {file notes : List ℕ} {a : Answer} {r : Refusal} → LentBy file a notes → a ≡ Err r → CheckedBy file (Err r)
lent_refused {file} {notes} l e =
    let is = subst (λ (x : Answer). LentBy file x notes) e l in
    record { answer_is = is.answer_is; accepted = tt }

pub lent_accepted : {file notes : List ℕ} {a : Answer} → LentBy file a notes → a ≡ Ok tt → CheckedBy file (Ok (account_in notes))
lent_accepted {file} {notes} l e =
    let is = subst (λ (x : Answer). LentBy file x notes) e l in
    record { answer_is = is.answer_is; accepted = is.accepted }
