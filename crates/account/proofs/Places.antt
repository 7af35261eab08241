-- Where the parts of a joined account stand: what is noted of each part, and that an account alone is its own file's.
-- Assumes nothing.
use Rattle.std.specs.Prelude.{Ok}
use Prim.Native.Nat.{ℕ, zero, suc, ◌+◌, ◌/◌, ◌%◌, ◌≤◌, ◌<◌}
use mathlib.Core.Path.{◌≡◌, refl, sym, ap, ap₂, subst, subst⁻¹, ◌∙◌}
use mathlib.Core.Bool.{Bool, true, false, not, ◌&&◌, cond, not-not}
use mathlib.Core.List.{List, [], ◌∷◌, map}
use lib.ListN.{length, get_or, take, length-take, length-map}
use lib.Seq.{get_or-take}
use lib.Dec.{eqb, ltb}
use native.Mathlib.Omega.{arith}
use borrow.Author.Tests.{ne_eqb, eqb-true, eqb-false, lt-ltb, ltb-true, ltb-false}
use Rattle.exact.specs.Lists.{keep, count, sum}
use Rattle.exact.proofs.Lists.{get_d_map}
use Rattle.record.specs.Bytes.{count_from}
use Rattle.record.specs.Layout.{Record, kind, contract, most_contract}
use Rattle.account.specs.Accepted.{listed}
use Rattle.account.specs.Check.{records_checked, most_contracts}
use Rattle.account.specs.Joined.{supplier, joined_of, from_morning, joined, account_of}
use Rattle.account.specs.Lawful.{Recorded}
use Rattle.account.specs.PartNumbers.{part, parts, in_part, part_start, part_count, entry_part, rate_part}
use Rattle.account.specs.Parts.{of_kind, of_contract, contracts_of, entries_of, rates_of}
use Rattle.account.specs.Records.{records, stretch}
use Rattle.account.specs.code.Standing.{lists, listed_in, from_noon, JoinedBy, supplies, Places}
use Rattle.account.specs.code.Surveyed.{Surveyed}
use Rattle.account.specs.declared.check.Survey.{Survey}
use Rattle.account.specs.declared.accounts.Account.{Account}
use Rattle.account.proofs.Accepted.{accepts, part_stands}
use Rattle.account.proofs.Every.{length_kept}
use Rattle.account.proofs.Going.{if_accepted_lem}
use Rattle.account.proofs.JoinedLaws.{only_5, other_kind, others, none_mornings, by_parts, part-joined, entries_joined, rates_joined, joined_length}
use Rattle.account.proofs.JoinedLaws.{joined_alone}
use Rattle.account.proofs.Lawful.{recorded, numbered}
use Rattle.account.proofs.Lists.{none_counted}
use Rattle.account.proofs.Noted.{part_is}

-- ---- one file alone
pub alone : (file none : List ℕ) → none ≡ [] → records_checked file ≡ Ok tt → account_of file none ≡ records file
alone file none e ok = ap (λ (bytes : List ℕ). account_of file bytes) e ∙ joined_alone file ok

pub alone_recorded : (file none : List ℕ) → none ≡ [] → records_checked file ≡ Ok tt → Recorded (account_of file none)
alone_recorded file none e ok = subst⁻¹ Recorded (alone file none e ok) (recorded file ok)

-- ---- no record is of kind 0
module _ (v : ℕ) (low : v < most_contracts) where
  not_low : (r : Record) → (kind r ≡ 0 → ⊥) → in_part v r ≡ false
  not_low r d = rw (ne_eqb v entry_part (λ z. omega arith), ne_eqb v rate_part (λ z. omega arith))
      (other_kind (v / most_contracts) (v % most_contracts) r (λ z. d (omega arith)))

  pub none_low : (m n : List Record) → keep (in_part v) (joined m n) ≡ []
  none_low m n =
      let p = in_part v in
      let no : (k : ℕ) → (k ≡ 0 → ⊥) → keep p (joined_of m n k) ≡ [] = λ k d. others m n p 0 k not_low d in
      by_parts m n p
      ∙ only_5 (keep p (joined_of m n 1)) (keep p (joined_of m n 2)) (keep p (joined_of m n 3)) (keep p (joined_of m n 4))
      (keep p (from_morning m)) (no 1 (λ z. omega arith)) (no 2 (λ z. omega arith)) (no 3 (λ z. omega arith))
      (no 4 (λ z. omega arith))
      ∙ none_mornings m n p 0 not_low (λ z. omega arith) (λ z. omega arith)

  count_low : (m n : List Record) → count (in_part v) (joined m n) ≡ 0
  count_low m n = sym (length_kept (in_part v) (joined m n)) ∙ ap length (none_low m n)

  file_low : (file : List ℕ) → records_checked file ≡ Ok tt → count (in_part v) (records file) ≡ 0
  file_low file ok = ap (count (in_part v)) (sym (joined_alone file ok)) ∙ count_low (records file) []

-- ---- what is noted of an accepted file
counted : (file : List ℕ) → records_checked file ≡ Ok tt → (v : ℕ) → part_count file v ≡ count (in_part v) (records file)
counted file ok v = if_accepted_lem (records_checked file) (count (in_part v) (records file)) ok

same_below :
    (p q : ℕ → Bool) (a n : ℕ) → ((c : ℕ) → c < a + n → p c ≡ q c) → keep p (count_from a n) ≡ keep q (count_from a n)
same_below p q a zero f = refl
same_below p q a (suc n) f = rw (f a (omega arith), same_below p q (a + 1) n (λ c h. f c (omega arith)))

-- which contracts are listed, by the counts
lists_is :
    (counts : List ℕ) (rs : List Record) (c : ℕ) → c ≤ most_contract → get_or counts (part 1 c) 0 ≡ count (in_part (part 1 c)) rs
    → lists counts c ≡ listed c rs
lists_is counts rs c h e =
    ap (λ (i : ℕ). not (eqb i 0)) (e ∙ ap (λ (p : Record → Bool). count p rs) (part_is 1 c (omega arith) h))
    ∙ ap not (none_counted (of_contract 1 c) rs)
    ∙ not-not (listed c rs)

-- as many contracts as an accepted file lists
pub listed_few :
    (file : List ℕ) (s : Survey) → Surveyed file s → records_checked file ≡ Ok tt → length (listed_in s.counts) ≤ s.contracts
listed_few file s sv ok =
    let rs = records file in
    let same =
    same_below (lists s.counts) (λ c. listed c rs) 0 most_contracts
    (λ c h. lists_is s.counts rs c (omega arith) (sv.counts (part 1 c) (omega arith) ∙ counted file ok (part 1 c)))
    in
    omega (
      arith,
      ap length (same ∙ sym (numbered rs (recorded file ok))),
      length-map (contracts_of rs) contract,
      length_kept (of_kind 1) rs,
      sv.contracts ∙ if_accepted_lem (records_checked file) (count (of_kind 1) rs) ok,
    )

from_noon_lem : (counts : List ℕ) (k c : ℕ) → k ≤ 4 → c ≤ most_contract → from_noon counts (part k c) ≡ lists counts c
from_noon_lem counts k c hk hc =
    let e : part k c % most_contracts ≡ c = omega arith in
    ap (λ (b : Bool). b && lists counts (part k c % most_contracts)) (lt-ltb (part k c) entry_part (omega arith)) ∙ ap (lists counts) e

-- ---- lists of numbers
from_places :
    (f : ℕ → ℕ) (xs : List ℕ) (a : ℕ) → ((v : ℕ) → v < length xs → get_or xs v 0 ≡ f (a + v))
    → xs ≡ map f (count_from a (length xs))
from_places f [] a h = refl
from_places f (x ∷ xs) a h =
    let e : a + 0 ≡ a = omega arith in
    ap₂ (λ y ys. y ∷ ys) (h 0 (omega arith) ∙ ap f e)
    (from_places f xs (a + 1)
    (λ v l.
    let d : a + suc v ≡ a + 1 + v = omega arith in
    h (suc v) (omega arith) ∙ ap f d))

-- ---- a part of either of two accepted files
module _ (morning noon : List ℕ) (okm : records_checked morning ≡ Ok tt) (okn : records_checked noon ≡ Ok tt) where
  either_stands :
      (b : Bool) (k c : ℕ) → k ≤ 4 → c ≤ most_contract
      → records (stretch (cond b noon morning) (cond b (part_start noon (part k c)) (part_start morning (part k c)))
      (cond b (part_count noon (part k c)) (part_count morning (part k c))))
      ≡ keep (of_contract k c) (cond b (records noon) (records morning))
  either_stands true k c hk hc = part_stands noon okn k c hk hc
  either_stands false k c hk hc = part_stands morning okm k c hk hc

-- ---- the joined account
module _
    (morning noon : List ℕ) (m n : Survey) (j : Account) (sm : Surveyed morning m) (sn : Surveyed noon n)
    (okm : records_checked morning ≡ Ok tt) (okn : records_checked noon ≡ Ok tt) (by : JoinedBy m n j) where
  noon_lists : (c : ℕ) → c ≤ most_contract → lists n.counts c ≡ listed c (records noon)
  noon_lists c h =
      lists_is n.counts (records noon) c h (sn.counts (part 1 c) (omega arith) ∙ counted noon okn (part 1 c))

  part-from : (k c : ℕ) → k ≤ 4 → c ≤ most_contract → from_noon n.counts (part k c) ≡ listed c (records noon)
  part-from k c hk hc = from_noon_lem n.counts k c hk hc ∙ noon_lists c hc

  flag_is : (c : ℕ) → c ≤ most_contract → get_or j.noon c false ≡ listed c (records noon)
  flag_is c h = by.noon.each c (omega arith) ∙ noon_lists c h

  count-from :
      (v : ℕ) → v < parts
      → get_or j.counts v 0 ≡ cond (from_noon n.counts v) (part_count noon v) (part_count morning v)
  count-from v h =
      by.counts.each v h
      ∙ ap₂ (λ (x y : ℕ). cond (from_noon n.counts v) x y) (sn.counts v h) (sm.counts v h)

  first_from :
      (v : ℕ) → v < parts
      → get_or j.first v 0 ≡ cond (from_noon n.counts v) (part_start noon v) (part_start morning v)
  first_from v h =
      by.first.each v h
      ∙ ap₂ (λ (x y : ℕ). cond (from_noon n.counts v) x y) (sn.first v h) (sm.first v h)

  each_stands :
      (k c : ℕ) → 1 ≤ k → k ≤ 4 → c ≤ most_contract
      → records (stretch (supplies morning noon j c) (get_or j.first (part k c) 0) (get_or j.counts (part k c) 0))
      ≡ keep (of_contract k c) (account_of morning noon)
  each_stands k c low hk hc =
      let b = listed c (records noon) in
      let v = part k c in
      let h : v < parts = omega arith in
      let e = part-from k c hk hc in
      ap (λ (t : Bool). records (stretch (cond t noon morning) (get_or j.first v 0) (get_or j.counts v 0)))
      (flag_is c hc)
      ∙ ap₂ (λ (x y : ℕ). records (stretch (cond b noon morning) x y))
      (first_from v h ∙ ap (λ (t : Bool). cond t (part_start noon v) (part_start morning v)) e)
      (count-from v h ∙ ap (λ (t : Bool). cond t (part_count noon v) (part_count morning v)) e)
      ∙ either_stands morning noon okm okn b k c hk hc
      ∙ sym (part-joined (records morning) (records noon) k c low hk hc)

  -- ---- what is noted of each part
  abbrev account : List Record
  account = account_of morning noon

  count-part :
      (k c : ℕ) → 1 ≤ k → k ≤ 4 → c ≤ most_contract → get_or j.counts (part k c) 0 ≡ count (in_part (part k c)) account
  count-part k c low hk hc =
      let p = of_contract k c in
      let v = part k c in
      count-from v (omega arith)
      ∙ ap (λ (t : Bool). cond t (part_count noon v) (part_count morning v)) (part-from k c hk hc)
      ∙ ap₂ (λ (x y : ℕ). cond (listed c (records noon)) x y) (same noon okn) (same morning okm)
      ∙ either (listed c (records noon)) p
      ∙ sym (length_kept p (supplier (records morning) (records noon) c))
      ∙ ap length (sym (part-joined (records morning) (records noon) k c low hk hc))
      ∙ length_kept p account
      ∙ ap (λ (q : Record → Bool). count q account) (sym (part_is k c hk hc))
    where
      same : (file : List ℕ) → records_checked file ≡ Ok tt → part_count file (part k c) ≡ count (of_contract k c) (records file)
      same file ok =
          counted file ok (part k c) ∙ ap (λ (q : Record → Bool). count q (records file)) (part_is k c hk hc)

      either :
          (t : Bool) (p : Record → Bool)
          → cond t (count p (records noon)) (count p (records morning)) ≡ count p (cond t (records noon) (records morning))
      either true p = refl
      either false p = refl

  count_entries : get_or j.counts entry_part 0 ≡ count (in_part entry_part) account
  count_entries =
      count-from entry_part (omega arith)
      ∙ counted morning okm entry_part
      ∙ sym (length_kept (of_kind 5) (records morning))
      ∙ ap length (sym (entries_joined (records morning) (records noon)))
      ∙ length_kept (of_kind 5) account

  count_rates : get_or j.counts rate_part 0 ≡ count (in_part rate_part) account
  count_rates =
      count-from rate_part (omega arith)
      ∙ counted morning okm rate_part
      ∙ sym (length_kept (of_kind 6) (records morning))
      ∙ ap length (sym (rates_joined (records morning) (records noon)))
      ∙ length_kept (of_kind 6) account

  count_none : (v : ℕ) → v < most_contracts → get_or j.counts v 0 ≡ count (in_part v) account
  count_none v low =
      count-from v (omega arith)
      ∙ ap₂ (λ (x y : ℕ). cond (from_noon n.counts v) x y) (none noon okn) (none morning okm)
      ∙ either (from_noon n.counts v)
      ∙ sym (count_low v low (records morning) (records noon))
    where
      none : (file : List ℕ) → records_checked file ≡ Ok tt → part_count file v ≡ 0
      none file ok = counted file ok v ∙ file_low v low file ok

      either : (t : Bool) → ◌≡◌ {A = ℕ} (cond t 0 0) 0
      either true = refl
      either false = refl

  pub counts_are : (v : ℕ) → v < parts → get_or j.counts v 0 ≡ count (in_part v) (account_of morning noon)
  counts_are v h = low (ltb v most_contracts) refl
    where
      middle : most_contracts ≤ v → (t : Bool) → ltb v entry_part ≡ t → get_or j.counts v 0 ≡ count (in_part v) account
      middle above true e =
          let below = ltb-true v entry_part e in
          let d : part (v / most_contracts) (v % most_contracts) ≡ v = omega arith in
          subst (λ (i : ℕ). get_or j.counts i 0 ≡ count (in_part i) account) d
          (count-part (v / most_contracts) (v % most_contracts) (omega arith) (omega arith) (omega arith))
      middle above false e =
          last (ltb-false v entry_part e) (eqb v entry_part) refl
        where
          last : entry_part ≤ v → (t : Bool) → eqb v entry_part ≡ t → get_or j.counts v 0 ≡ count (in_part v) account
          last l true i =
              subst (λ (i : ℕ). get_or j.counts i 0 ≡ count (in_part i) account) (sym (eqb-true v entry_part i)) count_entries
          last l false i =
              let n = eqb-false v entry_part i in
              let d : rate_part ≡ v = omega arith in
              subst (λ (i : ℕ). get_or j.counts i 0 ≡ count (in_part i) account) d count_rates

      low : (t : Bool) → ltb v most_contracts ≡ t → get_or j.counts v 0 ≡ count (in_part v) account
      low true e = count_none v (ltb-true v most_contracts e)
      low false e = middle (ltb-false v most_contracts e) (ltb v entry_part) refl

  pub records_are : j.records ≡ length (account_of morning noon)
  records_are =
      let f : ℕ → ℕ = λ v. count (in_part v) account in
      let l = by.counts.long in
      by.records
      ∙ ap sum
      (from_places f j.counts 0
      (λ v h.
      let z : v ≡ 0 + v = omega arith in
      counts_are v (omega arith) ∙ ap f z)
      ∙ ap (λ (i : ℕ). map f (count_from 0 i)) l)
      ∙ sym (joined_length (records morning) (records noon))

  -- ---- the contracts' numbers
  numbers_are : Recorded account → take j.contracts j.numbers ≡ map contract (contracts_of account)
  numbers_are law =
      by.numbers.those
      ∙ same_below (lists j.counts) (λ c. listed c account) 0 most_contracts
      (λ c h. lists_is j.counts account c (omega arith) (counts_are (part 1 c) (omega arith)))
      ∙ sym (numbered account law)

  contracts_are : Recorded account → j.contracts ≡ length (contracts_of account)
  contracts_are law =
      let l = by.numbers.long in
      let f = by.numbers.few in
      omega (
        arith,
        length-take j.contracts j.numbers,
        ap length (numbers_are law),
        length-map (contracts_of account) contract,
      )

  number_is :
      Recorded account → (i : ℕ) → i < j.contracts → get_or j.numbers i 0 ≡ contract (get_or (contracts_of account) i [])
  number_is law i h =
      sym (get_or-take j.contracts j.numbers i 0 h)
      ∙ ap (λ (xs : List ℕ). get_or xs i 0) (numbers_are law)
      ∙ get_d_map contract (contracts_of account) i [] 0 (omega (arith, contracts_are law))

  entries_stand :
      records (stretch morning (get_or j.first entry_part 0) (get_or j.counts entry_part 0)) ≡ entries_of account
  entries_stand =
      ap₂ (λ (x y : ℕ). records (stretch morning x y)) (first_from entry_part (omega arith)) (count-from entry_part (omega arith))
      ∙ (accepts morning okm).standing.entries
      ∙ sym (entries_joined (records morning) (records noon))

  rates_stand :
      records (stretch morning (get_or j.first rate_part 0) (get_or j.counts rate_part 0)) ≡ rates_of account
  rates_stand =
      ap₂ (λ (x y : ℕ). records (stretch morning x y)) (first_from rate_part (omega arith)) (count-from rate_part (omega arith))
      ∙ (accepts morning okm).standing.rates
      ∙ sym (rates_joined (records morning) (records noon))

  pub places : Recorded (account_of morning noon) → Places morning noon j
  places law =
      record {
        all = records_are;
        contracts = contracts_are law;
        numbers = by.numbers.long;
        number = number_is law;
        flags = by.noon.long;
        firsts = by.first.long;
        sizes = by.counts.long;
        counts = counts_are;
        each = each_stands;
        entries = entries_stand;
        rates = rates_stand;
      }
