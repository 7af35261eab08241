-- A part of an account as it stands in whichever file supplies it: the account's own records, whole.
-- Assumes nothing.
use Prim.Native.Nat.{ℕ, ◌+◌, ◌*◌, ◌/◌, ◌%◌, ◌≤◌, ◌<◌}
use native.Mathlib.Omega.{arith}
use mathlib.Core.Path.{◌≡◌, refl, sym, ap, ap₂, ◌∙◌, subst}
use mathlib.Core.Bool.{Bool, true, false, ◌&&◌, cond}
use mathlib.Core.List.{List, [], ◌∷◌}
use borrow.Author.Tests.{eqb-true, eqb-false, lt-ltb, le-ltb, ltb-true, ltb-false}
use lib.Dec.{eqb, ltb}
use lib.ListN.{length, get_or, drop, length-take}
use lib.Seq.{take_all}
use Rattle.record.specs.Bytes.{record_bytes}
use Rattle.exact.specs.Lists.{keep}
use Rattle.record.specs.Layout.{Record, most_contract}
use Rattle.account.specs.PartNumbers.{part, entry_part, rate_part, in_part, part_records, row_part}
use Rattle.account.specs.Parts.{of_kind, of_contract}
use Rattle.account.specs.Records.{cut, records, record_count, stretch}
use Rattle.account.specs.Joined.{account_of}
use Rattle.account.specs.code.Standing.{Places, PartOf}
use Rattle.account.specs.declared.accounts.Account.{Account}
use Rattle.account.specs.Check.{most_contracts}
use Rattle.account.proofs.Every.{length_kept}
use Rattle.account.proofs.Noted.{part_is}
use Rattle.account.proofs.Places.{none_low}
use Rattle.account.proofs.Walk.{length_cut}

-- n records that are as many as n: all of their bytes are there
whole : (file : List ℕ) (k n : ℕ) → record_count (stretch file k n) ≡ n → length (stretch file k n) ≡ n * record_bytes
whole file k n e = omega (arith, e, length-take (n * record_bytes) (drop (k * record_bytes) file))

-- the part of a number, where there is one
pub within : (v : ℕ) → v ≤ rate_part → (account : List Record) → part_records v account ≡ keep (in_part v) account
within v h account = ap (λ (t : Bool). cond t [] (keep (in_part v) account)) (le-ltb rate_part v h)

-- a contract's part has its records of a kind
pub contract-part : (k c : ℕ) → k ≤ 4 → c ≤ most_contract → (account : List Record) → part_records (part k c) account ≡ keep (of_contract k c) account
contract-part k c hk hc account =
    within (part k c) (omega arith) account ∙ ap (λ (p : Record → Bool). keep p account) (part_is k c hk hc)

-- the rows of contract c, and the rates
pub row_part_lem : (c : ℕ) → c < most_contracts → (account : List Record) → part_records (row_part + c) account ≡ keep (in_part (row_part + c)) account
row_part_lem c h account = within (row_part + c) (omega arith) account

pub rate_part_lem : (account : List Record) → part_records rate_part account ≡ keep (of_kind 6) account
rate_part_lem account = within rate_part (omega arith) account

-- the bytes of one record are that record
pub one_record : (bytes : List ℕ) (r : Record) → records bytes ≡ r ∷ [] → length bytes ≡ record_bytes → bytes ≡ r
one_record bytes r e l =
    let one : record_count bytes ≡ 1 = sym (length_cut (record_count bytes) bytes) ∙ ap length e in
    sym (take_all record_bytes bytes (omega (arith, l))) ∙ ap (λ (rs : List Record). get_or rs 0 []) (sym (ap (λ (n : ℕ). cut n bytes) one) ∙ e)

-- none past the last
pub part_past : (account : List Record) (v : ℕ) → rate_part < v → PartOf account v []
part_past account v h =
    let e : part_records v account ≡ [] = ap (λ (t : Bool). cond t [] (keep (in_part v) account)) (lt-ltb rate_part v h) in
    record { are = sym e; whole = sym (ap (λ (rs : List Record). length rs * record_bytes) e) }

module _ (morning noon : List ℕ) (a : Account) (st : Places morning noon a) (v : ℕ) (h : v ≤ rate_part) where
  abbrev account : List Record
  account = account_of morning noon

  abbrev file : Bool → List ℕ
  file late = cond late noon morning

  abbrev bytes : Bool → List ℕ
  bytes late = stretch (file late) (get_or a.first v 0) (get_or a.counts v 0)

  counted : get_or a.counts v 0 ≡ length (keep (in_part v) account)
  counted = st.counts v (omega arith) ∙ sym (length_kept (in_part v) account)

  abbrev late : Bool
  late = ltb v entry_part && get_or a.noon (v % most_contracts) false

  are : records (bytes late) ≡ keep (in_part v) account
  are = go (ltb v most_contracts) refl (ltb v entry_part) refl
    where
      go : (t : Bool) → ltb v most_contracts ≡ t → (u : Bool) → ltb v entry_part ≡ u → records (bytes late) ≡ keep (in_part v) account
      go true e u f =
          let z : keep (in_part v) account ≡ [] = none_low v (ltb-true v most_contracts e) (records morning) (records noon) in
          ap (λ (n : ℕ). records (stretch (file late) (get_or a.first v 0) n)) (counted ∙ ap length z) ∙ sym z
      go false e true f =
          let low = ltb-false v most_contracts e in
          let high = ltb-true v entry_part f in
          let d : part (v / most_contracts) (v % most_contracts) ≡ v = omega arith in
          ap (λ (t : Bool). records (bytes (t && get_or a.noon (v % most_contracts) false))) f
          ∙ subst (λ (i : ℕ). records (stretch (file (get_or a.noon (v % most_contracts) false)) (get_or a.first i 0) (get_or a.counts i 0))
          ≡ keep (in_part i) account) d
          (st.each (v / most_contracts) (v % most_contracts) (omega arith) (omega arith) (omega arith)
          ∙ ap (λ (p : Record → Bool). keep p account) (sym (part_is (v / most_contracts) (v % most_contracts) (omega arith) (omega arith))))
      go false e false f =
          ap (λ (t : Bool). records (bytes (t && get_or a.noon (v % most_contracts) false))) f ∙ last (eqb v entry_part) refl
        where
          last : (t : Bool) → eqb v entry_part ≡ t → records (stretch morning (get_or a.first v 0) (get_or a.counts v 0)) ≡ keep (in_part v) account
          last true i =
              subst (λ (i : ℕ). records (stretch morning (get_or a.first i 0) (get_or a.counts i 0)) ≡ keep (in_part i) account)
              (sym (eqb-true v entry_part i)) st.entries
          last false i =
              let n = eqb-false v entry_part i in
              let d : rate_part ≡ v = omega (arith, ltb-false v entry_part f) in
              subst (λ (i : ℕ). records (stretch morning (get_or a.first i 0) (get_or a.counts i 0)) ≡ keep (in_part i) account) d st.rates

  pub part_stands : (b : Bool) → b ≡ late → (r : List ℕ) → r ≡ bytes b → PartOf account v r
  part_stands b eb r er =
      let is : records r ≡ keep (in_part v) account = ap records (er ∙ ap bytes eb) ∙ are in
      let n = get_or a.counts v 0 in
      let many : record_count (bytes b) ≡ n = sym (length_cut (record_count (bytes b)) (bytes b)) ∙ ap (λ (x : List ℕ). length (records x)) (sym er)
      ∙ ap length is ∙ sym counted in
      record {
        are = is ∙ sym (within v h account);
        whole = ap length er ∙ whole (file b) (get_or a.first v 0) n many ∙ ap (λ (k : ℕ). k * record_bytes) counted
            ∙ ap (λ (rs : List Record). length rs * record_bytes) (sym (within v h account));
      }

-- a contract's part, by where the account has it
pub part_where : (morning noon : List ℕ) (a : Account) → Places morning noon a → (k c : ℕ) → k ≤ 4 → c ≤ most_contract → (late : Bool) (first n : ℕ)
    → late ≡ get_or a.noon c false → first ≡ get_or a.first (part k c) 0 → n ≡ get_or a.counts (part k c) 0
    → (r : List ℕ) → r ≡ stretch (cond late noon morning) first n → PartOf (account_of morning noon) (part k c) r
part_where morning noon a st k c hk hc late first n el ef en r er =
    let v = part k c in
    let d : v % most_contracts ≡ c = omega arith in
    part_stands morning noon a st v (omega arith) late
    (el
    ∙ ap (λ (i : ℕ). get_or a.noon i false) (sym d)
    ∙ ap (λ (t : Bool). t && get_or a.noon (v % most_contracts) false) (sym (lt-ltb v entry_part (omega arith))))
    r (er ∙ ap₂ (stretch (cond late noon morning)) ef en)
