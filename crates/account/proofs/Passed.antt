-- A record with no fault: each of the seven refusals is off, it belongs to one part, and its part is not below that of the
-- record before.
-- Assumes nothing.
use Prim.Native.Nat.{ℕ, ◌+◌, ◌*◌, ◌/◌, ◌%◌, ◌≤◌, ◌<◌}
use mathlib.Core.Path.{◌≡◌, refl, sym, ap, ◌∙◌}
use mathlib.Core.Bool.{Bool, true, false, ◌&&◌}
use mathlib.Core.List.{List}
use lib.Dec.{eqb, ltb}
use native.Mathlib.Omega.{arith}
use borrow.Author.Tests.{eq-eqb, ne_eqb, eqb-true, eqb-false, leb-false, ltb-false}
use Rattle.record.specs.Layout.{Record, kind, contract, most_contract}
use Rattle.record.specs.Ranges.{unknown_kind, unused_byte, field_outside}
use Rattle.record.proofs.Within.{both_true, neither, by_kind, kind_known, contract_known}
use Rattle.account.specs.Check.{the_one_before, kind_falls, unlisted, out_of_order, over_limit, fault_of, day_not_above, tier_falls, contract_falls, legs_clash}
use Rattle.account.specs.Check.{most_contracts}
use Rattle.account.specs.code.Notes.{part_of}
use Rattle.account.specs.PartNumbers.{in_part, entry_part, rate_part, parts}
use Rattle.account.specs.Parts.{of_contract}
use Rattle.account.proofs.Dispatch.{order_1, order_2, order_3, order_4}
use Rattle.account.proofs.Firsts.{seven}

pub record Passed (earlier : List Record) (r : Record) : Type 0 where
  pub known : unknown_kind r ≡ false
  pub rises : kind_falls (the_one_before earlier) r ≡ false
  pub unused : unused_byte r ≡ false
  pub within : field_outside r ≡ false
  pub listed : unlisted earlier r ≡ false
  pub ordered : out_of_order (the_one_before earlier) r ≡ false
  pub room : over_limit earlier r ≡ false

all_off :
    (a b c d e f g : Bool) → seven a b c d e f g ≡ 0
    → (a ≡ false) × ((b ≡ false) × ((c ≡ false) × ((d ≡ false) × ((e ≡ false) × ((f ≡ false) × (g ≡ false))))))
all_off true b c d e f g h = absurd (omega arith)
all_off false true c d e f g h = absurd (omega arith)
all_off false false true d e f g h = absurd (omega arith)
all_off false false false true e f g h = absurd (omega arith)
all_off false false false false true f g h = absurd (omega arith)
all_off false false false false false true g h = absurd (omega arith)
all_off false false false false false false true h = absurd (omega arith)
all_off false false false false false false false h = (refl, (refl, (refl, (refl, (refl, (refl, refl))))))

pub passed : (earlier : List Record) (r : Record) → fault_of earlier r ≡ 0 → Passed earlier r
passed earlier r h =
    let t =
    all_off (unknown_kind r) (kind_falls (the_one_before earlier) r) (unused_byte r) (field_outside r) (unlisted earlier r)
    (out_of_order (the_one_before earlier) r) (over_limit earlier r) h in
    record {
      known = t.0;
      rises = t.1.0;
      unused = t.1.1.0;
      within = t.1.1.1.0;
      listed = t.1.1.1.1.0;
      ordered = t.1.1.1.1.1.0;
      room = t.1.1.1.1.1.1;
    }

-- ---- a record's part
pub record Known (r : Record) : Type 0 where
  pub low : 1 ≤ kind r
  pub high : kind r ≤ 6
  pub contracts : contract r ≤ most_contract

pub known_of : {earlier : List Record} (r : Record) → Passed earlier r → Known r
known_of r p =
    let k = kind_known r p.known in
    record { low = k.least; high = k.most; contracts = contract_known r p.known p.within }

pub part_entry : (r : Record) → kind r ≡ 5 → part_of r ≡ entry_part
part_entry r e = rw e

pub part_rate : (r : Record) → kind r ≡ 6 → part_of r ≡ rate_part
part_rate r e = rw e

pub part_other : (r : Record) → (kind r ≡ 5 → ⊥) → (kind r ≡ 6 → ⊥) → part_of r ≡ most_contracts * kind r + contract r
part_other r h i = rw (ne_eqb (kind r) 5 h, ne_eqb (kind r) 6 i)

-- the part by the kind, of a known kind or of none
pub kind_cases :
    (r : Record) → kind r ≤ 6 → (P : Type 0)
    → (kind r ≡ 5 → part_of r ≡ entry_part → P) → (kind r ≡ 6 → part_of r ≡ rate_part → P) → (kind r < 5 → part_of r ≡ most_contracts * kind r + contract r → P)
    → P
kind_cases r high P f g h = go (eqb (kind r) 5) refl (eqb (kind r) 6) refl
  where
    go : (s : Bool) → eqb (kind r) 5 ≡ s → (t : Bool) → eqb (kind r) 6 ≡ t → P
    go true e t i = f (eqb-true _ _ e) (part_entry r (eqb-true _ _ e))
    go false e true i = g (eqb-true _ _ i) (part_rate r (eqb-true _ _ i))
    go false e false i =
        let d = eqb-false (kind r) 5 e in
        let j = eqb-false (kind r) 6 i in
        h (omega arith) (part_other r d j)

pub same_tests : (a b : Bool) → (a ≡ true → b ≡ true) → (b ≡ true → a ≡ true) → a ≡ b
same_tests true b f g = sym (f refl)
same_tests false true f g = g refl
same_tests false false f g = refl

both_hold : {a b : Bool} → a ≡ true → b ≡ true → a && b ≡ true
both_hold p q = rw (p, q)

module _ (r : Record) (k : Known r) where
  pub part_cases :
      (P : Type 0) → (kind r ≡ 5 → part_of r ≡ entry_part → P) → (kind r ≡ 6 → part_of r ≡ rate_part → P)
      → (kind r < 5 → part_of r ≡ most_contracts * kind r + contract r → P) → P
  part_cases = kind_cases r k.high

  pub part_bound : part_of r < parts
  part_bound =
      let c = k.contracts in
      part_cases (part_of r < parts) (λ e p. omega arith) (λ e p. omega arith) (λ l p. omega arith)

  pub mine : (v : ℕ) → v < parts → in_part v r ≡ eqb (part_of r) v
  mine v h = go (eqb v entry_part) refl (eqb v rate_part) refl
    where
      entries : v ≡ entry_part → eqb (kind r) 5 ≡ eqb (part_of r) v
      entries e =
          same_tests _ _ (λ t. eq-eqb _ _ (part_entry r (eqb-true _ _ t) ∙ sym e))
          (λ t.
          let p = eqb-true (part_of r) v t in
          let c = k.contracts in
          part_cases (eqb (kind r) 5 ≡ true) (λ i q. eq-eqb _ _ i) (λ i q. absurd (omega arith)) (λ l q. absurd (omega arith)))

      rates : v ≡ rate_part → eqb (kind r) 6 ≡ eqb (part_of r) v
      rates e =
          same_tests _ _ (λ t. eq-eqb _ _ (part_rate r (eqb-true _ _ t) ∙ sym e))
          (λ t.
          let p = eqb-true (part_of r) v t in
          let c = k.contracts in
          part_cases (eqb (kind r) 6 ≡ true) (λ i q. absurd (omega arith)) (λ i q. eq-eqb _ _ i) (λ l q. absurd (omega arith)))

      others : (v ≡ entry_part → ⊥) → (v ≡ rate_part → ⊥) → of_contract (v / most_contracts) (v % most_contracts) r ≡ eqb (part_of r) v
      others n m =
          let c = k.contracts in
          same_tests (of_contract (v / most_contracts) (v % most_contracts) r) (eqb (part_of r) v)
          (λ t.
          let b = both_true (eqb (kind r) (v / most_contracts)) (eqb (contract r) (v % most_contracts)) t in
          let i : kind r ≡ v / most_contracts = eqb-true (kind r) (v / most_contracts) b.0 in
          let j : contract r ≡ v % most_contracts = eqb-true (contract r) (v % most_contracts) b.1 in
          eq-eqb _ _ (part_cases (part_of r ≡ v) (λ a q. absurd (omega arith)) (λ a q. absurd (omega arith)) (λ l q. omega arith)))
          (λ t.
          let p = eqb-true (part_of r) v t in
          part_cases (of_contract (v / most_contracts) (v % most_contracts) r ≡ true) (λ a q. absurd (omega arith)) (λ a q. absurd (omega arith))
          (λ l q. both_hold (eq-eqb (kind r) (v / most_contracts) (omega arith)) (eq-eqb (contract r) (v % most_contracts) (omega arith))))

      go : (s : Bool) → eqb v entry_part ≡ s → (t : Bool) → eqb v rate_part ≡ t → in_part v r ≡ eqb (part_of r) v
      go true e t f = rw e (entries (eqb-true _ _ e))
      go false e true f = rw (e, f) (rates (eqb-true _ _ f))
      go false e false f = rw (e, f) (others (eqb-false _ _ e) (eqb-false _ _ f))

-- ---- the part does not fall
pub right_off : {a b : Bool} → a ≡ true → a && b ≡ false → b ≡ false
right_off {a} {b} t h = ap (λ (x : Bool). x && b) (sym t) ∙ h

module _ (before r : Record) (off : out_of_order before r ≡ false) where
  contract_rises : (n : ℕ) → 1 ≤ n → n ≤ 6 → n < 5 → kind r ≡ n → kind before ≡ n → contract before ≤ contract r
  contract_rises n l h s e b =
      by_kind (λ m. m < 5 → kind r ≡ m → kind before ≡ m → contract before ≤ contract r)
      (λ _ e b.
      let t = right_off (eq-eqb _ _ b) (sym (order_1 before r e) ∙ off) in
      let g = leb-false (contract r) (contract before) t in
      omega arith)
      (λ _ e b.
      let d = neither (day_not_above before r) (tier_falls before r) (sym (order_2 before r e) ∙ off) in
      let t = right_off (eq-eqb _ _ b) d.0 in
      let f = neither (ltb (contract r) (contract before)) _ t in
      ltb-false _ _ f.0)
      (λ _ e b. falls (b ∙ sym e) (sym (order_3 before r e) ∙ off))
      (λ _ e b. falls (b ∙ sym e) (neither (contract_falls before r) (legs_clash r)
      (sym (order_4 before r e) ∙ off)).0)
      (λ s e b. absurd (omega arith)) (λ s e b. absurd (omega arith)) n l h s e b
    where
      falls : kind before ≡ kind r → contract_falls before r ≡ false → contract before ≤ contract r
      falls e t = ltb-false (contract r) (contract before) (right_off (eq-eqb _ _ e) t)

  pub part_rises :
      Known r → kind before ≤ 6 → contract before ≤ most_contract → kind_falls before r ≡ false → part_of before ≤ part_of r
  part_rises k hb cb f = go (eqb (kind before) (kind r)) refl
    where
      up : kind before ≤ kind r
      up = ltb-false (kind r) (kind before) f

      less : kind before < kind r → part_of before ≤ part_of r
      less h =
          let top = k.high in
          kind_cases before hb (part_of before ≤ part_of r)
          (λ i p. part_cases r k (part_of before ≤ part_of r) (λ e q. absurd (omega arith)) (λ e q. omega arith) (λ l q. absurd (omega arith)))
          (λ i p. absurd (omega arith))
          (λ i p. part_cases r k (part_of before ≤ part_of r) (λ e q. omega arith) (λ e q. omega arith) (λ l q. omega arith))

      alike : kind before ≡ kind r → part_of before ≤ part_of r
      alike e =
          let low = k.low in
          part_cases r k (part_of before ≤ part_of r)
          (λ i q.
          let p = part_entry before (e ∙ i) in
          omega arith)
          (λ i q.
          let p = part_rate before (e ∙ i) in
          omega arith)
          (λ l q.
          let p = part_other before (λ i. omega arith) (λ i. omega arith) in
          let c = contract_rises (kind r) k.low k.high l refl e in
          omega arith)

      go : (t : Bool) → eqb (kind before) (kind r) ≡ t → part_of before ≤ part_of r
      go true e = alike (eqb-true _ _ e)
      go false e =
          let d = eqb-false (kind before) (kind r) e in
          less (omega (arith, up))
