-- What the records of a faultless file name is listed in it, and each contract is listed once.
-- Assumes nothing.
use Prim.Native.Nat.{ℕ, zero, suc, ◌≤◌, ◌<◌}
use mathlib.Core.Path.{◌≡◌, refl, sym, ap, subst, subst⁻¹, ◌∙◌}
use mathlib.Core.Bool.{Bool, true, false, ◌||◌}
use mathlib.Core.List.{List, [], ◌∷◌}
use lib.Dec.{eqb}
use native.Mathlib.Omega.{arith}
use borrow.Author.Tests.{eq-eqb, eqb-true, eqb-false, leb-false, ltb-false, not-false}
use Rattle.exact.proofs.Lists.{any_append}
use Rattle.exact.specs.Lists.{any, count}
use Rattle.record.specs.Layout.{Record, kind, contract, second_contract}
use Rattle.record.proofs.Within.{both_true, neither}
use Rattle.account.specs.Accepted.{Each, listed, EntryNamed, Named}
use Rattle.account.specs.Check.{none, lists_contract, unlisted}
use Rattle.account.specs.code.Notes.{before_at}
use Rattle.account.specs.Parts.{of_kind, of_contract}
use Rattle.account.specs.Records.{cut, record_at, records, record_count, earlier}
use Rattle.account.proofs.Dispatch.{order_1, order_5, unlisted_2, unlisted_3, unlisted_4, unlisted_5}
use Rattle.account.proofs.Earlier.{cut_more, any_earlier, count-earlier}
use Rattle.account.proofs.Every.{every_append, every_weaker, every_kept, few}
use Rattle.account.proofs.Laid.{Faultless, passed_at}
use Rattle.account.proofs.Passed.{Passed, known_of, right_off}

-- what one record lists stays listed
pub stays :
    (p : Record → Bool) (file : List ℕ) (k n : ℕ) → k ≤ n → any p (cut k file) ≡ true → any p (cut n file) ≡ true
stays p file k zero h t =
    let e : k ≡ 0 = omega arith in
    subst (λ (m : ℕ). any p (cut m file) ≡ true) e t
stays p file k (suc n) h t = go (eqb k (suc n)) refl (λ l. stays p file k n l t)
  where
    go : (b : Bool) → eqb k (suc n) ≡ b → (k ≤ n → any p (cut n file) ≡ true) → any p (cut (suc n) file) ≡ true
    go true e f = subst (λ (m : ℕ). any p (cut m file) ≡ true) (eqb-true k (suc n) e) t
    go false e f =
        let d = eqb-false k (suc n) e in
        ap (any p) (cut_more n file) ∙ any_append p (cut n file) (record_at file n ∷ [])
        ∙ ap (λ (x : Bool). x || any p (record_at file n ∷ [])) (f (omega arith))

pub kind_of : (n c : ℕ) (r : Record) → of_contract n c r ≡ true → (kind r ≡ n) × (contract r ≡ c)
kind_of n c r e =
    let t = both_true (eqb (kind r) n) (eqb (contract r) c) e in
    (eqb-true _ _ t.0, eqb-true _ _ t.1)

none_numbered : (c : ℕ) (xs : List Record) → Each (λ e. contract e < c) xs → count (of_contract 1 c) xs ≡ 0
none_numbered c [] a = refl
none_numbered c (x ∷ xs) a = go (of_contract 1 c x) refl (none_numbered c xs a.1)
  where
    go : (t : Bool) → of_contract 1 c x ≡ t → count (of_contract 1 c) xs ≡ 0 → count (of_contract 1 c) (x ∷ xs) ≡ 0
    go true e h =
        let l = a.0 in
        let i = (kind_of 1 c x e).1 in
        absurd (omega arith)
    go false e h = rw (e, h)

module _ (file : List ℕ) where
  -- a contract's number is above every one before it
  rising :
      (k : ℕ) → Faultless file (suc k) → kind (record_at file k) ≡ 1
      → Each (λ e. contract e < contract (record_at file k)) (cut k file)
  rising zero fine e = tt
  rising (suc k) fine e =
      let r = record_at file (suc k) in
      let b = record_at file k in
      let p = passed_at file (suc (suc k)) fine (suc k) (omega arith) in
      let q = known_of b (passed_at file (suc (suc k)) fine k (omega arith)) in
      let up = ltb-false (kind r) (kind b) p.rises in
      let low = q.low in
      let one : kind b ≡ 1 = omega arith in
      let above =
      leb-false (contract r) (contract b) (right_off (eq-eqb (kind b) 1 one) (sym (order_1 b r e) ∙ p.ordered)) in
      let old = rising k (λ j h. fine j (omega arith)) one in
      subst⁻¹ (Each (λ x. contract x < contract r)) (cut_more k file)
      (every_append (λ x. contract x < contract r) (cut k file) (b ∷ [])
      (every_weaker (cut k file) (λ x l. omega arith) old) (above, tt))

  module _ (fine : Faultless file (record_count file)) where
    at : (k : ℕ) → k < record_count file → Passed (earlier file k) (record_at file k)
    at k h = passed_at file (record_count file) fine k h

    once : (c : ℕ) → count (of_contract 1 c) (records file) ≤ 1
    once c =
        few (of_contract 1 c) file 1 (record_count file)
        (λ k h e.
        let i = kind_of 1 c (record_at file k) e in
        let a = rising k (λ j l. fine j (omega arith)) i.0 in
        let z = none_numbered c (cut k file) (subst (λ (n : ℕ). Each (λ x. contract x < n) (cut k file)) i.1 a) in
        omega (arith, count-earlier (of_contract 1 c) file k))

    whole :
        (k : ℕ) → k < record_count file → (c : ℕ) → none (lists_contract c) (earlier file k) ≡ false
        → listed c (records file) ≡ true
    whole k h c u =
        stays (of_contract 1 c) file k (record_count file) (omega arith)
        (sym (any_earlier (of_contract 1 c) file k) ∙ not-false _ u)

    lists :
        (n c : ℕ)
        → ((es : List Record) (r : Record) → kind r ≡ n → unlisted es r ≡ false → none
        (lists_contract (contract r)) es ≡ false)
        → (k : ℕ) → k < record_count file → of_contract n c (record_at file k) ≡ true → listed c (records file) ≡ true
    lists n c law k h e =
        let r = record_at file k in
        let i = kind_of n c r e in
        subst (λ (d : ℕ). listed d (records file) ≡ true) i.1
        (whole k h (contract r) (law (earlier file k) r i.0 (at k h).listed))

    pub named : Named (records file)
    named =
        let n = record_count file in
        record {
          once = once;
          prompts =
              λ c. every_kept (λ r. listed c (records file) ≡ true) (of_contract 2 c) file n
              (lists 2 c (λ es r e u. sym (unlisted_2 es r e) ∙ u));
          rows =
              λ c. every_kept (λ r. listed c (records file) ≡ true) (of_contract 3 c) file n
              (lists 3 c (λ es r e u. (neither (none (lists_contract (contract r)) es) _
              (sym (unlisted_3 es r e) ∙ u)).0));
          spreads =
              λ c. every_kept (λ r. listed c (records file) ≡ true) (of_contract 4 c) file n
              (lists 4 c (λ es r e u. (neither (none (lists_contract (contract r)) es) _
              (sym (unlisted_4 es r e) ∙ u)).0));
          entries =
              every_kept (EntryNamed (records file)) (of_kind 5) file n
              (λ k h e.
              let r = record_at file k in
              let es = earlier file k in
              let i = eqb-true (kind r) 5 e in
              let p = at k h in
              let u = neither (none (lists_contract (contract r)) es) (none (lists_contract (second_contract r)) es)
              (sym (unlisted_5 es r i) ∙ p.listed) in
              record {
                first = whole k h (contract r) u.0;
                second = whole k h (second_contract r) u.1;
                apart = eqb-false (contract r) (second_contract r) (sym (order_5 (before_at file k) r i) ∙ p.ordered);
              });
        }
