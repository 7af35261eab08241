-- Refusal 8 against the one before of its kind comes to the same as against the record before: kinds and parts do not fall.
-- Assumes nothing.
use Prim.Native.Nat.{ℕ, zero, suc, ◌+◌, ◌*◌, ◌≤◌, ◌<◌}
use mathlib.Core.Path.{◌≡◌, refl, sym, ap, subst, subst⁻¹, ◌∙◌}
use mathlib.Core.Bool.{Bool, true, false, ◌&&◌, ◌||◌}
use mathlib.Core.List.{List, [], ◌∷◌}
use lib.Dec.{eqb, leb, ltb}
use native.Mathlib.Omega.{arith}
use borrow.Author.Tests.{eq-eqb, ne_eqb, eqb-true, eqb-false, ltb-false}
use Rattle.exact.specs.Lists.{one_if, count}
use Rattle.record.specs.Layout.{Record, kind, contract, day, tier, rate_currency, most_contract}
use Rattle.record.proofs.Tests.{both}
use Rattle.record.proofs.Within.{neither, by_kind, kind_known, contract_known}
use Rattle.account.specs.Check.{the_one_before, number_not_above, day_not_above, tier_falls, contract_falls, legs_clash, with_itself, currency_not_above, out_of_order}
use Rattle.account.specs.Check.{most_contracts}
use Rattle.account.specs.Claims.{latest, out_of_order_by_kind, ByKind}
use Rattle.account.specs.PartNumbers.{part, in_part}
use Rattle.account.specs.code.Notes.{part_of, before_at}
use Rattle.account.specs.Parts.{of_kind, of_contract}
use Rattle.account.specs.Records.{cut, record_at, earlier}
use Rattle.account.proofs.Dispatch.{order_1, order_2, order_3, order_4, order_5, order_6}
use Rattle.account.proofs.Earlier.{count-earlier}
use Rattle.account.proofs.Laid.{Faultless, laid, passed_at, before_known}
use Rattle.account.proofs.Noted.{part_is}
use Rattle.account.proofs.Passed.{right_off, part_other}

latest-none : (p : Record → Bool) (es : List Record) → count p es ≡ 0 → latest p es ≡ []
latest-none p [] z = refl
latest-none p (e ∷ es) z = go (p e) refl (latest-none p es)
  where
    go : (t : Bool) → p e ≡ t → (count p es ≡ 0 → latest p es ≡ []) → latest p (e ∷ es) ≡ []
    go true i f =
        let one : 1 + count p es ≡ 0 = rw i at z in
        absurd (omega arith)
    go false i f =
        let none : 0 + count p es ≡ 0 = rw i at z in
        rw i (f (omega arith))

latest_first :
    (p : Record → Bool) (es : List Record) → p [] ≡ false → p (the_one_before es) ≡ true
    → latest p es ≡ the_one_before es
latest_first p [] n t = refl
latest_first p (e ∷ es) n t = rw t

left_off : (b : Bool) {a : Bool} → a ≡ false → a && b ≡ false
left_off b e = ap (λ (x : Bool). x && b) e

first_on : (b : Bool) {a : Bool} → a ≡ true → a || b ≡ true
first_on b e = ap (λ (x : Bool). x || b) e

module _ (file : List ℕ) where
  -- no record of a kind above that of the latest
  none_above :
      (k : ℕ) → Faultless file k → (n : ℕ) → kind (before_at file k) < n → count (of_kind n) (earlier file k) ≡ 0
  none_above zero fine n h = refl
  none_above (suc k) fine n h =
      let p = passed_at file (suc k) fine k (omega arith) in
      let up = ltb-false (kind (record_at file k)) (kind (before_at file k)) p.rises in
      let z = none_above k (λ j l. fine j (omega arith)) n (omega arith) in
      let off : one_if (of_kind n (record_at file k)) ≡ 0 = ap one_if
      (ne_eqb (kind (record_at file k)) n (λ e. omega arith)) in
      omega arith

  -- a test of the one before of kind n
  agree :
      (k : ℕ) → Faultless file k → (n : ℕ) → 1 ≤ n → kind (before_at file k) ≤ n → (g : Record → Bool)
      → (of_kind n (before_at file k) && g (before_at file k))
      ≡ (of_kind n (latest (of_kind n) (earlier file k)) && g (latest (of_kind n) (earlier file k)))
  agree k fine n low h g = go (of_kind n (before_at file k)) refl
    where
      empty : of_kind n [] ≡ false
      empty = ne_eqb 0 n (λ e. omega arith)

      go :
          (t : Bool) → of_kind n (before_at file k) ≡ t
          → (of_kind n (before_at file k) && g (before_at file k))
          ≡ (of_kind n (latest (of_kind n) (earlier file k)) && g (latest (of_kind n) (earlier file k)))
      go true e =
          ap (λ (x : Record). of_kind n x && g x) (sym (latest_first (of_kind n) (earlier file k) empty e))
      go false e =
          let d = eqb-false (kind (before_at file k)) n e in
          let z = latest-none (of_kind n) (earlier file k) (none_above k fine n (omega arith)) in
          left_off (g (before_at file k)) e ∙ sym (left_off (g []) empty)
          ∙ ap (λ (x : Record). of_kind n x && g x) (sym z)

  -- the tier, where the contract does not fall
  same_tier :
      (k : ℕ) → Faultless file k → (r : Record) → kind r ≡ 2 → contract r ≤ most_contract → kind (before_at file k) ≤ 2
      → (kind (before_at file k) ≡ 2 → contract (before_at file k) ≤ contract r)
      → tier_falls (before_at file k) r ≡ tier_falls (latest (of_contract 2 (contract r)) (earlier file k)) r
  same_tier k fine r i hc hk rise = go (of_contract 2 (contract r) (before_at file k)) refl
    where
      absent :
          of_contract 2 (contract r) (before_at file k) ≡ false → count (of_contract 2 (contract r)) (cut k file) ≡ 0
      absent e = decide (count (of_contract 2 (contract r)) (cut k file)) refl
        where
          decide : (n : ℕ) → count (of_contract 2 (contract r)) (cut k file) ≡ n → n ≡ 0
          decide zero z = refl
          decide (suc n) z =
              let v = part 2 (contract r) in
              let is = part_is 2 (contract r) (omega arith) hc in
              let some : 0 < count (in_part v) (cut k file) =
              subst⁻¹ (λ (t : Record → Bool). 0 < count t (cut k file)) is (omega arith) in
              let up = (laid file k fine).upto v (omega arith) some in
              let q = part_other (before_at file k) (λ l. omega arith) (λ l. omega arith) in
              let c = (before_known file k fine).1 in
              absurd (split up q c (eqb (kind (before_at file k)) 2) refl)
            where
              split :
                  part 2 (contract r) ≤ part_of (before_at file k)
                  → part_of (before_at file k) ≡ most_contracts * kind (before_at file k) + contract (before_at file k)
                  → contract (before_at file k) ≤ most_contract → (t : Bool) → eqb (kind (before_at file k)) 2 ≡ t → ⊥
              split up q c true t =
                  let i = eqb-true (kind (before_at file k)) 2 t in
                  let l = rise i in
                  let d =
                  eqb-false (contract (before_at file k)) (contract r)
                  (sym (ap (λ (x : Bool). x && eqb (contract (before_at file k)) (contract r)) t) ∙ e) in
                  omega arith
              split up q c false t =
                  let d = eqb-false (kind (before_at file k)) 2 t in
                  omega arith

      go :
          (t : Bool) → of_contract 2 (contract r) (before_at file k) ≡ t
          → tier_falls (before_at file k) r ≡ tier_falls (latest (of_contract 2 (contract r)) (earlier file k)) r
      go true e =
          ap (λ (x : Record). tier_falls x r) (sym (latest_first (of_contract 2 (contract r)) (earlier file k) refl e))
      go false e =
          let z = latest-none (of_contract 2 (contract r)) (earlier file k)
          (count-earlier (of_contract 2 (contract r)) file k ∙ absent e) in
          left_off (ltb (tier r) (tier (before_at file k))) e ∙ ap (λ (x : Record). tier_falls x r) (sym z)

module _ (es : List Record) (r : Record) where
  kinds_1 : kind r ≡ 1 → out_of_order_by_kind es r ≡ number_not_above (latest (of_kind 1) es) r
  kinds_1 e = rw e

  kinds_2 :
      kind r ≡ 2
      → out_of_order_by_kind es r
      ≡ day_not_above (latest (of_kind 2) es) r || tier_falls (latest (of_contract 2 (contract r)) es) r
  kinds_2 e = rw e

  kinds_3 : kind r ≡ 3 → out_of_order_by_kind es r ≡ contract_falls (latest (of_kind 3) es) r
  kinds_3 e = rw e

  kinds_4 : kind r ≡ 4 → out_of_order_by_kind es r ≡ contract_falls (latest (of_kind 4) es) r || legs_clash r
  kinds_4 e = rw e

  kinds_5 : kind r ≡ 5 → out_of_order_by_kind es r ≡ with_itself r
  kinds_5 e = rw e

  kinds_6 : kind r ≡ 6 → out_of_order_by_kind es r ≡ currency_not_above (latest (of_kind 6) es) r
  kinds_6 e = rw e

pub by_kinds : (file : List ℕ) → ByKind file
by_kinds file k fine u f h =
    let r = record_at file k in
    let es = earlier file k in
    let b = before_at file k in
    let i = kind_known r u in
    by_kind (λ n. kind r ≡ n → out_of_order b r ≡ out_of_order_by_kind es r)
    (λ e. order_1 b r e ∙ agree file k fine 1 (omega arith) (below e) (λ x. leb (contract r) (contract x)) ∙ sym
    (kinds_1 es r e))
    (λ e. order_2 b r e ∙ prompts e (day_not_above b r) refl ∙ sym (kinds_2 es r e))
    (λ e. order_3 b r e ∙ falls 3 (omega arith) e ∙ sym (kinds_3 es r e))
    (λ e. order_4 b r e ∙ both (falls 4 (omega arith) e) refl ∙ sym (kinds_4 es r e))
    (λ e. order_5 b r e ∙ sym (kinds_5 es r e))
    (λ e. order_6 b r e ∙ agree file k fine 6 (omega arith) (below e) (λ x. leb (rate_currency r) (rate_currency x)) ∙ sym
    (kinds_6 es r e)) (kind r) i.least i.most refl
  where
    below : {n : ℕ} → kind (record_at file k) ≡ n → kind (before_at file k) ≤ n
    below e = subst (λ (m : ℕ). kind (before_at file k) ≤ m) e
        (ltb-false (kind (record_at file k)) (kind (before_at file k)) f)

    falls :
        (n : ℕ) → 1 ≤ n → kind (record_at file k) ≡ n
        → contract_falls (before_at file k) (record_at file k)
        ≡ contract_falls (latest (of_kind n) (earlier file k)) (record_at file k)
    falls n low e =
        let r = record_at file k in
        let x = latest (of_kind n) (earlier file k) in
        ap (λ (m : ℕ). of_kind m (before_at file k) && ltb (contract r) (contract (before_at file k))) e
        ∙ agree file k fine n low (below e) (λ y. ltb (contract r) (contract y))
        ∙ ap (λ (m : ℕ). of_kind m x && ltb (contract r) (contract x)) (sym e)

    days_agree :
        kind (record_at file k) ≡ 2
        → day_not_above (before_at file k) (record_at file k)
        ≡ day_not_above (latest (of_kind 2) (earlier file k)) (record_at file k)
    days_agree e =
        agree file k fine 2 (omega arith) (below e)
        (λ x.
        ltb (contract (record_at file k)) (contract x)
        || (eqb (contract (record_at file k)) (contract x) && leb (day (record_at file k)) (day x)))

    prompts :
        kind (record_at file k) ≡ 2 → (t : Bool) → day_not_above (before_at file k) (record_at file k) ≡ t
        → day_not_above (before_at file k) (record_at file k) || tier_falls (before_at file k) (record_at file k)
        ≡ day_not_above (latest (of_kind 2) (earlier file k)) (record_at file k)
        || tier_falls (latest (of_contract 2 (contract (record_at file k))) (earlier file k)) (record_at file k)
    prompts e true t =
        first_on (tier_falls (before_at file k) (record_at file k)) t
        ∙ sym (first_on (tier_falls (latest (of_contract 2 (contract (record_at file k))) (earlier file k))
        (record_at file k)) (sym (days_agree e) ∙ t))
    prompts e false t =
        both (days_agree e)
        (same_tier file k fine (record_at file k) e (contract_known (record_at file k) u h) (below e)
        (λ i.
        ltb-false (contract (record_at file k)) (contract (before_at file k))
        (neither (ltb (contract (record_at file k)) (contract (before_at file k))) _
        (right_off (eq-eqb (kind (before_at file k)) 2 i) t)).0))
