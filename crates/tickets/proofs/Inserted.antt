-- A row put into a list of records that the check accepts, after all that stand before it: the check of the longer list says of the row
-- what it is refused for there, and nothing of the other records; and what it changes of the account's parts.
-- Assumes nothing.
use Rattle.std.specs.Prelude.{Ok}
use Prim.Native.Nat.{ℕ, suc, ◌+◌, ◌≤◌, ◌<◌}
use mathlib.Core.Path.{◌≡◌, refl, sym, ap, ap₂, ◌∙◌, subst, subst⁻¹}
use mathlib.Core.Bool.{Bool, true, false, not, ◌&&◌, ◌||◌, cond, and-false}
use mathlib.Core.List.{List, [], ◌∷◌, ◌++◌, append-nil}
use lib.Dec.{eqb, leb, ltb}
use lib.ListN.{take, drop, take-append-drop}
use native.Mathlib.Omega.{arith}
use borrow.Author.Tests.{eq-eqb, ne_eqb, eqb-true, eqb-false, leb-true, leb-false, ltb-false, le-ltb}
use Rattle.exact.specs.Lists.{keep, any, one_if, count, cons_if}
use Rattle.exact.proofs.Lists.{keep_append}
use Rattle.record.specs.Layout.{Record, kind, contract, day, legs_of, leg_tier, second_contract}
use Rattle.record.specs.Ranges.{unknown_kind, unused_byte, field_outside}
use Rattle.record.proofs.Tests.{both}
use Rattle.record.proofs.Within.{both_true, neither, by_kind}
use Rattle.account.specs.Accepted.{Each}
use Rattle.account.specs.Answers.{number_of, refusal}
use Rattle.account.specs.Check.{the_one_before, kind_falls, unlisted, out_of_order, over_limit, fault_of, or_else, first_fault, none, lists_contract, lists_day, lists_tier}
use Rattle.account.specs.Check.{leg_unlisted, contract_falls, legs_clash, most_rows, most_spreads, most_entries}
use Rattle.account.specs.Parts.{of_kind, of_contract, contracts_of, prompts_of, rows_of, spreads_of, entries_of, rates_of}
use Rattle.account.specs.Answers.{Answer}
use Rattle.account.proofs.Dispatch.{order_3, order_4, order_5, order_6, unlisted_3, unlisted_4, unlisted_5, over_3, over_4, over_5}
use Rattle.account.proofs.Firsts.{number_refusal, is_0}
use Rattle.account.proofs.Lists.{keep-none}
use Rattle.account.proofs.Passed.{Passed, passed, known_of, right_off}
use Rattle.account.proofs.Verdict.{fault_number}
use Rattle.tickets.specs.Ticket.{stands_before, place}

-- ---- the check of a list, one record at a time
pub accepted_next :
    (k : ℕ) (es : List Record) (r : Record) (later : List Record) → first_fault k es (r ∷ later) ≡ Ok tt
    → (fault_of es r ≡ 0) × (first_fault (k + 1) (r ∷ es) later ≡ Ok tt)
accepted_next k es r later h = go (eqb (fault_of es r) 0) refl
  where
    go : (t : Bool) → eqb (fault_of es r) 0 ≡ t → (fault_of es r ≡ 0) × (first_fault (k + 1) (r ∷ es) later ≡ Ok tt)
    go true e = (
      eqb-true (fault_of es r) 0 e,
      sym (ap (λ (b : Bool). cond b (first_fault (k + 1) (r ∷ es) later) (refusal (fault_of es r) k)) e) ∙ h,
    )
    go false e =
        let n = fault_of es r in
        let nz = eqb-false n 0 e in
        let i = fault_number es r n refl nz in
        let z : refusal n k ≡ (Ok tt) =
        sym (ap (λ (b : Bool). cond b (first_fault (k + 1) (r ∷ es) later) (refusal n k)) e) ∙ h in
        absurd (nz (sym (number_refusal n k i.0 i.1) ∙ ap number_of z))

-- no fault: the verdict of the later records
pub no_fault : (n k : ℕ) (a : Answer) → n ≡ 0 → or_else n k a ≡ a
no_fault n k a z = ap (λ (b : Bool). cond b a (refusal n k)) (eq-eqb n 0 z)

-- a record with none of the seven refusals has no fault
pub faultless_of : (es : List Record) (r : Record) → Passed es r → fault_of es r ≡ 0
faultless_of es r p =
    sym (is_0 (unknown_kind r) (kind_falls (the_one_before es) r) (unused_byte r) (field_outside r) (unlisted es r)
    (out_of_order (the_one_before es) r) (over_limit es r) p.known p.rises p.unused p.within p.listed p.ordered p.room)

-- nothing is named by a currency rate, and no limit holds of it but its order
unlisted_6 : (es : List Record) (r : Record) → kind r ≡ 6 → unlisted es r ≡ false
unlisted_6 es r e = rw e

over_6 : (es : List Record) (r : Record) → kind r ≡ 6 → over_limit es r ≡ false
over_6 es r e = rw e

-- a row is of a known kind
pub row_known : (r : Record) → kind r ≡ 3 → unknown_kind r ≡ false
row_known r e = ap (λ (n : ℕ). not (leb 1 n && leb n 6)) e

any_alike : (f g : ℕ → Bool) → ((n : ℕ) → f n ≡ g n) → (ns : List ℕ) → any f ns ≡ any g ns
any_alike f g e [] = refl
any_alike f g e (n ∷ ns) = both (e n) (any_alike f g e ns)

left_off : {a : Bool} (b : Bool) → a ≡ false → a && b ≡ false
left_off b e = ap (λ (x : Bool). x && b) e

-- one list on top of another, its last record first
abbrev pub onto : List Record → List Record → List Record
onto [] es = es
onto (r ∷ rs) es = onto rs (r ∷ es)

module _ (t : Record) where
  -- ---- what does not stand before the ticket
  pub record Later (r : Record) : Type 0 where
    pub high : 3 ≤ kind r
    pub above : kind r ≡ 3 → contract t < contract r

  pub later_of : (r : Record) → 1 ≤ kind r → stands_before t r ≡ false → Later r
  later_of r low e =
      let one = neither (of_kind 1 r) _ e in
      let two = neither (of_kind 2 r) _ one.1 in
      let a = eqb-false (kind r) 1 one.0 in
      let b = eqb-false (kind r) 2 two.0 in
      record {
        high = omega arith;
        above = λ i. leb-false (contract r) (contract t) (right_off (eq-eqb (kind r) 3 i) two.1);
      }

  -- ---- and what does: kinds 1 and 2, and rows whose contract is not above its own
  pub record Before (r : Record) : Type 0 where
    pub low : kind r ≤ 3
    pub under : kind r ≡ 3 → contract r ≤ contract t

  pub before_of : (r : Record) → stands_before t r ≡ true → Before r
  before_of r e = go (of_kind 1 r) refl (of_kind 2 r) refl
    where
      go : (a : Bool) → of_kind 1 r ≡ a → (b : Bool) → of_kind 2 r ≡ b → Before r
      go true i b j =
          let k = eqb-true (kind r) 1 i in
          record { low = omega arith; under = λ h. absurd (omega arith) }
      go false i true j =
          let k = eqb-true (kind r) 2 j in
          record { low = omega arith; under = λ h. absurd (omega arith) }
      go false i false j =
          let l : of_kind 3 r && leb (contract r) (contract t) ≡ true =
          sym (ap₂ (λ (a b : Bool). a || (b || (of_kind 3 r && leb (contract r) (contract t)))) i j) ∙ e in
          let m = both_true (of_kind 3 r) (leb (contract r) (contract t)) l in
          let k = eqb-true (kind r) 3 m.0 in
          record { low = omega arith; under = λ h. leb-true (contract r) (contract t) m.1 }

  pub of_later : (r : Record) → Later r → stands_before t r ≡ false
  of_later r l = go (stands_before t r) refl
    where
      go : (b : Bool) → stands_before t r ≡ b → b ≡ false
      go false e = refl
      go true e =
          let x = before_of r e in
          let h = l.high in
          let w = x.low in
          let k : kind r ≡ 3 = omega arith in
          let u = x.under k in
          let a = l.above k in
          absurd (omega arith)

  -- where a record does not stand before the ticket, no later one does
  later_next : (b r : Record) → Later b → kind_falls b r ≡ false → out_of_order b r ≡ false → Later r
  later_next b r l rises ordered =
      let up = ltb-false (kind r) (kind b) rises in
      let h = l.high in
      record {
        high = omega arith;
        above =
            λ i.
            let k : kind b ≡ 3 = omega arith in
            let a = l.above k in
            let c = ltb-false (contract r) (contract b)
            (right_off (eq-eqb (kind b) (kind r) (k ∙ sym i)) (sym (order_3 b r i) ∙ ordered)) in
            omega arith;
      }

  none_after :
      (k : ℕ) (es later : List Record) → first_fault k es later ≡ Ok tt → Later (the_one_before es)
      → Each Later later
  none_after k es [] h l = tt
  none_after k es (r ∷ later) h l =
      let a = accepted_next k es r later h in
      let p = passed es r a.0 in
      let m = later_next (the_one_before es) r l p.rises p.ordered in
      (m, none_after (k + 1) (r ∷ es) later a.1 m)

  -- ---- accepted records fall apart at the ticket's place
  count_none : (rs : List Record) → Each Later rs → count (stands_before t) rs ≡ 0
  count_none [] e = refl
  count_none (r ∷ rs) e =
      let z : one_if (stands_before t r) ≡ 0 = ap one_if (of_later r e.0) in
      omega (arith, count_none rs e.1)

  pub record Apart (n : ℕ) (rs : List Record) : Type 0 where
    pub first : Each Before (take n rs)
    pub rest : Each Later (drop n rs)

  place_one : (r : Record) (rs : List Record) → stands_before t r ≡ true → suc (place t rs) ≡ place t (r ∷ rs)
  place_one r rs e =
      let z : one_if (stands_before t r) ≡ 1 = ap one_if e in
      omega arith

  -- all that is later than a record that does not stand before the ticket
  rest_later :
      (k : ℕ) (es : List Record) (r : Record) (rs : List Record) → Passed es r → first_fault (k + 1) (r ∷ es) rs ≡ Ok tt
      → stands_before t r ≡ false → Each Later (r ∷ rs)
  rest_later k es r rs p m e =
      let l = later_of r (known_of r p).low e in
      (l, none_after (k + 1) (r ∷ es) rs m l)

  pub apart : (k : ℕ) (es rs : List Record) → first_fault k es rs ≡ Ok tt → Apart (place t rs) rs
  apart k es [] h = record { first = tt; rest = tt }
  apart k es (r ∷ rs) h =
      let a = accepted_next k es r rs h in
      go (passed es r a.0) a.1 (apart (k + 1) (r ∷ es) rs a.1) (stands_before t r) refl
    where
      go :
          Passed es r → first_fault (k + 1) (r ∷ es) rs ≡ Ok tt → Apart (place t rs) rs → (b : Bool) → stands_before t r ≡ b
          → Apart (place t (r ∷ rs)) (r ∷ rs)
      go p m i true e =
          subst (λ (n : ℕ). Apart n (r ∷ rs)) (place_one r rs e)
          (record { first = (before_of r e, i.first); rest = i.rest })
      go p m i false e =
          let l = rest_later k es r rs p m e in
          subst⁻¹ (λ (n : ℕ). Apart n (r ∷ rs)) (count_none (r ∷ rs) l) (record { first = tt; rest = l })

  -- ---- a ticket among the earlier records is seen by no test that it does not pass itself
  record Same (p : Record → Bool) (es es' : List Record) : Type 0 where
    anys : any p es' ≡ any p es
    counts : count p es' ≡ count p es

  abbrev Beside : List Record → List Record → Type 0
  Beside es es' = (p : Record → Bool) → p t ≡ false → Same p es es'

  beside_here : (es : List Record) → Beside es (t ∷ es)
  beside_here es p e =
      let z : one_if (p t) ≡ 0 = ap one_if e in
      record { anys = ap (λ (b : Bool). b || any p es) e; counts = omega arith }

  beside_more : (r : Record) (es es' : List Record) → Beside es es' → Beside (r ∷ es) (r ∷ es')
  beside_more r es es' b p e =
      let s = b p e in
      record { anys = ap (λ (x : Bool). p r || x) s.anys; counts = ap (λ (n : ℕ). one_if (p r) + n) s.counts }

  module _ (row : kind t ≡ 3) where
    no_own : (c : ℕ) → of_contract 1 c t ≡ false
    no_own c = ap (λ (n : ℕ). eqb n 1 && eqb (contract t) c) row

    no_prompt : (c : ℕ) → of_contract 2 c t ≡ false
    no_prompt c = ap (λ (n : ℕ). eqb n 2 && eqb (contract t) c) row

    no_spread_lem : (c : ℕ) → of_contract 4 c t ≡ false
    no_spread_lem c = ap (λ (n : ℕ). eqb n 4 && eqb (contract t) c) row

    no_entry : of_kind 5 t ≡ false
    no_entry = ap (λ (n : ℕ). eqb n 5) row

    no_row : (c : ℕ) → (contract t ≡ c → ⊥) → of_contract 3 c t ≡ false
    no_row c d = ap₂ (λ (n : ℕ) (b : Bool). eqb n 3 && b) row (ne_eqb (contract t) c d)

    no_day_lem : (c d : ℕ) → lists_day c d t ≡ false
    no_day_lem c d = left_off (eqb (day t) d) (no_prompt c)

    no_tier_lem : (c n : ℕ) → lists_tier c n t ≡ false
    no_tier_lem c n = left_off _ (no_prompt c)

    module _ (es es' : List Record) (b : Beside es es') (r : Record) (l : Later r) (p : Passed es r) where
      no_listing : (q : Record → Bool) → q t ≡ false → none q es' ≡ none q es
      no_listing q e = ap not (b q e).anys

      known_3 : (P : Type 0) → (kind r ≡ 3 → P) → (kind r ≡ 4 → P) → (kind r ≡ 5 → P) → (kind r ≡ 6 → P) → P
      known_3 P three four five six =
          let h = l.high in
          by_kind (λ n. kind r ≡ n → P) (λ e. absurd (omega arith)) (λ e. absurd (omega arith)) three four five six (kind r)
          (known_of r p).low (known_of r p).high refl

      still_listed : unlisted es' r ≡ unlisted es r
      still_listed =
          let c = contract r in
          let own = no_listing (lists_contract c) (no_own c) in
          known_3 (unlisted es' r ≡ unlisted es r)
          (λ e.
          unlisted_3 es' r e ∙ both own (no_listing (lists_day c (day r)) (no_day_lem c (day r))) ∙ sym (unlisted_3 es r e))
          (λ e.
          unlisted_4 es' r e
          ∙ both own (any_alike (leg_unlisted es' r) (leg_unlisted es r) (λ leg. no_listing (lists_tier c (leg_tier r leg)) (no_tier_lem c (leg_tier r leg))) (legs_of r))
          ∙ sym (unlisted_4 es r e))
          (λ e.
          unlisted_5 es' r e ∙ both own (no_listing (lists_contract (second_contract r)) (no_own (second_contract r)))
          ∙ sym (unlisted_5 es r e))
          (λ e. unlisted_6 es' r e ∙ sym (unlisted_6 es r e))

      still_room : over_limit es' r ≡ over_limit es r
      still_room =
          let c = contract r in
          known_3 (over_limit es' r ≡ over_limit es r)
          (λ e.
          let a = l.above e in
          over_3 es' r e ∙ ap (leb most_rows) (b (of_contract 3 c) (no_row c (λ i. omega arith))).counts ∙ sym (over_3 es r e))
          (λ e. over_4 es' r e ∙ ap (leb most_spreads) (b (of_contract 4 c) (no_spread_lem c)).counts ∙ sym (over_4 es r e))
          (λ e. over_5 es' r e ∙ ap (leb most_entries) (b (of_kind 5) no_entry).counts ∙ sym (over_5 es r e))
          (λ e. over_6 es' r e ∙ sym (over_6 es r e))

      still_passed :
          kind_falls (the_one_before es') r ≡ false → out_of_order (the_one_before es') r ≡ false → Passed es' r
      still_passed rises ordered =
          record {
            known = p.known;
            rises = rises;
            unused = p.unused;
            within = p.within;
            listed = still_listed ∙ p.listed;
            ordered = ordered;
            room = still_room ∙ p.room;
          }

      -- right after the ticket
      rises_after : kind_falls t r ≡ false
      rises_after =
          let h = l.high in
          le-ltb (kind r) (kind t) (omega (arith, row))

      ordered_after : out_of_order t r ≡ false
      ordered_after =
          known_3 (out_of_order t r ≡ false)
          (λ e.
          let a = l.above e in
          order_3 t r e ∙ ap (λ (x : Bool). of_kind (kind r) t && x) (le-ltb (contract r) (contract t) (omega arith)) ∙ and-false (of_kind (kind r) t))
          (λ e.
          let clash = (neither (contract_falls (the_one_before es) r) (legs_clash r) (sym (order_4 (the_one_before es) r e) ∙ p.ordered)).1 in
          order_4 t r e
          ∙ both (left_off (ltb (contract r) (contract t)) (ap₂ (λ (n m : ℕ). eqb n m) row e)) clash)
          (λ e. order_5 t r e ∙ sym (order_5 (the_one_before es) r e) ∙ p.ordered)
          (λ e. order_6 t r e ∙ left_off _ (ap (λ (n : ℕ). eqb n 6) row))

    -- ---- the later records are as they were
    still_accepted :
        (k m : ℕ) (es es' later : List Record) → Beside es es' → the_one_before es' ≡ the_one_before es
        → first_fault k es later ≡ Ok tt → Each Later later → first_fault m es' later ≡ Ok tt
    still_accepted k m es es' [] b e h l = refl
    still_accepted k m es es' (y ∷ later) b e h l =
        let a = accepted_next k es y later h in
        let p = passed es y a.0 in
        let q = still_passed es es' b y l.0 p (ap (λ (x : Record). kind_falls x y) e ∙ p.rises) (ap (λ (x : Record). out_of_order x y) e ∙ p.ordered) in
        no_fault (fault_of es' y) m (first_fault (m + 1) (y ∷ es') later) (faultless_of es' y q)
        ∙ still_accepted (k + 1) (m + 1) (y ∷ es) (y ∷ es') later (beside_more y es es' b) refl a.1 l.1

    pushed :
        (k m : ℕ) (es later : List Record) → first_fault k es later ≡ Ok tt → Each Later later
        → first_fault m (t ∷ es) later ≡ Ok tt
    pushed k m es [] h l = refl
    pushed k m es (y ∷ later) h l =
        let a = accepted_next k es y later h in
        let p = passed es y a.0 in
        let b = beside_here es in
        let q = still_passed es (t ∷ es) b y l.0 p (rises_after es (t ∷ es) b y l.0 p) (ordered_after es (t ∷ es) b y l.0 p) in
        no_fault (fault_of (t ∷ es) y) m (first_fault (m + 1) (y ∷ t ∷ es) later) (faultless_of (t ∷ es) y q)
        ∙ still_accepted (k + 1) (m + 1) (y ∷ es) (y ∷ t ∷ es) later (beside_more y es (t ∷ es) b) refl a.1 l.1

    -- ---- the check of the longer list
    abbrev Says : ℕ → List Record → List Record → ℕ → Type 0
    Says k es rs n =
        first_fault k es (take n rs ++ t ∷ drop n rs) ≡ or_else (fault_of (onto (take n rs) es) t) (k + n) (Ok tt)

    pub inserted : (k : ℕ) (es rs : List Record) → first_fault k es rs ≡ Ok tt → Says k es rs (place t rs)
    inserted k es [] h =
        let z : k ≡ k + 0 = omega arith in
        ap (λ (n : ℕ). or_else (fault_of es t) n (Ok tt)) z
    inserted k es (r ∷ rs) h =
        let a = accepted_next k es r rs h in
        go (passed es r a.0) a.0 a.1 (inserted (k + 1) (r ∷ es) rs a.1) (stands_before t r) refl
      where
        go :
            Passed es r → fault_of es r ≡ 0 → first_fault (k + 1) (r ∷ es) rs ≡ Ok tt → Says (k + 1) (r ∷ es) rs (place t rs)
            → (b : Bool) → stands_before t r ≡ b → Says k es (r ∷ rs) (place t (r ∷ rs))
        go p f m i true e =
            let n = place t rs in
            let z : k + 1 + n ≡ k + suc n = omega arith in
            subst (Says k es (r ∷ rs)) (place_one r rs e)
            (no_fault (fault_of es r) k (first_fault (k + 1) (r ∷ es) (take n rs ++ t ∷ drop n rs)) f
            ∙ i ∙ ap (λ (j : ℕ). or_else (fault_of (onto (take n rs) (r ∷ es)) t) j (Ok tt)) z)
        go p f m i false e =
            let l = rest_later k es r rs p m e in
            let z : k ≡ k + 0 = omega arith in
            subst⁻¹ (Says k es (r ∷ rs)) (count_none (r ∷ rs) l)
            (ap (or_else (fault_of es t) k) (pushed k (k + 1) es (r ∷ rs) h l)
            ∙ ap (λ (n : ℕ). or_else (fault_of es t) n (Ok tt)) z)

    -- ---- the parts
    kept_not : (q : Record → Bool) (n : ℕ) (rs : List Record) → q t ≡ false → keep q (take n rs ++ t ∷ drop n rs) ≡ keep q rs
    kept_not q n rs e =
        keep_append q (take n rs) (t ∷ drop n rs)
        ∙ ap (λ (b : Bool). keep q (take n rs) ++ cons_if b t (keep q (drop n rs))) e
        ∙ sym (keep_append q (take n rs) (drop n rs))
        ∙ ap (keep q) (take-append-drop n rs)

    no_later_row : (c : ℕ) (rs : List Record) → contract t ≡ c → Each Later rs → Each (λ r. of_contract 3 c r ≡ false) rs
    no_later_row c [] e l = tt
    no_later_row c (r ∷ rs) e l = (go (of_contract 3 c r) refl, no_later_row c rs e l.1)
      where
        go : (b : Bool) → of_contract 3 c r ≡ b → b ≡ false
        go false i = refl
        go true i =
            let x = both_true (of_kind 3 r) (eqb (contract r) c) i in
            let a = l.0.above (eqb-true (kind r) 3 x.0) in
            let d = eqb-true (contract r) c x.1 in
            absurd (omega arith)

    pub rows_with :
        (n c : ℕ) (rs : List Record) → Apart n rs → contract t ≡ c
        → rows_of c (take n rs ++ t ∷ drop n rs) ≡ rows_of c rs ++ t ∷ []
    rows_with n c rs a e =
        let q = of_contract 3 c in
        let here : q t ≡ true = ap₂ (λ (i : ℕ) (b : Bool). eqb i 3 && b) row (eq-eqb (contract t) c e) in
        let none = keep-none q (drop n rs) (no_later_row c (drop n rs) e a.rest) in
        let front : keep q (take n rs) ≡ rows_of c rs =
        sym (append-nil (keep q (take n rs))) ∙ ap (λ (xs : List Record). keep q (take n rs) ++ xs) (sym none)
        ∙ sym (keep_append q (take n rs) (drop n rs)) ∙ ap (keep q) (take-append-drop n rs) in
        keep_append q (take n rs) (t ∷ drop n rs)
        ∙ ap (λ (b : Bool). keep q (take n rs) ++ cons_if b t (keep q (drop n rs))) here
        ∙ ap₂ (λ (xs ys : List Record). xs ++ t ∷ ys) front none

    pub rows_without :
        (n c : ℕ) (rs : List Record) → (contract t ≡ c → ⊥) → rows_of c (take n rs ++ t ∷ drop n rs) ≡ rows_of c rs
    rows_without n c rs d = kept_not (of_contract 3 c) n rs (no_row c d)

    pub contracts_same : (n : ℕ) (rs : List Record) → contracts_of (take n rs ++ t ∷ drop n rs) ≡ contracts_of rs
    contracts_same n rs = kept_not (of_kind 1) n rs (ap (λ (i : ℕ). eqb i 1) row)

    pub prompts_same : (n c : ℕ) (rs : List Record) → prompts_of c (take n rs ++ t ∷ drop n rs) ≡ prompts_of c rs
    prompts_same n c rs = kept_not (of_contract 2 c) n rs (no_prompt c)

    pub spreads_same : (n c : ℕ) (rs : List Record) → spreads_of c (take n rs ++ t ∷ drop n rs) ≡ spreads_of c rs
    spreads_same n c rs = kept_not (of_contract 4 c) n rs (no_spread_lem c)

    pub entries_same : (n : ℕ) (rs : List Record) → entries_of (take n rs ++ t ∷ drop n rs) ≡ entries_of rs
    entries_same n rs = kept_not (of_kind 5) n rs no_entry

    pub rates_same : (n : ℕ) (rs : List Record) → rates_of (take n rs ++ t ∷ drop n rs) ≡ rates_of rs
    rates_same n rs = kept_not (of_kind 6) n rs (ap (λ (i : ℕ). eqb i 6) row)

    -- ---- 4 and 8 do not occur at its place
    module _ (b : Record) (before : Before b) where
      pub never_4 : kind_falls b t ≡ false
      never_4 =
          let l = before.low in
          le-ltb (kind t) (kind b) (omega (arith, row))

      pub never_8 : out_of_order b t ≡ false
      never_8 = order_3 b t row ∙ go (of_kind (kind t) b) refl
        where
          go : (x : Bool) → of_kind (kind t) b ≡ x → contract_falls b t ≡ false
          go false e = left_off (ltb (contract t) (contract b)) e
          go true e =
              let u = before.under (eqb-true (kind b) (kind t) e ∙ row) in
              ap₂ (λ (x y : Bool). x && y) e (le-ltb (contract t) (contract b) u)
