-- The place of a ticket and what it is refused for, by how many records the parts of the account have.
-- Assumes nothing.
use Rattle.std.specs.Prelude.{Ok}
use Prim.Native.Nat.{ℕ, zero, suc, ◌+◌, ◌<◌}
use mathlib.Core.Path.{◌≡◌, refl, sym, ap, ap₂, ◌∙◌}
use mathlib.Core.Bool.{Bool, true, false, not, ◌&&◌, ◌||◌, cond, or-false}
use mathlib.Core.List.{List, [], ◌∷◌}
use lib.Dec.{eqb, leb}
use lib.ListN.{get_or, take, drop, take-append-drop}
use native.Mathlib.Omega.{arith}
use borrow.Author.Tests.{ne_eqb, eqb-true, eqb-false, leb-true, leb-false, le-leb, lt-leb}
use Rattle.exact.specs.Lists.{any, one_if, count, sum}
use Rattle.exact.proofs.Lists.{any_append, count_append}
use Rattle.record.specs.Layout.{Record, kind, contract, day, most_contract}
use Rattle.record.specs.Ranges.{unused_byte, field_outside}
use Rattle.record.proofs.Tests.{both}
use Rattle.account.specs.Accepted.{Each}
use Rattle.account.specs.Check.{lists_contract, lists_day, unlisted, over_limit, first_fault, Refusal, first_of, ◌when◌, most_contracts, most_rows}
use Rattle.account.specs.Checked.{rate_refusals, rate_fault_of, checked}
use Rattle.account.specs.code.Notes.{no_day}
use Rattle.account.specs.Parts.{of_kind, of_contract, on_day, prompts_of, rates_of}
use Rattle.account.specs.Records.{records, record_count, cut}
use Rattle.account.proofs.Dispatch.{unlisted_3, over_3}
use Rattle.account.proofs.Earlier.{any_earlier, count-earlier, take-cut}
use Rattle.account.proofs.Lists.{any_keep}
use Rattle.account.proofs.Passed.{Known, known_of, passed}
use Rattle.tickets.specs.Claims.{TicketRow}
use Rattle.tickets.specs.code.Counts.{row_fault_by}
use Rattle.tickets.specs.Ticket.{stands_before, place, ahead, row_fault}
use Rattle.tickets.proofs.Claims.{put_in}
use Rattle.tickets.proofs.Inserted.{Later, accepted_next}
use Rattle.tickets.proofs.Placed.{place_within, apart_at}

-- ---- counting by kinds and contracts
count_two :
    (p q r : Record → Bool) → ((x : Record) → one_if (p x) ≡ one_if (q x) + one_if (r x)) → (xs : List Record)
    → count p xs ≡ count q xs + count r xs
count_two p q r e [] = refl
count_two p q r e (x ∷ xs) = omega (arith, e x, count_two p q r e xs)

either_kind : (k : ℕ) (b : Bool) → one_if (eqb k 1 || (eqb k 2 || (eqb k 3 && b))) ≡ one_if (eqb k 1) + one_if (eqb k 2 || (eqb k 3 && b))
either_kind k b = go (eqb k 1) refl
  where
    go : (t : Bool) → eqb k 1 ≡ t → one_if (eqb k 1 || (eqb k 2 || (eqb k 3 && b))) ≡ one_if (eqb k 1) + one_if (eqb k 2 || (eqb k 3 && b))
    go true e =
        let i = eqb-true k 1 e in
        rw i
    go false e = rw e (omega arith)

or_row : (k : ℕ) (b : Bool) → one_if (eqb k 2 || (eqb k 3 && b)) ≡ one_if (eqb k 2) + one_if (eqb k 3 && b)
or_row k b = go (eqb k 2) refl
  where
    go : (t : Bool) → eqb k 2 ≡ t → one_if (eqb k 2 || (eqb k 3 && b)) ≡ one_if (eqb k 2) + one_if (eqb k 3 && b)
    go true e =
        let i = eqb-true k 2 e in
        rw i
    go false e = rw e (omega arith)

-- of a kind, and with a contract up to c
abbrev pub up_to : ℕ → ℕ → Record → Bool
up_to n c r = of_kind n r && leb (contract r) c

abbrev pub sum_to : (ℕ → ℕ) → ℕ → ℕ
sum_to f zero = 0
sum_to f (suc n) = sum_to f n + f n

first_contract : (a : Bool) (x : ℕ) → a && leb x 0 ≡ a && eqb x 0
first_contract a x = ap (λ (b : Bool). a && b) (go (eqb x 0) refl)
  where
    go : (t : Bool) → eqb x 0 ≡ t → leb x 0 ≡ eqb x 0
    go true e =
        let i = eqb-true x 0 e in
        le-leb x 0 (omega arith) ∙ sym e
    go false e =
        let i = eqb-false x 0 e in
        lt-leb x 0 (omega arith) ∙ sym e

next_contract : (a : Bool) (x c : ℕ) → one_if (a && leb x (suc c)) ≡ one_if (a && leb x c) + one_if (a && eqb x (suc c))
next_contract false x c = refl
next_contract true x c = go (leb x c) refl (eqb x (suc c)) refl
  where
    go : (s : Bool) → leb x c ≡ s → (t : Bool) → eqb x (suc c) ≡ t → one_if (leb x (suc c)) ≡ one_if (leb x c) + one_if (eqb x (suc c))
    go true e t f =
        let h = leb-true x c e in
        rw (e, le-leb x (suc c) (omega arith), ne_eqb x (suc c) (λ i. omega arith))
    go false e true f =
        let h = eqb-true x (suc c) f in
        rw (e, f, le-leb x (suc c) (omega arith))
    go false e false f =
        let h = leb-false x c e in
        let d = eqb-false x (suc c) f in
        rw (e, f, lt-leb x (suc c) (omega arith))

count-alike : (p q : Record → Bool) → ((x : Record) → p x ≡ q x) → (xs : List Record) → count p xs ≡ count q xs
count-alike p q e [] = refl
count-alike p q e (x ∷ xs) = ap₂ (λ (b : Bool) (n : ℕ). one_if b + n) (e x) (count-alike p q e xs)

pub up_to_lem : (n c : ℕ) (xs : List Record) → count (up_to n c) xs ≡ sum_to (λ k. count (of_contract n k) xs) (suc c)
up_to_lem n zero xs =
    count-alike (up_to n 0) (of_contract n 0) (λ r. first_contract (of_kind n r) (contract r)) xs ∙ omega arith
up_to_lem n (suc c) xs =
    omega (
      arith,
      count_two (up_to n (suc c)) (up_to n c) (of_contract n (suc c)) (λ r. next_contract (of_kind n r) (contract r) c) xs,
      up_to_lem n c xs,
    )

-- ---- a sum place by place
pub next_sum : (xs : List ℕ) (i : ℕ) → sum (take (suc i) xs) ≡ sum (take i xs) + get_or xs i 0
next_sum [] zero = refl
next_sum [] (suc i) = refl
next_sum (x ∷ xs) zero = omega arith
next_sum (x ∷ xs) (suc i) = omega (arith, next_sum xs i)

pub sum-places : (xs : List ℕ) (f : ℕ → ℕ) → ((k : ℕ) → get_or xs k 0 ≡ f k) → (i : ℕ) → sum (take i xs) ≡ sum_to f i
sum-places xs f e zero = refl
sum-places xs f e (suc i) = omega (arith, next_sum xs i, e i, sum-places xs f e i)

pub place_by_lem :
    (t : Record) (rs : List Record) (rows : List ℕ) → ((c : ℕ) → get_or rows c 0 ≡ count (of_contract 3 c) rs)
    → place t rs ≡ count (of_kind 1) rs + count (of_kind 2) rs + sum (take (suc (contract t)) rows)
place_by_lem t rs rows e =
    omega (
      arith,
      count_two (stands_before t) (of_kind 1) (λ r. of_kind 2 r || up_to 3 (contract t) r) (λ r. either_kind (kind r) (leb (contract r) (contract t))) rs,
      count_two (λ r. of_kind 2 r || up_to 3 (contract t) r) (of_kind 2) (up_to 3 (contract t)) (λ r. or_row (kind r) (leb (contract r) (contract t))) rs,
      up_to_lem 3 (contract t) rs,
      sum-places rows (λ k. count (of_contract 3 k) rs) e (suc (contract t)),
    )

-- ---- every record of an accepted list has a kind and a contract that are known
pub known_all : (k : ℕ) (es rs : List Record) → first_fault k es rs ≡ Ok tt → Each Known rs
known_all k es [] h = tt
known_all k es (r ∷ rs) h =
    let a = accepted_next k es r rs h in
    (known_of r (passed es r a.0), known_all (k + 1) (r ∷ es) rs a.1)

kind_within : (n : ℕ) (rs : List Record) → Each Known rs → count (of_kind n) rs ≡ count (up_to n most_contract) rs
kind_within n [] e = refl
kind_within n (r ∷ rs) e =
    let c = e.0.contracts in
    ap₂ (λ (b : Bool) (m : ℕ). one_if b + m) (go (of_kind n r)) (kind_within n rs e.1)
  where
    all : (a : Bool) → a ≡ a && true
    all true = refl
    all false = refl

    go : (a : Bool) → a ≡ a && leb (contract r) most_contract
    go a =
        let c = e.0.contracts in
        all a ∙ ap (λ (b : Bool). a && b) (sym (le-leb (contract r) most_contract c))

pub kind-places : (n : ℕ) (rs : List Record) → Each Known rs → count (of_kind n) rs ≡ sum_to (λ k. count (of_contract n k) rs) most_contracts
kind-places n rs e = kind_within n rs e ∙ up_to_lem n most_contract rs

-- ---- the records before the ticket's place, and all records
module _ (file : List ℕ) (ok : checked file ≡ Ok tt) (t : Record) (r : TicketRow t) where
  abbrev rs : List Record
  rs = records file

  abbrev p : ℕ
  p = place t rs

  front : cut p file ≡ take p rs
  front = sym (take-cut p (record_count file) file (place_within file ok t))

  none_of : (q : Record → Bool) (xs : List Record) → ((x : Record) → Later t x → q x ≡ false) → Each (Later t) xs → (any q xs ≡ false) × (count q xs ≡ 0)
  none_of q [] e l = (refl, refl)
  none_of q (x ∷ xs) e l =
      let z = e x l.0 in
      let rest = none_of q xs e l.1 in
      (both z rest.0, ap₂ (λ (b : Bool) (n : ℕ). one_if b + n) z rest.1)

  module _ (q : Record → Bool) (e : (x : Record) → Later t x → q x ≡ false) where
    first_any : any q (ahead file t) ≡ any q rs
    first_any =
        let z = none_of q (drop p rs) e (apart_at file ok t r.whole r.row).rest in
        any_earlier q file p ∙ ap (any q) front
        ∙ sym (or-false (any q (take p rs))) ∙ ap (λ (b : Bool). any q (take p rs) || b) (sym z.0)
        ∙ sym (any_append q (take p rs) (drop p rs)) ∙ ap (any q) (take-append-drop p rs)

    first_count : count q (ahead file t) ≡ count q rs
    first_count =
        let z = none_of q (drop p rs) e (apart_at file ok t r.whole r.row).rest in
        omega (
          arith,
          count-earlier q file p,
          ap (count q) front,
          z.1,
          count_append q (take p rs) (drop p rs),
          ap (count q) (take-append-drop p rs),
        )

  other_kind : (n c : ℕ) → n < 3 → (x : Record) → Later t x → of_contract n c x ≡ false
  other_kind n c h x l =
      let k = l.high in
      ap (λ (b : Bool). b && eqb (contract x) c) (ne_eqb (kind x) n (λ i. omega arith))

  other_row_lem : (x : Record) → Later t x → of_contract 3 (contract t) x ≡ false
  other_row_lem x l = go (eqb (kind x) 3) refl
    where
      go : (b : Bool) → eqb (kind x) 3 ≡ b → of_contract 3 (contract t) x ≡ false
      go false e = ap (λ (b : Bool). b && eqb (contract x) (contract t)) e
      go true e =
          let a = l.above (eqb-true (kind x) 3 e) in
          ap₂ (λ (b c : Bool). b && c) e (ne_eqb (contract x) (contract t) (λ i. omega arith))

  other_day : (c d : ℕ) (x : Record) → Later t x → lists_day c d x ≡ false
  other_day c d x l = ap (λ (b : Bool). b && eqb (day x) d) (other_kind 2 c (omega arith) x l)

  -- ---- 7 and 9, by the parts
  pub unlisted_is :
      unlisted (ahead file t) t ≡ not (any (of_contract 1 (contract t)) rs) || no_day (prompts_of (contract t) rs) (day t)
  unlisted_is =
      let c = contract t in
      let d = day t in
      unlisted_3 (ahead file t) t r.row
      ∙ both (ap not (first_any (lists_contract c) (other_kind 1 c (omega arith))))
      (ap not (first_any (lists_day c d) (other_day c d) ∙ sym (any_keep (of_contract 2 c) (on_day d) rs)))

  pub limit_is : over_limit (ahead file t) t ≡ leb most_rows (count (of_contract 3 (contract t)) rs)
  limit_is = over_3 (ahead file t) t r.row ∙ ap (leb most_rows) (first_count (of_contract 3 (contract t)) other_row_lem)

-- ---- the first refusal of a row at its place
staged :
    (a b c e : Bool) (rest : List Refusal)
    → first_of (5 when a ∷ 6 when b ∷ 7 when c ∷ 8 when false ∷ 9 when e ∷ rest)
    ≡ cond (eqb (first_of (5 when a ∷ 6 when b ∷ 7 when c ∷ 9 when e ∷ [])) 0) (first_of rest) (first_of (5 when a ∷ 6 when b ∷ 7 when c ∷ 9 when e ∷ []))
staged true b c e rest = refl
staged false true c e rest = refl
staged false false true e rest = refl
staged false false false true rest = refl
staged false false false false rest = refl

pub fault_by_lem :
    (file : List ℕ) (ok : checked file ≡ Ok tt) (t : Record) (r : TicketRow t)
    → row_fault file t
    ≡ cond (eqb (row_fault_by (not (any (of_contract 1 (contract t)) (records file)) || no_day (prompts_of (contract t) (records file)) (day t))
    (count (of_contract 3 (contract t)) (records file)) t) 0)
    (rate_fault_of (rates_of (records file)) t)
    (row_fault_by (not (any (of_contract 1 (contract t)) (records file)) || no_day (prompts_of (contract t) (records file)) (day t))
    (count (of_contract 3 (contract t)) (records file)) t)
fault_by_lem file ok t r =
    let es = ahead file t in
    let rest = rate_refusals (rates_of (records file)) t in
    ap (λ (b : Bool). first_of (5 when unused_byte t ∷ 6 when field_outside t ∷ 7 when unlisted es t ∷ 8 when b ∷ 9 when over_limit es t ∷ rest))
    (put_in file t ok r).never_8
    ∙ ap₂ (λ (a b : Bool). first_of (5 when unused_byte t ∷ 6 when field_outside t ∷ 7 when a ∷ 8 when false ∷ 9 when b ∷ rest))
    (unlisted_is file ok t r) (limit_is file ok t r)
    ∙ staged (unused_byte t) (field_outside t) (not (any (of_contract 1 (contract t)) (records file)) || no_day (prompts_of (contract t) (records file)) (day t))
    (leb most_rows (count (of_contract 3 (contract t)) (records file))) rest

-- ---- the first of the four that occur
module _ (a b c e : Bool) where
  abbrev four : ℕ
  four = first_of (5 when a ∷ 6 when b ∷ 7 when c ∷ 9 when e ∷ [])

  pub four_5 : a ≡ true → 5 ≡ four
  four_5 ha = rw ha

  pub four_6 : a ≡ false → b ≡ true → 6 ≡ four
  four_6 ha hb = rw (ha, hb)

  pub four_7 : a ≡ false → b ≡ false → c ≡ true → 7 ≡ four
  four_7 ha hb hc = rw (ha, hb, hc)

  pub four_9 : a ≡ false → b ≡ false → c ≡ false → e ≡ true → 9 ≡ four
  four_9 ha hb hc he = rw (ha, hb, hc, he)

  pub four_0 : a ≡ false → b ≡ false → c ≡ false → e ≡ false → ◌≡◌ {A = ℕ} 0 four
  four_0 ha hb hc he = rw (ha, hb, hc, he)
