-- A ticket put into the bytes of an accepted file: the records are those of the file with the ticket at its place, and the check of the
-- longer file says what the ticket is refused for.
-- Assumes nothing.
use Rattle.std.specs.Prelude.{Ok, Err}
use Prim.Native.Nat.{ℕ, zero, suc, ◌+◌, ◌-◌, ◌*◌, ◌%◌, ◌≤◌, ◌<◌}
use mathlib.Core.Path.{◌≡◌, refl, sym, ap, ap₂, ◌∙◌, subst⁻¹}
use mathlib.Core.Bool.{Bool, true, false, not, ◌&&◌, cond}
use mathlib.Core.List.{List, [], ◌∷◌, ◌++◌}
use lib.Dec.{eqb}
use lib.ListN.{length, take, drop, take-append-drop, length-append, length-drop}
use lib.Seq.{take_at, drop_at, length-take-le, take-append-le, drop-append-le}
use native.Mathlib.Omega.{arith}
use borrow.Author.Tests.{eq-eqb, eqb-true, eqb-false, ltb-false, lt-ltb, le-ltb, lt-leb, not-false}
use Rattle.record.specs.Bytes.{record_bytes}
use Rattle.exact.proofs.Lists.{count_le}
use Rattle.record.specs.Layout.{Record, kind}
use Rattle.account.specs.Accepted.{Each}
use Rattle.account.specs.Answers.{number_of, record_of}
use Rattle.record.specs.Ranges.{unused_byte, field_outside}
use Rattle.account.specs.Check.{the_one_before, kind_falls, unlisted, out_of_order, over_limit, Refusal, ◌when◌, first_of, fault_of, or_else, first_fault, too_long}
use Rattle.account.specs.Check.{most_records, cut_record, records_checked}
use Rattle.account.specs.Checked.{rate_refusals, rate_fault_of, first_rate_fault, rates_checked, checked}
use Rattle.account.specs.Parts.{of_kind, rates_of}
use Rattle.account.specs.Products.{has_rate, conversion_beyond}
use Rattle.account.specs.Records.{cut, record_at, records, record_count, earlier}
use Rattle.account.specs.Answers.{Answer}
use Rattle.account.specs.declared.answers.Refusal.TheVariants.{TooLong, CutRecord, UnknownKind}
use Rattle.account.proofs.AcceptedOnly.{accepted_only}
use Rattle.account.proofs.Earlier.{cut_more, take-cut}
use Rattle.account.proofs.Exactly.{exactly}
use Rattle.account.proofs.RateLaws.{pass, stop}
use Rattle.account.proofs.Verdict.{by_records, too_long_lem}
use Rattle.account.proofs.Walk.{length_cut}
use Rattle.tickets.specs.Ticket.{stands_before, place, with_ticket, ahead, not_row, row_fault, full_with, ticket_checked}
use Rattle.tickets.proofs.Inserted.{onto, Before, Apart, apart, inserted, never_4, row_known, no_fault, rates_same}

-- ---- records of bytes put together
cut_append :
    (p m : ℕ) (a b : List ℕ) → length a ≡ p * record_bytes → cut (p + m) (a ++ b) ≡ cut p a ++ cut m b
cut_append zero m a b h = go a h
  where
    go : (xs : List ℕ) → length xs ≡ 0 * record_bytes → cut (0 + m) (xs ++ b) ≡ cut m b
    go [] e =
        let z : 0 + m ≡ m = omega arith in
        ap (λ (n : ℕ). cut n b) z
    go (x ∷ xs) e = absurd (omega arith)
cut_append (suc p) m a b h =
    let z : suc p + m ≡ suc (p + m) = omega arith in
    let l : length (drop record_bytes a) ≡ p * record_bytes = length-drop record_bytes a ∙ omega arith in
    ap (λ (n : ℕ). cut n (a ++ b)) z
    ∙ ap₂ (λ (r : Record) (rest : List ℕ). r ∷ cut (p + m) rest) (take-append-le record_bytes a b (omega arith)) (drop-append-le record_bytes a b (omega arith))
    ∙ ap (λ (rs : List Record). take record_bytes a ∷ rs) (cut_append p m (drop record_bytes a) b l)

-- ---- the records before a place, the latest first
onto_last : (xs es : List Record) (r : Record) → onto (xs ++ r ∷ []) es ≡ r ∷ onto xs es
onto_last [] es r = refl
onto_last (x ∷ xs) es r = onto_last xs (x ∷ es) r

pub earlier-onto : (k : ℕ) (file : List ℕ) → earlier file k ≡ onto (cut k file) []
earlier-onto zero file = refl
earlier-onto (suc k) file =
    ap (λ (es : List Record). record_at file k ∷ es) (earlier-onto k file)
    ∙ sym (onto_last (cut k file) [] (record_at file k))
    ∙ ap (λ (rs : List Record). onto rs []) (sym (cut_more k file))

before_last :
    (t : Record) (xs es : List Record) → Each (Before t) xs → Before t (the_one_before es) → Before t (the_one_before (onto xs es))
before_last t [] es e b = b
before_last t (x ∷ xs) es e b = before_last t xs (x ∷ es) e.1 e.0

-- ---- the records first, then the rates
records_first : (file : List ℕ) → checked file ≡ Ok tt → (records_checked file ≡ Ok tt) × (rates_checked (records file) ≡ Ok tt)
records_first file ok = go (eqb (number_of (records_checked file)) 0) refl
  where
    go : (b : Bool) → eqb (number_of (records_checked file)) 0 ≡ b → (records_checked file ≡ Ok tt) × (rates_checked (records file) ≡ Ok tt)
    go true e = (
      accepted_only (records_checked file) (eqb-true _ _ e),
      sym (ap (λ (b : Bool). cond b (rates_checked (records file)) (records_checked file)) e) ∙ ok,
    )
    go false e =
        let z : records_checked file ≡ (Ok tt) = sym (ap (λ (b : Bool). cond b (rates_checked (records file)) (records_checked file)) e) ∙ ok in
        absurd (eqb-false _ _ e (ap number_of z))

-- ---- the rates of a longer list
two_next :
    (a b : Bool) (k : ℕ) (later : Answer) → or_else (first_of (14 when a ∷ 15 when b ∷ [])) k later ≡ Ok tt
    → (first_of (14 when a ∷ 15 when b ∷ []) ≡ 0) × (later ≡ Ok tt)
two_next true b k later h =
    let z : ◌≡◌ {A = ℕ} 14 0 = ap number_of h in
    absurd (omega arith)
two_next false true k later h =
    let z : ◌≡◌ {A = ℕ} 15 0 = ap number_of h in
    absurd (omega arith)
two_next false false k later h = (refl, h)

any_place : (rates : List Record) (k m : ℕ) (rs : List Record) → first_rate_fault k rates rs ≡ Ok tt → first_rate_fault m rates rs ≡ Ok tt
any_place rates k m [] h = refl
any_place rates k m (r ∷ rs) h =
    let a = two_next (of_kind 3 r && not (has_rate rates r)) (of_kind 3 r && conversion_beyond rates r) k (first_rate_fault (k + 1) rates rs) h in
    no_fault (rate_fault_of rates r) m (first_rate_fault (m + 1) rates rs) a.0 ∙ any_place rates (k + 1) (m + 1) rs a.1

rates_with :
    (rates : List Record) (t : Record) (n : ℕ) (rs : List Record) → n ≤ length rs → first_rate_fault 0 rates rs ≡ Ok tt
    → first_rate_fault 0 rates (take n rs ++ t ∷ drop n rs) ≡ or_else (rate_fault_of rates t) n (Ok tt)
rates_with rates t n rs few h = go (eqb (number_of (first_rate_fault 0 rates (take n rs))) 0) refl
  where
    both_parts : first_rate_fault 0 rates (take n rs ++ drop n rs) ≡ Ok tt
    both_parts = ap (first_rate_fault 0 rates) (take-append-drop n rs) ∙ h

    long : 0 + length (take n rs) ≡ n
    long = omega (arith, length-take-le n rs few)

    go :
        (b : Bool) → eqb (number_of (first_rate_fault 0 rates (take n rs))) 0 ≡ b
        → first_rate_fault 0 rates (take n rs ++ t ∷ drop n rs) ≡ or_else (rate_fault_of rates t) n (Ok tt)
    go true e =
        let z = eqb-true (number_of (first_rate_fault 0 rates (take n rs))) 0 e in
        let later = sym (pass rates 0 (take n rs) (drop n rs) z) ∙ both_parts in
        pass rates 0 (take n rs) (t ∷ drop n rs) z
        ∙ ap (λ (i : ℕ). first_rate_fault i rates (t ∷ drop n rs)) long
        ∙ ap (or_else (rate_fault_of rates t) n) (any_place rates (0 + length (take n rs)) (n + 1) (drop n rs) later)
    go false e =
        let nz = eqb-false (number_of (first_rate_fault 0 rates (take n rs))) 0 e in
        absurd (nz (ap number_of (sym (stop rates 0 (take n rs) (drop n rs) nz) ∙ both_parts)))

-- ---- 5 to 9, then 14 and 15
abbrev five : List Record → Record → ℕ
five es t =
    first_of (5 when unused_byte t ∷ 6 when field_outside t ∷ 7 when unlisted es t ∷ 8 when out_of_order (the_one_before es) t ∷ 9 when over_limit es t ∷ [])

two_stages :
    (a b c d e : Bool) (rest : List Refusal) (k : ℕ)
    → cond (eqb (number_of (or_else (first_of (5 when a ∷ 6 when b ∷ 7 when c ∷ 8 when d ∷ 9 when e ∷ [])) k (Ok tt))) 0)
    (or_else (first_of rest) k (Ok tt)) (or_else (first_of (5 when a ∷ 6 when b ∷ 7 when c ∷ 8 when d ∷ 9 when e ∷ [])) k (Ok tt))
    ≡ or_else (first_of (5 when a ∷ 6 when b ∷ 7 when c ∷ 8 when d ∷ 9 when e ∷ rest)) k (Ok tt)
two_stages true b c d e rest k = refl
two_stages false true c d e rest k = refl
two_stages false false true d e rest k = refl
two_stages false false false true e rest k = refl
two_stages false false false false true rest k = refl
two_stages false false false false false rest k = refl

pub five_none :
    (a b c d e : Bool) (rest : List Refusal) → first_of (5 when a ∷ 6 when b ∷ 7 when c ∷ 8 when d ∷ 9 when e ∷ rest) ≡ 0
    → first_of (5 when a ∷ 6 when b ∷ 7 when c ∷ 8 when d ∷ 9 when e ∷ []) ≡ 0
five_none true b c d e rest h = absurd (omega arith)
five_none false true c d e rest h = absurd (omega arith)
five_none false false true d e rest h = absurd (omega arith)
five_none false false false true e rest h = absurd (omega arith)
five_none false false false false true rest h = absurd (omega arith)
five_none false false false false false rest h = refl

-- ---- an accepted file
module _ (file : List ℕ) (ok : checked file ≡ Ok tt) where
  abbrev n : ℕ
  n = record_count file

  pub record Plain : Type 0 where
    pub long : too_long file ≡ false
    pub whole : cut_record file ≡ false
    pub bytes : length file ≡ n * record_bytes
    pub few : n ≤ most_records
    pub recorded : records_checked file ≡ Ok tt
    pub clean : first_fault 0 [] (records file) ≡ Ok tt
    pub rated : rates_checked (records file) ≡ Ok tt

  pub plain : Plain
  plain =
      let r = records_first file ok in
      let g = (exactly file).accepted.forth (record { number = ap number_of r.0; place = ap record_of r.0 }) in
      let z = eqb-true (length file % record_bytes) 0 (not-false _ g.whole) in
      let l = ltb-false 61440 (length file) g.long in
      record {
        long = g.long;
        whole = g.whole;
        bytes = omega arith;
        few = omega arith;
        recorded = r.0;
        clean = sym (by_records file g.long g.whole) ∙ r.0;
        rated = r.1;
      }

  module _ (t : Record) where
    abbrev p : ℕ
    p = place t (records file)

    pub place_within : p ≤ n
    place_within = omega (arith, count_le (stands_before t) (records file), length_cut n file)

    pub ahead_is : ahead file t ≡ onto (take p (records file)) []
    ahead_is = earlier-onto p file ∙ ap (λ (rs : List Record). onto rs []) (sym (take-cut p n file place_within))

    front : length (take (p * record_bytes) file) ≡ p * record_bytes
    front = length-take-le (p * record_bytes) file (omega (arith, plain.bytes, place_within))

    apart_here : records file ≡ cut p (take (p * record_bytes) file) ++ cut (n - p) (drop (p * record_bytes) file)
    apart_here =
        let z : n ≡ p + (n - p) = omega (arith, place_within) in
        ap₂ cut z (sym (take-append-drop (p * record_bytes) file)) ∙ cut_append p (n - p) (take (p * record_bytes) file) (drop (p * record_bytes) file) front

    front_is : take p (records file) ≡ cut p (take (p * record_bytes) file)
    front_is =
        ap (take p) apart_here
        ∙ take_at (cut p (take (p * record_bytes) file)) (cut (n - p) (drop (p * record_bytes) file)) p (length_cut p (take (p * record_bytes) file))

    back_is : drop p (records file) ≡ cut (n - p) (drop (p * record_bytes) file)
    back_is =
        ap (drop p) apart_here
        ∙ drop_at (cut p (take (p * record_bytes) file)) (cut (n - p) (drop (p * record_bytes) file)) p (length_cut p (take (p * record_bytes) file))

    module _ (whole : length t ≡ record_bytes) where
      pub length_with : length (with_ticket file t) ≡ length file + record_bytes
      length_with =
          let a = length-append (take (p * record_bytes) file) (t ++ drop (p * record_bytes) file) in
          let b = length-append t (drop (p * record_bytes) file) in
          let c = length-drop (p * record_bytes) file in
          omega (arith, front, plain.bytes, place_within)

      pub count_with : record_count (with_ticket file t) ≡ n + 1
      count_with = omega (arith, length_with, plain.bytes)

      pub records_with : records (with_ticket file t) ≡ take p (records file) ++ t ∷ drop p (records file)
      records_with =
          let a = take (p * record_bytes) file in
          let b = drop (p * record_bytes) file in
          let z : record_count (with_ticket file t) ≡ p + suc (n - p) = omega (arith, count_with, place_within) in
          ap (λ (i : ℕ). cut i (with_ticket file t)) z
          ∙ cut_append p (suc (n - p)) a (t ++ b) front
          ∙ ap₂ (λ (r : Record) (rest : List ℕ). cut p a ++ r ∷ cut (n - p) rest) (take_at t b record_bytes whole) (drop_at t b record_bytes whole)
          ∙ ap₂ (λ (xs ys : List Record). xs ++ t ∷ ys) (sym front_is) (sym back_is)

      -- ---- the check of the longer file
      module _ (row : kind t ≡ 3) where
        pub apart_at : Apart t p (records file)
        apart_at = apart t 0 [] (records file) plain.clean

        pub before_at_lem : Before t (the_one_before (ahead file t))
        before_at_lem =
            subst⁻¹ (λ (es : List Record). Before t (the_one_before es)) ahead_is
            (before_last t (take p (records file)) [] apart_at.first
            (record { low = omega arith; under = λ e. absurd (omega arith) }))

        pub fault_is : fault_of (ahead file t) t ≡ five (ahead file t) t
        fault_is =
            let es = ahead file t in
            ap (λ (b : Bool). cond b 3 (cond (kind_falls (the_one_before es) t) 4 (five es t))) (row_known t row)
            ∙ ap (λ (b : Bool). cond b 4 (five es t)) (never_4 t row (the_one_before es) before_at_lem)

        by_row : first_fault 0 [] (records (with_ticket file t)) ≡ or_else (five (ahead file t) t) p (Ok tt)
        by_row =
            let z : 0 + p ≡ p = omega arith in
            ap (first_fault 0 []) records_with
            ∙ inserted t row 0 [] (records file) plain.clean
            ∙ ap₂ (λ (es : List Record) (i : ℕ). or_else (fault_of es t) i (Ok tt)) (sym ahead_is) z
            ∙ ap (λ (i : ℕ). or_else i p (Ok tt)) fault_is

        by_rates : rates_checked (records (with_ticket file t)) ≡ or_else (rate_fault_of (rates_of (records file)) t) p (Ok tt)
        by_rates =
            ap rates_checked records_with
            ∙ ap (λ (rates : List Record). first_rate_fault 0 rates (take p (records file) ++ t ∷ drop p (records file))) (rates_same t row p (records file))
            ∙ rates_with (rates_of (records file)) t p (records file) (omega (arith, place_within, length_cut n file)) plain.rated

        not-cut : cut_record (with_ticket file t) ≡ false
        not-cut = ap not (eq-eqb (length (with_ticket file t) % record_bytes) 0 (omega (arith, length_with, plain.bytes)))

        told : (f : Bool) → full_with file ≡ f → ticket_checked file t ≡ or_else (row_fault file t) p (cond f (Err TooLong) (Ok tt))
        told f e =
            let k = p in
            ap (λ (b : Bool). cond (not b) (Err CutRecord)
            (cond (not_row t) (Err (UnknownKind k)) (or_else (row_fault file t) k (cond (full_with file) (Err TooLong) (Ok tt))))) (eq-eqb (length t) record_bytes whole)
            ∙ ap (λ (b : Bool). cond (not b) (Err (UnknownKind k)) (or_else (row_fault file t) k (cond (full_with file) (Err TooLong) (Ok tt)))) (eq-eqb (kind t) 3 row)
            ∙ ap (λ (b : Bool). or_else (row_fault file t) k (cond b (Err TooLong) (Ok tt))) e

        -- with room for one record more, the two say the same
        pub checked_with : n < most_records → checked (with_ticket file t) ≡ ticket_checked file t
        checked_with room =
            let es = ahead file t in
            ap₂ (λ (a b : Answer). cond (eqb (number_of a) 0) b a)
            (by_records (with_ticket file t) (le-ltb 61440 (length (with_ticket file t)) (omega (arith, length_with, plain.bytes))) not-cut ∙ by_row)
            by_rates
            ∙ two_stages (unused_byte t) (field_outside t) (unlisted es t) (out_of_order (the_one_before es) t) (over_limit es t)
            (rate_refusals (rates_of (records file)) t) p
            ∙ sym (told false (lt-leb most_records n room))

        -- and without, the longer file is too long
        pub full_with_lem : most_records ≤ n → checked (with_ticket file t) ≡ Err TooLong
        full_with_lem full = ap (λ (a : Answer). cond (eqb (number_of a) 0) (rates_checked (records (with_ticket file t))) a)
            (too_long_lem (with_ticket file t) (lt-ltb 61440 (length (with_ticket file t)) (omega (arith, length_with, plain.bytes))))
