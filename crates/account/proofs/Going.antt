-- The check on its way: no fault before record k, and the notes are those of the records before it.
-- Assumes nothing.
use Rattle.std.specs.Prelude.{Ok}
use Prim.Native.Nat.{ℕ, zero, suc, ◌+◌, ◌-◌, ◌≤◌, ◌<◌}
use mathlib.Core.Path.{◌≡◌, refl, sym, ap, subst, subst⁻¹, ◌∙◌}
use mathlib.Core.Bool.{Bool, true, false, cond, ◌&&◌, ◌||◌}
use mathlib.Core.List.{List, [], ◌∷◌, ◌++◌}
use lib.ListN.{length, get_or, set, length-set, replicate, length-replicate, get_or-replicate}
use lib.Seq.{ext_get_or, get_or-set_same, set-get_or, set-set}
use lib.Dec.{eqb, ltb}
use native.Mathlib.Omega.{arith}
use native.Mathlib.Numerals.{add-one}
use borrow.Author.Count.{below_more}
use borrow.Author.Tests.{ltb-true, ltb-false, ne_eqb}
use Rattle.exact.specs.Lists.{any, one_if, count}
use Rattle.exact.proofs.Lists.{any_at, count_append}
use Rattle.record.specs.Layout.{Record}
use Rattle.record.proofs.Within.{never, neither}
use Rattle.account.specs.Answers.{number_of, refusal}
use Rattle.account.specs.Check.{fault_of, too_long, cut_record, records_checked, most_records}
use Rattle.account.specs.Conversions.{other_row}
use Rattle.account.specs.code.Notes.{part_of, one_more, start_noted, fault_at}
use Rattle.account.specs.PartNumbers.{in_part, of_accepted, parts}
use Rattle.account.specs.Parts.{of_kind, start_of}
use Rattle.account.specs.code.Passing.{part_at_record, counted_to, Passes, Notable, Advances}
use Rattle.account.specs.Records.{cut, record_at, records, record_count, earlier}
use Rattle.account.specs.code.Surveyed.{converts_in, Surveyed, Empty, Tallied}
use Rattle.account.specs.Answers.{Answer}
use Rattle.account.specs.declared.check.Survey.{Survey}
use Rattle.account.proofs.Earlier.{cut_more}
use Rattle.account.proofs.Every.{none_passes}
use Rattle.account.proofs.Faults.{same_fault}
use Rattle.account.proofs.Laid.{Faultless}
use Rattle.account.proofs.Named.{stays}
use Rattle.account.proofs.Noted.{Noted, noted_none, noted_more}
use Rattle.account.proofs.Orders.{cut_at}
use Rattle.account.proofs.Passed.{passed, Known, known_of, part_bound}
use Rattle.account.proofs.Verdict.{stops, ends, by_records}
use Rattle.account.proofs.Walk.{length_cut}

pub count_most : (p : Record → Bool) (xs : List Record) → count p xs ≤ length xs
count_most p [] = omega arith
count_most p (x ∷ xs) = go (p x) refl (count_most p xs)
  where
    go : (t : Bool) → p x ≡ t → count p xs ≤ length xs → count p (x ∷ xs) ≤ length (x ∷ xs)
    go true e h = rw e (omega arith)
    go false e h = rw e (omega arith)

pub record Going (file first counts : List ℕ) (contracts k : ℕ) : Type 0 where
  pub inside : k ≤ record_count file
  pub fine : Faultless file k
  pub notes : Noted first counts (cut k file)
  pub owned : contracts ≡ count (of_kind 1) (cut k file)

pub going_start : (file : List ℕ) → Going file (replicate parts 0) (replicate parts 0) 0 0
going_start file = record {
  inside = omega arith;
  fine = λ j h. absurd (omega arith);
  notes = noted_none;
  owned =
      refl;
}

-- ---- what is handed out with a verdict
pub if_accepted_lem : (a : Answer) (n : ℕ) → a ≡ Ok tt → of_accepted a n ≡ n
if_accepted_lem a n e = ap (λ (b : Answer). of_accepted b n) e

if_refused : (a : Answer) (n : ℕ) → (number_of a ≡ 0 → ⊥) → of_accepted a n ≡ 0
if_refused a n nz = ap (λ (b : Bool). cond b n 0) (ne_eqb (number_of a) 0 nz)

converts_accepted : (file : List ℕ) → records_checked file ≡ Ok tt → converts_in file ≡ any other_row (records file)
converts_accepted file e = ap (λ (a : Answer). eqb (number_of a) 0 && any other_row (records file)) e

pub unconverted :
    (file : List ℕ) (s : Survey) → Surveyed file s → records_checked file ≡ Ok tt → s.converts ≡ false → any other_row (records file) ≡ false
unconverted file s sv ok e = sym (sv.converts ∙ converts_accepted file ok) ∙ e

-- a refused file
pub nothing :
    (file : List ℕ) (a : Answer) (s : Survey) → records_checked file ≡ a → (number_of a ≡ 0 → ⊥) → Empty a s
    → Surveyed file s
nothing file a s e nz h =
    let none : (n : ℕ) → of_accepted (records_checked file) n ≡ 0 =
    λ n. ap (λ (b : Answer). of_accepted b n) e ∙ if_refused a n nz in
    record {
      answer = h.answer ∙ sym e;
      contracts = h.contracts ∙ sym (none _);
      firsts = ap length h.first ∙ length-replicate {A = ℕ} parts 0;
      sizes = ap length h.counts ∙ length-replicate {A = ℕ} parts 0;
      first = λ v l. ap (λ (xs : List ℕ). get_or xs v 0) h.first ∙ get_or-replicate {A = ℕ} parts v 0 0 l ∙ sym (none _);
      counts = λ v l. ap (λ (xs : List ℕ). get_or xs v 0) h.counts ∙ get_or-replicate {A = ℕ} parts v 0 0 l ∙ sym
          (none _);
      converts =
          h.converts
          ∙ sym (ap (λ (b : Bool). b && any other_row (records file)) (ne_eqb (number_of (records_checked file)) 0 (λ z. nz (ap number_of (sym e) ∙ z))));
    }

module _ {file first counts : List ℕ} {contracts k : ℕ} (g : Going file first counts contracts k)
    (more : k < record_count file) where
  fault_is : fault_at file first counts k ≡ fault_of (earlier file k) (record_at file k)
  fault_is = same_fault file first counts k g.notes g.fine g.inside

  pub owned_small : contracts ≤ k
  owned_small = omega (arith, g.owned, count_most (of_kind 1) (cut k file), length_cut k file)

  -- a fault: the verdict
  pub going_stops :
      (n : ℕ) → n ≡ fault_at file first counts k → (n ≡ 0 → ⊥) → too_long file ≡ false → cut_record file ≡ false → refusal n k ≡ records_checked file
  going_stops n e nz a b = sym (by_records file a b ∙ stops file k n more g.fine (sym (e ∙ fault_is)) nz)

  -- no fault: what the next turn begins with
  module _ (none : fault_at file first counts k ≡ 0) where
    no_fault : fault_of (earlier file k) (record_at file k) ≡ 0
    no_fault = sym fault_is ∙ none

    known : Known (record_at file k)
    known = known_of (record_at file k) (passed (earlier file k) (record_at file k) no_fault)

    pub part_in : part_of (record_at file k) < parts
    part_in = part_bound (record_at file k) known

    pub count_small : get_or counts (part_of (record_at file k)) 0 ≤ k
    count_small =
        let v = part_of (record_at file k) in
        omega (arith, g.notes.counted v part_in, count_most (in_part v) (cut k file), length_cut k file)

    grown : cut (k + 1) file ≡ cut k file ++ record_at file k ∷ []
    grown = ap (λ (n : ℕ). cut n file) (add-one k) ∙ cut_more k file

    pub going_next :
        Going file (start_noted first counts (part_of (record_at file k)) k) (one_more counts (part_of (record_at file k)))
        (contracts + one_if (of_kind 1 (record_at file k))) (k + 1)
    going_next =
        record {
          inside = omega arith;
          fine = below_more (λ (j : ℕ). fault_of (earlier file j) (record_at file j) ≡ 0) k g.fine no_fault;
          notes =
              subst (λ (rs : List Record). Noted (start_noted first counts (part_of (record_at file k)) k)
              (one_more counts (part_of (record_at file k))) rs) (sym grown)
              (subst (λ (n : ℕ). Noted (start_noted first counts (part_of (record_at file k)) n)
              (one_more counts (part_of (record_at file k))) (cut k file ++ record_at file k ∷ []))
              (length_cut k file) (noted_more first counts (cut k file) g.notes (record_at file k) known));
          owned =
              let a = count_append (of_kind 1) (cut k file) (record_at file k ∷ []) in
              let e = ap (count (of_kind 1)) grown in
              let o = g.owned in
              omega arith;
        }

    pub going_on :
        {first' counts' r : List ℕ} {v one : ℕ} → first' ≡ start_noted first counts v k → counts' ≡ one_more counts v
        → v ≡ part_of (record_at file k) → one ≡ one_if (of_kind 1 r) → r ≡ record_at file k
        → Going file first' counts' (contracts + one) (k + 1)
    going_on {first'} {counts'} {r} {v} {one} hf hc hv ho hr =
        let v₀ = part_of (record_at file k) in
        subst⁻¹ (λ (f : List ℕ). Going file f counts' (contracts + one) (k + 1))
        (hf ∙ ap (λ (u : ℕ). start_noted first counts u k) hv)
        (subst⁻¹ (λ (c : List ℕ). Going file (start_noted first counts v₀ k) c (contracts + one) (k + 1))
        (hc ∙ ap (one_more counts) hv)
        (subst⁻¹ (λ (n : ℕ). Going file (start_noted first counts v₀ k) (one_more counts v₀) (contracts + n) (k + 1))
        (ho ∙ ap (λ (x : Record). one_if (of_kind 1 x)) hr) going_next))

-- ---- a run of records that pass one after another
module _ {file first counts : List ℕ} {contracts k next : ℕ} (g : Going file first counts contracts (k + 1))
    (some : 0 < get_or counts (part_at_record file k) 0) (p : Passes file first counts k next) where
  abbrev v : ℕ
  v = part_at_record file k

  abbrev counted : ℕ → List ℕ
  counted = counted_to file counts k

  run_start : counted (k + 1) ≡ counts
  run_start =
      let z : get_or counts v 0 + (k + 1 - (k + 1)) ≡ get_or counts v 0 = omega arith in
      ap (set counts v) z ∙ set-get_or counts v 0

  run_step : (j : ℕ) → k < j → j < next → Going file first (counted j) contracts j → Going file first (counted (j + 1)) contracts (j + 1)
  run_step j l h g' =
      let more : j < record_count file = omega (arith, p.high) in
      let at = p.each j l h in
      let inside = part_in g' more at.fine in
      let same = at.alike in
      let long = length-set counts v (get_or counts v 0 + (j - (k + 1))) in
      let here = get_or-set_same counts v (get_or counts v 0 + (j - (k + 1))) 0 (omega (arith, g'.notes.sizes)) in
      let sum : get_or counts v 0 + (j + 1 - (k + 1)) ≡ get_or (counted j) v 0 + 1 = omega arith in
      let none : contracts + 0 ≡ contracts = omega arith in
      subst (λ (n : ℕ). Going file first (counted (j + 1)) n (j + 1)) none
      (going_on g' more at.fine {first' = first} {counts' = counted (j + 1)} {r = record_at file j} {v = v} {one = 0}
      (sym (ap (λ (b : Bool). cond b (set first v j) first) (ne_eqb (get_or (counted j) v 0) 0 (λ z. omega arith))))
      (ap (set counts v) sum ∙ sym (set-set counts v (get_or counts v 0 + (j - (k + 1))) (get_or (counted j) v 0 + 1)))
      (sym same) (ap one_if (sym at.other)) refl)

  run_going : (n : ℕ) → k + 1 + n ≤ next → Going file first (counted (k + 1 + n)) contracts (k + 1 + n)
  run_going zero h =
      let z : k + 1 + 0 ≡ k + 1 = omega arith in
      subst (λ (m : ℕ). Going file first (counted m) contracts m) (sym z)
      (subst (λ (l : List ℕ). Going file first l contracts (k + 1)) (sym run_start) g)
  run_going (suc n) h =
      let e : k + 1 + n + 1 ≡ k + 1 + suc n = omega arith in
      subst (λ (m : ℕ). Going file first (counted m) contracts m) e
      (run_step (k + 1 + n) (omega arith) (omega arith) (run_going n (omega arith)))

  pub going_run : Going file first (counted next) contracts next
  going_run =
      let l = p.low in
      let e : k + 1 + (next - (k + 1)) ≡ next = omega arith in
      subst (λ (m : ℕ). Going file first (counted m) contracts m) e (run_going (next - (k + 1)) (omega arith))

-- ---- one turn: a record without a fault, and the run after it
pub going_over :
    {file first counts first' counts' : List ℕ} {contracts k next one : ℕ} (g : Going file first counts contracts k)
    → k < record_count file → Advances file first counts k next one first' counts' → Going file first' counts' (contracts + one) next
going_over {file} {first} {counts} {first'} {counts'} {contracts} {k} {next} {one} g more a =
    let v = part_at_record file k in
    let n = a.noted in
    let g' =
    going_on g more a.fine {first' = first'} {counts' = one_more counts v} {r = record_at file k} {v = v} {one = one} n.started refl refl a.own refl in
    let here = get_or-set_same counts v (get_or counts v 0 + 1) 0 (omega (arith, part_in g more a.fine, g.notes.sizes)) in
    subst⁻¹ (λ (l : List ℕ). Going file first' l (contracts + one) next) n.counted (going_run g' (omega arith) a.later)

-- whether a record before record k is a row in another currency
pub record Met (file : List ℕ) (converts : Bool) (k : ℕ) : Type 0 where
  pub some : converts ≡ true → any other_row (cut k file) ≡ true
  pub none : converts ≡ false → (j : ℕ) → j < k → other_row (record_at file j) ≡ false

pub met_start : (file : List ℕ) → Met file false 0
met_start file = record { some = λ e. absurd (never e); none = λ e j h. absurd (omega arith) }

pub met_over :
    {file first counts first' counts' : List ℕ} {converts : Bool} {k next one : ℕ} → Met file converts k
    → Advances file first counts k next one first' counts' → (other : Bool) → other ≡ other_row (record_at file k)
    → Met file (converts || other) next
met_over {file} {converts = converts} {k} {next} m a other o = record { some = some converts refl; none = none }
  where
    low : k < next
    low = a.later.low

    some : (b : Bool) → converts ≡ b → b || other ≡ true → any other_row (cut next file) ≡ true
    some true e h = stays other_row file k next (omega (arith, low)) (m.some e)
    some false e h =
        any_at other_row (cut next file) k [] (omega (arith, low, length_cut next file)) (ap other_row (cut_at next k file low) ∙ sym o ∙ h)

    none : converts || other ≡ false → (j : ℕ) → j < next → other_row (record_at file j) ≡ false
    none e j h = go (ltb j k) refl (ltb k j) refl
      where
        off : (converts ≡ false) × (other ≡ false)
        off = neither converts other e

        go : (s : Bool) → ltb j k ≡ s → (t : Bool) → ltb k j ≡ t → other_row (record_at file j) ≡ false
        go true s t l = m.none off.0 j (ltb-true j k s)
        go false s true l = (a.later.each j (ltb-true k j l) h).unconverted (sym o ∙ off.1)
        go false s false l =
            let p = ltb-false j k s in
            let q = ltb-false k j l in
            let i : j ≡ k = omega arith in
            ap (λ (n : ℕ). other_row (record_at file n)) i ∙ sym o ∙ off.1

met_is : {file : List ℕ} {converts : Bool} {k : ℕ} → Met file converts k → converts ≡ any other_row (cut k file)
met_is {file} {converts} {k} m = go converts refl
  where
    go : (b : Bool) → converts ≡ b → converts ≡ any other_row (cut k file)
    go true e = e ∙ sym (m.some e)
    go false e = e ∙ sym (none_passes other_row file k (m.none e))

pub notable :
    {file first counts : List ℕ} {contracts k : ℕ} (g : Going file first counts contracts k) → k < record_count file
    → record_count file ≤ most_records → Notable file first counts k
notable g more few =
    record {
      inside = more;
      few = few;
      firsts = g.notes.firsts;
      sizes = g.notes.sizes;
      known = λ none. part_in g more none;
      room = λ none. count_small g more none;
    }

-- ---- the end
module _ {file first counts : List ℕ} {contracts k : ℕ} (g : Going file first counts contracts k)
    (done : record_count file ≤ k) where
  at_end : k ≡ record_count file
  at_end =
      let i = g.inside in
      omega arith

  pub going_ends : too_long file ≡ false → cut_record file ≡ false → records_checked file ≡ Ok tt
  going_ends a b = by_records file a b ∙ ends file (subst (Faultless file) at_end g.fine)

  pub surveyed :
      (s : Survey) → records_checked file ≡ Ok tt → s.answer ≡ Ok tt → s.contracts ≡ contracts → s.first ≡ first →
      s.counts ≡ counts → s.converts ≡ any other_row (cut k file)
      → Surveyed file s
  surveyed s e a o f n m =
      record {
        answer = a ∙ sym e;
        contracts =
            o ∙ g.owned ∙ ap (λ (m : ℕ). count (of_kind 1) (cut m file)) at_end ∙ sym
            (if_accepted_lem (records_checked file) _ e);
        firsts = ap length f ∙ g.notes.firsts;
        sizes = ap length n ∙ g.notes.sizes;
        first =
            λ v h.
            ap (λ (l : List ℕ). get_or l v 0) f ∙ g.notes.started v h
            ∙ ap (λ (m : ℕ). start_of (in_part v) (cut m file)) at_end ∙ sym (if_accepted_lem (records_checked file) _ e);
        counts =
            λ v h.
            ap (λ (l : List ℕ). get_or l v 0) n ∙ g.notes.counted v h
            ∙ ap (λ (m : ℕ). count (in_part v) (cut m file)) at_end ∙ sym (if_accepted_lem (records_checked file) _ e);
        converts = m ∙ ap (λ (k : ℕ). any other_row (cut k file)) at_end ∙ sym (converts_accepted file e);
      }

  pub going_tallied :
      {converts : Bool} → Met file converts k → too_long file ≡ false → cut_record file ≡ false
      → Tallied file (Ok tt) contracts converts first counts
  going_tallied m a b = let e = going_ends a b in record { answer_is = sym e; accepted = λ z. surveyed _ e refl refl refl refl (met_is m) }

pub tallied_as : {file first counts : List ℕ} {a b : Answer} {contracts : ℕ} {converts : Bool} → a ≡ b
    → Tallied file b contracts converts first counts → Tallied file a contracts converts first counts
tallied_as {file} {first} {counts} {a} {b} {contracts} {converts} e t =
    subst⁻¹ (λ (x : Answer). Tallied file x contracts converts first counts) e t

-- the promise leaves one survey
pub same_survey : (file : List ℕ) (s t : Survey) → Surveyed file s → Surveyed file t → s ≡ t
same_survey file s t a b =
    let first =
    ext_get_or 0 s.first t.first (a.firsts ∙ sym b.firsts)
    (λ v h. a.first v (omega (arith, a.firsts)) ∙ sym (b.first v (omega (arith, a.firsts))))
    in
    let counts =
    ext_get_or 0 s.counts t.counts (a.sizes ∙ sym b.sizes)
    (λ v h. a.counts v (omega (arith, a.sizes)) ∙ sym (b.counts v (omega (arith, a.sizes))))
    in
    λ i.
    record {
      answer = (a.answer ∙ sym b.answer) i;
      contracts = (a.contracts ∙ sym b.contracts) i;
      first = first i;
      counts = counts i;
      converts = (a.converts ∙ sym b.converts) i;
    }
