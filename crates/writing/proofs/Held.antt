-- The check of the written file on its way: as the check of a file, with the prompts of one contract at hand.
-- Assumes nothing.
use Rattle.std.specs.Prelude.{Ok}
use Prim.Native.Nat.{ℕ, ◌+◌, ◌*◌, ◌≤◌, ◌<◌}
use mathlib.Core.Path.{◌≡◌, refl, sym, ap, ap₂, subst, ◌∙◌}
use mathlib.Core.Bool.{Bool, true, false, cond, ◌&&◌, ◌||◌, false≢true}
use mathlib.Core.List.{List}
use lib.Dec.{eqb}
use lib.ListN.{length, get_or, take, set, replicate, length-replicate, get_or-eq_default}
use lib.Seq.{get_or-set_other}
use native.Mathlib.Omega.{arith}
use borrow.Author.Tests.{eq-eqb, eqb-true, lt-ltb, ltb-true}
use Rattle.record.specs.Bytes.{record_bytes}
use Rattle.exact.specs.Lists.{any, one_if, count}
use Rattle.record.specs.Layout.{Record, kind, contract, most_contract}
use Rattle.record.specs.Ranges.{unknown_kind, unused_byte, field_outside}
use Rattle.record.proofs.Within.{by_kind, both_true, kind_known, contract_known, row_within}
use Rattle.account.specs.Answers.{number_of, refusal}
use Rattle.account.specs.Check.{kind_falls, out_of_order, fault_of, too_long, cut_record, records_checked, most_contracts, most_prompts}
use Rattle.account.specs.Checked.{rates_checked, checked}
use Rattle.account.specs.Conversions.{other_row, Row}
use Rattle.account.specs.PartNumbers.{part, in_part, rate_part, parts}
use Rattle.account.specs.code.Notes.{part_of, one_more, start_noted, unlisted_by, over_limit_by, fault_by, before_at, part_at, fault_at}
use Rattle.account.specs.Parts.{of_kind, rates_of}
use Rattle.account.specs.Records.{cut, stretch, records, record_at, record_count, earlier}
use Rattle.account.proofs.Accepted.{accepts, part_few}
use Rattle.account.proofs.Alone.{records_decide, records_refused}
use Rattle.account.proofs.Dispatch.{listed_2, listed_5, over_2}
use Rattle.account.proofs.Every.{length_kept}
use Rattle.account.proofs.Faults.{same_fault}
use Rattle.account.proofs.Firsts.{same_first, number_refusal}
use Rattle.account.proofs.Going.{Going, going_start, going_on, going_ends, part_in, count_small, surveyed}
use Rattle.account.proofs.Laid.{laid, passed_at}
use Rattle.account.proofs.Noted.{part_is}
use Rattle.account.proofs.Orders.{fine}
use Rattle.account.proofs.Passed.{part_other}
use Rattle.account.proofs.Verdict.{stops, by_records, fault_number}
use Rattle.account.proofs.Walk.{length_cut}
use Rattle.writing.specs.code.Held.{names_prompts, asked_of, held_prompts, HeldNotes, Holdable, fault_held}
use Rattle.writing.specs.Written.{written, filled_in}
use Rattle.writing.proofs.Placed.{count_same, front_filled}

-- ---- whose prompts a record names
module _ (r : Record) where
  names : (a b : Bool) → of_kind 3 r ≡ a → of_kind 4 r ≡ b → a || b ≡ true → contract r ≤ most_contract → names_prompts r ≡ true
  names a b e f s h = ap₂ ◌&&◌ (ap₂ ◌||◌ e f ∙ s) (lt-ltb (contract r) most_contracts (omega arith))

  names_3 : kind r ≡ 3 → contract r ≤ most_contract → names_prompts r ≡ true
  names_3 e h = names true (of_kind 4 r) (eq-eqb (kind r) 3 e) refl refl h

  names_4 : kind r ≡ 4 → contract r ≤ most_contract → names_prompts r ≡ true
  names_4 e h = names false true (ap (λ (n : ℕ). eqb n 3) e) (eq-eqb (kind r) 4 e) refl h

  named-kind : names_prompts r ≡ true → (3 ≤ kind r) × (kind r ≤ 4)
  named-kind t = go (of_kind 3 r) (of_kind 4 r) refl refl (both_true (of_kind 3 r || of_kind 4 r) _ t).0
    where
      go : (a b : Bool) → of_kind 3 r ≡ a → of_kind 4 r ≡ b → a || b ≡ true → (3 ≤ kind r) × (kind r ≤ 4)
      go true b e f s = let i = eqb-true (kind r) 3 e in (omega arith, omega arith)
      go false true e f s = let i = eqb-true (kind r) 4 f in (omega arith, omega arith)
      go false false e f s = absurd (false≢true s)

  named-contract : names_prompts r ≡ true → contract r < most_contracts
  named-contract t = ltb-true (contract r) most_contracts (both_true (of_kind 3 r || of_kind 4 r) _ t).1

-- the prompts count only for a record that names some
same_by : (counts : List ℕ) (p q : List Record) (before r : Record) → (names_prompts r ≡ true → p ≡ q) → fault_by counts p before r ≡ fault_by counts q before r
same_by counts p q before r same =
    same_first (unknown_kind r) (kind_falls before r) (unused_byte r) (field_outside r) (unlisted_by counts p r) (out_of_order before r) (over_limit_by counts r)
    (unlisted_by counts q r) (over_limit_by counts r)
    (λ u h.
    let i = kind_known r u in
    let c = contract_known r u h in
    by_kind (λ n. kind r ≡ n → unlisted_by counts p r ≡ unlisted_by counts q r)
    (λ e. rw e)
    (λ e. listed_2 counts p r e ∙ sym (listed_2 counts q r e))
    (λ e. ap (λ (ps : List Record). unlisted_by counts ps r) (same (names_3 r e c)))
    (λ e. ap (λ (ps : List Record). unlisted_by counts ps r) (same (names_4 r e c)))
    (λ e. listed_5 counts p r e ∙ sym (listed_5 counts q r e))
    (λ e. rw e)
    (kind r) i.least i.most refl)
    (λ u h. refl)

pub record Reading (file first counts prompts : List ℕ) (held k : ℕ) : Type 0 where
  pub contracts : ℕ
  pub going : Going file first counts contracts k
  pub holds : HeldNotes file first counts prompts held

pub reading_start : (file : List ℕ) → Reading file (replicate parts 0) (replicate parts 0) (replicate 3072 0) parts 0
reading_start file =
    record { contracts = 0; going = going_start file; holds = record { long = length-replicate {A = ℕ} 3072 0; front = refl } }

module _ {file first counts prompts : List ℕ} {held k : ℕ} (g : Reading file first counts prompts held k) (more : k < record_count file) where
  abbrev r : Record
  r = record_at file k

  holdable_prompts : (c : ℕ) → c < most_contracts → Holdable file first counts c
  holdable_prompts c h =
      let v = part 2 c in
      let n = g.going.notes in
      let m : get_or counts v 0 ≡ count (in_part v) (cut k file) = n.counted v (omega arith) in
      let s = ((laid file k g.going.fine).parts v (omega arith)).within in
      let p = ap (λ (p : Record → Bool). count p (cut k file)) (part_is 2 c (omega arith) (omega arith)) in
      record {
        number = omega arith;
        few = omega (arith, p, part_few file k g.going.fine 2 c most_prompts over_2);
        within = omega (arith, n.started v (omega arith), length_cut k file);
      }

  holdable : Holdable file first counts (asked_of r)
  holdable = go (names_prompts r) refl
    where
      go : (t : Bool) → names_prompts r ≡ t → Holdable file first counts (cond t (contract r) parts)
      go true e = holdable_prompts (contract r) (named-contract r e)
      go false e =
          let a = get_or-eq_default first 0 {n = 114} (omega (arith, g.going.notes.firsts)) in
          let b = get_or-eq_default counts 0 {n = 114} (omega (arith, g.going.notes.sizes)) in
          record { number = omega arith; few = omega arith; within = omega arith }

  module _ {prompts' : List ℕ} (h : HeldNotes file first counts prompts' (asked_of r)) where
    fault_held_lem : fault_held counts prompts' (asked_of r) (before_at file k) r ≡ fault_at file first counts k
    fault_held_lem =
        same_by counts (records (held_prompts counts prompts' (asked_of r))) (records (part_at file first counts (part 2 (contract r)))) (before_at file k) r
        (λ t. ap records h.front ∙ ap (λ (b : Bool). records (part_at file first counts (part 2 (cond b (contract r) parts)))) t)

    -- a fault: the verdict
    reading_stops :
        (n : ℕ) → n ≡ fault_at file first counts k → (n ≡ 0 → ⊥) → too_long file ≡ false → cut_record file ≡ false → refusal n k ≡ checked file
    reading_stops n e nz a b =
        let i = g.going in
        let f : fault_of (earlier file k) r ≡ n = sym (e ∙ same_fault file first counts k i.notes i.fine i.inside) in
        let w = fault_number (earlier file k) r n f nz in
        let is : records_checked file ≡ refusal n k = by_records file a b ∙ stops file k n more i.fine f nz in
        sym (records_refused file (λ z. nz (sym (number_refusal n k w.0 w.1) ∙ ap number_of (sym is) ∙ z)) ∙ is)

    -- no fault: the next record
    module _ (none : fault_at file first counts k ≡ 0) where
      other : part 2 (asked_of r) ≡ part_of r → ⊥
      other = go (names_prompts r) refl
        where
          go : (t : Bool) → names_prompts r ≡ t → part 2 (cond t (contract r) parts) ≡ part_of r → ⊥
          go true e z =
              let i = named-kind r e in
              let p = part_other r (λ y. omega arith) (λ y. omega arith) in
              omega arith
          go false e z = omega (arith, part_in g.going more none)

      same_first_note : (t : Bool) → eqb (get_or counts (part_of r) 0) 0 ≡ t
          → get_or (cond t (set first (part_of r) k) first) (part 2 (asked_of r)) 0 ≡ get_or first (part 2 (asked_of r)) 0
      same_first_note true e = get_or-set_other first (part_of r) (part 2 (asked_of r)) k 0 other
      same_first_note false e = refl

      still : HeldNotes file (start_noted first counts (part_of r) k) (one_more counts (part_of r)) prompts' (asked_of r)
      still =
          let v = part 2 (asked_of r) in
          let a = same_first_note (eqb (get_or counts (part_of r) 0) 0) refl in
          let b : get_or (one_more counts (part_of r)) v 0 ≡ get_or counts v 0 = get_or-set_other counts (part_of r) v (get_or counts (part_of r) 0 + 1) 0 other in
          record { long = h.long; front = ap (λ (n : ℕ). take (n * record_bytes) prompts') b ∙ h.front ∙ ap₂ (stretch file) (sym a) (sym b) }

      reading_next :
          {first' counts' : List ℕ} {v : ℕ} → first' ≡ start_noted first counts v k → counts' ≡ one_more counts v → v ≡ part_of r
          → Reading file first' counts' prompts' (asked_of r) (k + 1)
      reading_next {first'} {counts'} {v} hf hc hv =
          record {
            contracts = g.contracts + one_if (of_kind 1 r);
            going = going_on g.going more none hf hc hv refl refl;
            holds =
                subst (λ (f : List ℕ). HeldNotes file f counts' prompts' (asked_of r)) (sym (hf ∙ ap (λ (u : ℕ). start_noted first counts u k) hv))
                (subst (λ (l : List ℕ). HeldNotes file (start_noted first counts (part_of r) k) l prompts' (asked_of r))
                (sym (hc ∙ ap (one_more counts) hv)) still);
          }

-- what is put together is held
pub held_now :
    (entries first counts prompts : List ℕ) (c : ℕ) {after : List ℕ} {k n : ℕ} → k ≡ get_or first (part 2 c) 0 → n ≡ get_or counts (part 2 c) 0
    → get_or first (part 2 c) 0 + get_or counts (part 2 c) 0 ≤ record_count (written entries) → after ≡ filled_in entries k n prompts → length after ≡ 3072
    → HeldNotes (written entries) first counts after c
held_now entries first counts prompts c {after} {k} {n} hk hn w h l =
    record {
      long = l;
      front =
          ap (λ (m : ℕ). take (m * record_bytes) after) (sym hn) ∙ ap (take (n * record_bytes)) h
          ∙ front_filled entries k n prompts (omega (arith, hk, hn, w, count_same entries))
          ∙ ap₂ (stretch (written entries)) hk hn;
    }

-- ---- one turn
-- what the next turn begins with
pub record Turned (file first counts prompts : List ℕ) (c k : ℕ) (r : Record) : Type 0 where
  pub part_in : part_of r < parts
  pub count_small : get_or counts (part_of r) 0 ≤ k
  pub next :
      {first' counts' : List ℕ} {v : ℕ} → first' ≡ start_noted first counts v k → counts' ≡ one_more counts v → v ≡ part_of r
      → Reading file first' counts' prompts c (k + 1)

module _ {file first counts prompts : List ℕ} {held k c : ℕ} {r : Record} (g : Reading file first counts prompts held k) (more : k < record_count file)
    (hr : r ≡ record_at file k) (hc : c ≡ asked_of r) where
  asked : c ≡ asked_of (record_at file k)
  asked = hc ∙ ap asked_of hr

  pub turn_holdable : Holdable file first counts c
  turn_holdable = subst (Holdable file first counts) (sym asked) (holdable g more)

  module _ {prompts' : List ℕ} {before : Record} {n : ℕ} (h : HeldNotes file first counts prompts' c) (hb : before ≡ before_at file k)
      (hn : n ≡ fault_held counts prompts' c before r) where
    held_here : HeldNotes file first counts prompts' (asked_of (record_at file k))
    held_here = subst (HeldNotes file first counts prompts') asked h

    fault_here : n ≡ fault_at file first counts k
    fault_here =
        hn ∙ ap₂ (λ (m : ℕ) (b : Record). fault_held counts prompts' m b r) asked hb
        ∙ ap (fault_held counts prompts' (asked_of (record_at file k)) (before_at file k)) hr
        ∙ fault_held_lem g more held_here

    pub turn_stops : (n ≡ 0 → ⊥) → too_long file ≡ false → cut_record file ≡ false → refusal n k ≡ checked file
    turn_stops = reading_stops g more held_here n fault_here

    pub turned : n ≡ 0 → Turned file first counts prompts' c k r
    turned z =
        let none = sym fault_here ∙ z in
        let p = ap part_of hr in
        record {
          part_in = omega (arith, part_in g.going more none);
          count_small = omega (arith, count_small g.going more none, ap (λ (v : ℕ). get_or counts v 0) p);
          next =
              λ {first'} {counts'} hf hc hv.
              subst (λ (m : ℕ). Reading file first' counts' prompts' m (k + 1)) (sym asked) (reading_next g more held_here none hf hc (hv ∙ p));
        }

-- ---- the end
pub record Ended (file first counts : List ℕ) : Type 0 where
  pub accepted : records_checked file ≡ Ok tt
  pub few : get_or counts rate_part 0 ≤ 7
  pub within : get_or first rate_part 0 + get_or counts rate_part 0 ≤ record_count file
  pub rates : records (stretch file (get_or first rate_part 0) (get_or counts rate_part 0)) ≡ rates_of (records file)

pub reading_ends :
    {file first counts prompts : List ℕ} {held k : ℕ} → Reading file first counts prompts held k → record_count file ≤ k → too_long file ≡ false →
    cut_record file ≡ false
    → Ended file first counts
reading_ends {file} {first} {counts} {prompts} {held} {k} g done a b =
    let i = g.going in
    let ok = going_ends i done a b in
    let s = surveyed i done
    (record { answer = Ok tt; contracts = g.contracts; first = first; counts = counts; converts = any other_row (cut k file) })
    ok refl refl refl refl refl in
    let n : get_or counts rate_part 0 ≡ count (of_kind 6) (cut k file) = i.notes.counted rate_part (omega arith) in
    let e : k ≡ record_count file = omega (arith, i.inside) in
    let w = ((laid file k i.fine).parts rate_part (omega arith)).within in
    let all = ap (λ (m : ℕ). count (of_kind 6) (cut m file)) e in
    let law = accepts file ok in
    record {
      accepted = ok;
      few = omega (arith, length_kept (of_kind 6) (records file), law.limits.rates);
      within = omega (arith, i.notes.started rate_part (omega arith), length_cut k file);
      rates = ap₂ (λ (x y : ℕ). records (stretch file x y)) (s.first rate_part (omega arith)) (s.counts rate_part (omega arith)) ∙ law.standing.rates;
    }

-- a row of an accepted file is within its ranges
pub row_at : (file : List ℕ) → records_checked file ≡ Ok tt → (k : ℕ) → k < record_count file → kind (record_at file k) ≡ 3 → Row (record_at file k)
row_at file ok k h e =
    record { is_row = e; within = row_within (record_at file k) e (passed_at file (record_count file) (fine file ok) k h).within }

pub rates_decide : {file : List ℕ} {first counts : List ℕ} → Ended file first counts → rates_checked (records file) ≡ checked file
rates_decide {file} e = sym (records_decide file e.accepted)
