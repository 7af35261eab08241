-- The fault that the notes give is the fault that the definition gives.
-- Assumes nothing.
use Prim.Native.Nat.{ℕ, ◌+◌, ◌*◌, ◌≤◌, ◌<◌}
use mathlib.Core.Path.{◌≡◌, refl, sym, ap, ◌∙◌}
use mathlib.Core.Bool.{Bool, false, not, ◌&&◌}
use mathlib.Core.List.{List, [], ◌∷◌}
use lib.ListN.{get_or}
use lib.Dec.{eqb, leb}
use native.Mathlib.Omega.{arith}
use Rattle.exact.specs.Lists.{keep, any, count}
use Rattle.record.specs.Layout.{Record, kind, contract, day, legs_of, leg_tier, second_contract, most_contract}
use Rattle.record.specs.Ranges.{unknown_kind, unused_byte, field_outside}
use Rattle.record.proofs.Tests.{both}
use Rattle.record.proofs.Within.{by_kind, kind_known, contract_known, entry_within}
use Rattle.account.specs.Check.{kind_falls, out_of_order, none, lists_contract, leg_unlisted, unlisted, over_limit, fault_of, most_contracts, most_prompts}
use Rattle.account.specs.Check.{most_rows, most_spreads, most_entries}
use Rattle.account.specs.PartNumbers.{part, in_part, entry_part, parts}
use Rattle.account.specs.code.Notes.{part_of, no_contract, no_tier, unlisted_by, over_limit_by, prompts_noted, before_at, fault_at}
use Rattle.account.specs.Parts.{of_kind, of_contract, on_day, on_tier, start_of}
use Rattle.account.specs.Records.{cut, record_at, record_count, records, stretch, earlier}
use Rattle.account.proofs.Dispatch.{listed_2, listed_3, listed_4, listed_5, limit_2, limit_3, limit_4, limit_5, unlisted_2, unlisted_3, unlisted_4}
use Rattle.account.proofs.Dispatch.{unlisted_5, over_2, over_3, over_4, over_5}
use Rattle.account.proofs.Earlier.{any_earlier, count-earlier, stretch-cut}
use Rattle.account.proofs.Firsts.{same_first}
use Rattle.account.proofs.Laid.{Faultless, laid}
use Rattle.account.proofs.Lists.{none_counted, any_keep}
use Rattle.account.proofs.Noted.{Noted, part_is}
use Rattle.account.proofs.Passed.{part_entry, part_other}
use Rattle.account.proofs.Walk.{length_cut}

any_same {ℓ} : {A : Type ℓ} (p q : A → Bool) (xs : List A) → ((x : A) → p x ≡ q x) → any p xs ≡ any q xs
any_same p q [] h = refl
any_same p q (x ∷ xs) h = both (h x) (any_same p q xs h)

module _
    (file first counts : List ℕ) (k : ℕ) (notes : Noted first counts (cut k file)) (fine : Faultless file k)
    (inside : k ≤ record_count file) where
  pub counted_part : (n c : ℕ) → n ≤ 4 → c ≤ most_contract → get_or counts (part n c) 0 ≡ count (of_contract n c) (earlier file k)
  counted_part n c hn hc =
      notes.counted (part n c) (omega arith)
      ∙ ap (λ (p : Record → Bool). count p (cut k file)) (part_is n c hn hc)
      ∙ sym (count-earlier (of_contract n c) file k)

  none-listed : (c : ℕ) → c ≤ most_contract → no_contract counts c ≡ none (lists_contract c) (earlier file k)
  none-listed c hc =
      ap (λ (n : ℕ). eqb n 0) (counted_part 1 c (omega arith) hc) ∙ none_counted (of_contract 1 c) (earlier file k)

  pub prompts_are : (c : ℕ) → c ≤ most_contract → prompts_noted file first counts c ≡ keep (of_contract 2 c) (cut k file)
  prompts_are c hc =
      let v = part 2 c in
      let h : v < parts = omega arith in
      let s = (laid file k fine).parts v h in
      let w = s.within in
      ap (λ (i : ℕ). records (stretch file i (get_or counts v 0))) (notes.started v h)
      ∙ ap (λ (n : ℕ). records (stretch file (start_of (in_part v) (cut k file)) n)) (notes.counted v h)
      ∙ stretch-cut file (start_of (in_part v) (cut k file)) (count (in_part v) (cut k file)) k
      (omega (arith, length_cut k file)) inside
      ∙ sym s.kept
      ∙ ap (λ (p : Record → Bool). keep p (cut k file)) (part_is 2 c (omega arith) hc)

  none_among :
      (c : ℕ) → c ≤ most_contract → (q : Record → Bool)
      → not (any q (prompts_noted file first counts c)) ≡ none (λ e. of_contract 2 c e && q e) (earlier file k)
  none_among c hc q =
      ap (λ (rs : List Record). not (any q rs)) (prompts_are c hc) ∙ ap not (any_keep (of_contract 2 c) q (cut k file))
      ∙ ap not (sym (any_earlier (λ e. of_contract 2 c e && q e) file k))

  same_unlisted :
      unknown_kind (record_at file k) ≡ false → field_outside (record_at file k) ≡ false
      → unlisted_by counts (prompts_noted file first counts (contract (record_at file k))) (record_at file k)
      ≡ unlisted (earlier file k) (record_at file k)
  same_unlisted u h =
      let r = record_at file k in
      let es = earlier file k in
      let ps = prompts_noted file first counts (contract r) in
      let i = kind_known r u in
      let hc = contract_known r u h in
      let c = none-listed (contract r) hc in
      by_kind (λ n. kind r ≡ n → unlisted_by counts ps r ≡ unlisted es r)
      (λ e. rw e)
      (λ e. listed_2 counts ps r e ∙ c ∙ sym (unlisted_2 es r e))
      (λ e. listed_3 counts ps r e ∙ both c (none_among (contract r) hc (on_day (day r))) ∙ sym (unlisted_3 es r e))
      (λ e.
      listed_4 counts ps r e
      ∙ both c (any_same (λ leg. no_tier ps (leg_tier r leg)) (leg_unlisted es r) (legs_of r)
      (λ leg. none_among (contract r) hc (on_tier (leg_tier r leg))))
      ∙ sym (unlisted_4 es r e))
      (λ e.
      listed_5 counts ps r e ∙ both c (none-listed (second_contract r) (entry_within r e h).seconds)
      ∙ sym (unlisted_5 es r e))
      (λ e. rw e)
      (kind r) i.least i.most refl

  same_limit :
      unknown_kind (record_at file k) ≡ false → field_outside (record_at file k) ≡ false
      → over_limit_by counts (record_at file k) ≡ over_limit (earlier file k) (record_at file k)
  same_limit u h =
      let r = record_at file k in
      let es = earlier file k in
      let i = kind_known r u in
      let hc = contract_known r u h in
      by_kind (λ n. kind r ≡ n → over_limit_by counts r ≡ over_limit es r)
      (λ e. rw e)
      (λ e. limit_2 counts r e ∙ ap (leb most_prompts) (counts_of 2 (omega arith) (omega arith) hc e) ∙ sym (over_2 es r e))
      (λ e. limit_3 counts r e ∙ ap (leb most_rows) (counts_of 3 (omega arith) (omega arith) hc e) ∙ sym (over_3 es r e))
      (λ e. limit_4 counts r e ∙ ap (leb most_spreads) (counts_of 4 (omega arith) (omega arith) hc e) ∙ sym (over_4 es r e))
      (λ e. limit_5 counts r e ∙ ap (leb most_entries) (entries e) ∙ sym (over_5 es r e))
      (λ e. rw e)
      (kind r) i.least i.most refl
    where
      counts_of :
          (n : ℕ) → n ≤ 4 → n < 5 → contract (record_at file k) ≤ most_contract → kind (record_at file k) ≡ n
          → get_or counts (part_of (record_at file k)) 0 ≡ count (of_contract n (contract (record_at file k)))
          (earlier file k)
      counts_of n hn hs hc e =
          let r = record_at file k in
          ap (λ (v : ℕ). get_or counts v 0) (part_other r (λ z. omega arith) (λ z. omega arith) ∙ ap (λ (m : ℕ). most_contracts * m + contract r) e)
          ∙ counted_part n (contract r) hn hc

      entries :
          kind (record_at file k) ≡ 5
          → get_or counts (part_of (record_at file k)) 0 ≡ count (of_kind 5) (earlier file k)
      entries e =
          ap (λ (v : ℕ). get_or counts v 0) (part_entry (record_at file k) e) ∙ notes.counted entry_part (omega arith)
          ∙ sym (count-earlier (of_kind 5) file k)

  pub same_fault : fault_at file first counts k ≡ fault_of (earlier file k) (record_at file k)
  same_fault =
      let r = record_at file k in
      let es = earlier file k in
      let ps = prompts_noted file first counts (contract r) in
      same_first (unknown_kind r) (kind_falls (before_at file k) r) (unused_byte r) (field_outside r)
      (unlisted_by counts ps r)
      (out_of_order (before_at file k) r) (over_limit_by counts r) (unlisted es r)
      (over_limit es r) same_unlisted same_limit
