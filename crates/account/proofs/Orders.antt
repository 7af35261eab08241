-- An accepted file is in order: what refusal 8 tests does not hold of any record.
-- Assumes nothing.
use Rattle.std.specs.Prelude.{Ok}
use Prim.Native.Nat.{ℕ, zero, suc, ◌+◌, ◌*◌, ◌≤◌, ◌<◌}
use native.Mathlib.Nat.{le_of_suc-le-suc, not-suc-le-zero}
use native.Mathlib.Omega.{arith}
use mathlib.Core.Path.{◌≡◌, refl, sym, ap, subst, subst₂, ◌∙◌}
use mathlib.Core.Bool.{Bool, true, false}
use mathlib.Core.List.{List, [], ◌∷◌}
use borrow.Author.Tests.{eqb-true, eq-eqb, leb-false}
use lib.Dec.{eqb}
use lib.ListN.{length, get_or, take, drop}
use lib.Seq.{get_or-take, get_or-drop, drop-drop}
use Rattle.record.specs.Bytes.{record_bytes}
use Rattle.exact.specs.Lists.{count, keep}
use Rattle.record.specs.Layout.{Record, kind, contract, tier, day, rate_currency, most_contract}
use Rattle.record.proofs.Within.{both_true, neither}
use Rattle.account.specs.Accepted.{Each}
use Rattle.account.specs.Answers.{number_of, record_of}
use Rattle.account.specs.Check.{records_checked, the_one_before, contract_falls, legs_clash, with_itself, out_of_order}
use Rattle.account.specs.Orders.{Rising, Later, RatesRise, Orders}
use Rattle.account.specs.PartNumbers.{part, in_part, rate_part, parts}
use Rattle.account.specs.Parts.{start_of, of_kind, of_contract, contracts_of, prompts_of, rates_of}
use Rattle.account.specs.Records.{cut, record_at, records, record_count, earlier}
use Rattle.account.proofs.Days.{day_rises, tier_stays}
use Rattle.account.proofs.Dispatch.{order_1, order_4, order_5, order_6}
use Rattle.account.proofs.Every.{every_kept, length_kept}
use Rattle.account.proofs.Exactly.{exactly, faultless}
use Rattle.account.proofs.Laid.{Faultless, laid, passed_at}
use Rattle.account.proofs.Lists.{Stretch}
use Rattle.account.proofs.Noted.{part_is}
use Rattle.account.proofs.Own.{own}
use Rattle.account.proofs.Passed.{Passed, right_off}
use Rattle.account.proofs.Walk.{length_cut}

pub every_at : (P : Record → Type 0) (rs : List Record) → Each P rs → (k : ℕ) → k < length rs → P (get_or rs k [])
every_at P [] e k h = absurd (not-suc-le-zero h)
every_at P (r ∷ rs) e zero h = e.0
every_at P (r ∷ rs) e (suc k) h = every_at P rs e.1 k (le_of_suc-le-suc h)

pub cut_at : (n k : ℕ) (file : List ℕ) → k < n → get_or (cut n file) k [] ≡ record_at file k
cut_at zero k file h = absurd (not-suc-le-zero h)
cut_at (suc n) zero file h = refl
cut_at (suc n) (suc k) file h =
    let e : record_bytes + k * record_bytes ≡ suc k * record_bytes = omega arith in
    cut_at n k (drop record_bytes file) (le_of_suc-le-suc h) ∙ ap (take record_bytes) (drop-drop (k * record_bytes) record_bytes file
    ∙ ap (λ (m : ℕ). drop m file) e)

module _ (file : List ℕ) (ok : records_checked file ≡ Ok tt) where
  pub fine : Faultless file (record_count file)
  fine =
      let g = (exactly file).accepted.forth (record { number = ap number_of ok; place = ap record_of ok }) in
      faultless file (record_count file) g.none

  at : (k : ℕ) → k < record_count file → Passed (earlier file k) (record_at file k)
  at k h = passed_at file (record_count file) fine k h

  -- the contracts are the first records
  pub contract_at_lem : (k : ℕ) → k < length (contracts_of (records file)) → (get_or (contracts_of (records file)) k [] ≡ record_at file k) × (k < record_count file)
  contract_at_lem k h =
      let n = record_count file in
      let o = own file n fine in
      let c = count (of_kind 1) (records file) in
      let l = length_kept (of_kind 1) (records file) in
      let w = o.one.within in
      let b = o.begins in
      let m = length_cut n file in
      let kept = o.one.kept ∙ ap (λ (i : ℕ). take c (drop i (records file))) b in
      (ap (λ (rs : List Record). get_or rs k []) kept ∙ get_or-take c (records file) k [] (omega arith) ∙ cut_at n k file (omega arith), omega arith)

  rising : Rising (contracts_of (records file))
  rising k h =
      let a = contract_at_lem k (omega arith) in
      let b = contract_at_lem (suc k) h in
      let kinds = every_kept (λ r. kind r ≡ 1) (of_kind 1) file (record_count file) (λ j l e. eqb-true _ _ e) in
      let one : kind (record_at file k) ≡ 1 = subst (λ (r : Record). kind r ≡ 1) a.0
      (every_at (λ r. kind r ≡ 1) (contracts_of (records file)) kinds k (omega arith)) in
      let two : kind (record_at file (suc k)) ≡ 1 = subst (λ (r : Record). kind r ≡ 1) b.0
      (every_at (λ r. kind r ≡ 1) (contracts_of (records file)) kinds (suc k) h) in
      let t = right_off (eq-eqb (kind (record_at file k)) 1 one) (sym (order_1 (record_at file k) (record_at file (suc k)) two) ∙ (at (suc k) b.1).ordered) in
      let above = leb-false (contract (record_at file (suc k))) (contract (record_at file k)) t in
      subst₂ (λ (x y : Record). contract x < contract y) (sym a.0) (sym b.0) above

  -- the records of a part follow each other
  module _ (p : Record → Bool) (stands : Stretch p (records file)) where
    ps : List Record
    ps = keep p (records file)

    start : ℕ
    start = start_of p (records file)

    one_at : (k : ℕ) → k < length ps → (get_or ps k [] ≡ record_at file (start + k)) × (start + k < record_count file)
    unfolding ps start
    one_at k h =
        let n = record_count file in
        let l = length_kept p (records file) in
        let w = stands.within in
        let m = length_cut n file in (
          ap (λ (rs : List Record). get_or rs k []) stands.kept
              ∙ get_or-take (count p (records file)) (drop start (records file)) k [] (omega arith)
              ∙ get_or-drop start (records file) k [] ∙ cut_at n (start + k) file (omega arith),
          omega arith,
        )

    theirs : Each (λ r. p r ≡ true) ps
    unfolding ps
    theirs = every_kept (λ r. p r ≡ true) p file (record_count file) (λ j l e. e)

    -- two that follow each other in the file, the second not out of order
    next : (P : Record → Record → Type 0) → ((b r : Record) → p b ≡ true → p r ≡ true → out_of_order b r ≡ false → P b r)
        → (k : ℕ) → suc k < length (keep p (records file)) → P (get_or (keep p (records file)) k []) (get_or (keep p (records file)) (suc k) [])
    unfolding ps
    next P f k h =
        let a = one_at k (omega arith) in
        let e : start + suc k ≡ suc (start + k) = omega arith in
        let b = one_at (suc k) h in
        let r : get_or ps (suc k) [] ≡ record_at file (suc (start + k)) = b.0 ∙ ap (record_at file) e in
        let one : p (record_at file (start + k)) ≡ true = subst (λ (x : Record). p x ≡ true) a.0 (every_at (λ x. p x ≡ true) ps theirs k (omega arith)) in
        let two : p (record_at file (suc (start + k))) ≡ true = subst (λ (x : Record). p x ≡ true) r (every_at (λ x. p x ≡ true) ps theirs (suc k) h) in
        subst₂ P (sym a.0) (sym r)
        (f (record_at file (start + k)) (record_at file (suc (start + k))) one two (at (suc (start + k)) (omega (arith, e, b.1))).ordered)

  part_laid : (v : ℕ) → v < parts → Stretch (in_part v) (records file)
  part_laid v h = (laid file (record_count file) fine).parts v h

  later : (c : ℕ) → c ≤ most_contract → Later (prompts_of c (records file))
  later c hc =
      let s = subst (λ (p : Record → Bool). Stretch p (records file)) (part_is 2 c (omega arith) hc) (part_laid (part 2 c) (omega arith)) in
      record {
        days = next (of_contract 2 c) s (λ b r. day b < day r) (λ b r. day_rises c [] b r);
        tiers = next (of_contract 2 c) s (λ b r. tier b ≤ tier r) (λ b r. tier_stays c [] b r);
      }

  pub rates_rise : RatesRise (rates_of (records file))
  rates_rise =
      next (of_kind 6) (part_laid rate_part (omega arith)) (λ b r. rate_currency b < rate_currency r)
      (λ b r p q off. leb-false (rate_currency r) (rate_currency b) (right_off p (sym (order_6 b r (eqb-true (kind r) 6 q)) ∙ off)))

  pub orders : Orders (records file)
  orders =
      record {
        contracts = rising;
        prompts = later;
        spreads =
            λ c.
            every_kept (λ s. legs_clash s ≡ false) (of_contract 4 c) file (record_count file)
            (λ k h e.
            let r = record_at file k in
            let four = eqb-true (kind r) 4 (both_true (eqb (kind r) 4) (eqb (contract r) c) e).0 in
            (neither (contract_falls (the_one_before (earlier file k)) r) (legs_clash r)
            (sym (order_4 (the_one_before (earlier file k)) r four) ∙ (at k h).ordered)).1);
        entries =
            every_kept (λ e. with_itself e ≡ false) (of_kind 5) file (record_count file)
            (λ k h e. sym (order_5 (the_one_before (earlier file k)) (record_at file k) (eqb-true _ _ e)) ∙ (at k h).ordered);
        rates = rates_rise;
      }
