-- What is known of an accepted file.
-- Assumes nothing.
use Rattle.std.specs.Prelude.{Ok}
use Prim.Native.Nat.{ℕ, zero, suc, ◌≤◌, ◌<◌}
use mathlib.Core.Path.{◌≡◌, refl, sym, ap, subst, ◌∙◌}
use mathlib.Core.Bool.{Bool, true, not}
use mathlib.Core.List.{List, []}
use lib.ListN.{length, get_or, take, drop}
use lib.Dec.{leb}
use native.Mathlib.Omega.{arith}
use borrow.Author.Tests.{eqb-true, eqb-false, leb-false, ltb-false, not-false}
use Rattle.exact.specs.Lists.{any, keep, count}
use Rattle.record.specs.Layout.{Record, kind, contract, day, rate_currency, most_contract}
use Rattle.record.specs.Within.{ContractWithin, PromptWithin, RowWithin, SpreadWithin, EntryWithin, RateWithin}
use Rattle.record.proofs.Within.{neither, contract_within, prompt_within, row_within, spread_within, entry_within, rate_within}
use Rattle.account.specs.Accepted.{Each, part_bytes, Ranges, Limits, OnePrompt, Accepts}
use Rattle.account.specs.Answers.{number_of, record_of}
use Rattle.account.specs.Check.{records_checked, none, lists_contract, lists_day, over_limit, most_records, most_prompts, most_rows, most_spreads, most_entries}
use Rattle.account.specs.PartNumbers.{part, in_part, contract_count, part_count, entry_part, rate_part, parts}
use Rattle.account.specs.Orders.{RatesRise}
use Rattle.account.specs.Parts.{of_kind, of_contract, on_day, start_of, prompts_of, rates_of}
use Rattle.account.specs.Records.{cut, record_at, records, record_count, stretch, earlier}
use Rattle.account.proofs.Days.{days}
use Rattle.account.proofs.Dispatch.{unlisted_3, over_2, over_3, over_4, over_5}
use Rattle.account.proofs.Earlier.{any_earlier, stretch-cut}
use Rattle.account.proofs.Every.{every_kept, few, length_kept}
use Rattle.account.proofs.Exactly.{exactly, faultless}
use Rattle.account.proofs.Going.{if_accepted_lem}
use Rattle.account.proofs.Laid.{Faultless, laid, passed_at}
use Rattle.account.proofs.Lists.{any_keep, none_counted}
use Rattle.account.proofs.Named.{stays, kind_of, named}
use Rattle.account.proofs.Noted.{part_is}
use Rattle.account.proofs.Orders.{every_at, rates_rise}
use Rattle.account.proofs.Own.{own}
use Rattle.account.proofs.Passed.{Passed, known_of}
use Rattle.account.proofs.Walk.{length_cut}

-- currencies that rise from 1 to 7 are seven at most
few_rates : (rs : List Record) → RatesRise rs → Each RateWithin rs → length rs ≤ 7
few_rates rs up within = go (length rs) refl
  where
    above : (k : ℕ) → k < length rs → suc k ≤ rate_currency (get_or rs k [])
    above zero h = (every_at RateWithin rs within 0 h).currencies.least
    above (suc k) h = omega (arith, up k h, above k (omega arith))

    go : (n : ℕ) → length rs ≡ n → length rs ≤ 7
    go zero e = omega arith
    go (suc n) e = omega (arith, above n (omega arith), (every_at RateWithin rs within n (omega arith)).currencies.most)

-- a limit holds of the records before record k
pub part_few :
    (file : List ℕ) (k : ℕ) → Faultless file k → (n c most : ℕ)
    → ((es : List Record) (r : Record) → kind r ≡ n → over_limit es r ≡ leb most (count (of_contract n (contract r)) es))
    → count (of_contract n c) (cut k file) ≤ most
part_few file k fine n c most law =
    few (of_contract n c) file most k (λ j h e.
    let r = record_at file j in
    let i = kind_of n c r e in
    let room = leb-false most (count (of_contract n (contract r)) (earlier file j))
    (sym (law (earlier file j) r i.0) ∙ (passed_at file k fine j h).room) in
    subst (λ (d : ℕ). count (of_contract n d) (earlier file j) < most) i.1 room)

module _ (file : List ℕ) (ok : records_checked file ≡ Ok tt) where
  fine : Faultless file (record_count file)
  fine =
      let g = (exactly file).accepted.forth (record { number = ap number_of ok; place = ap record_of ok }) in
      faultless file (record_count file) g.none

  short : length (records file) ≤ most_records
  short =
      let g = (exactly file).accepted.forth (record { number = ap number_of ok; place = ap record_of ok }) in
      let l = ltb-false 61440 (length file) g.long in
      omega (arith, length_cut (record_count file) file)

  at : (k : ℕ) → k < record_count file → Passed (earlier file k) (record_at file k)
  at k h = passed_at file (record_count file) fine k h

  -- ---- the parts stand in one stretch each
  stands : (v : ℕ) → v < parts → records (part_bytes file v) ≡ keep (in_part v) (records file)
  stands v h =
      let n = record_count file in
      let s = (laid file n fine).parts v h in
      let w = s.within in
      ap (λ (i : ℕ). records (stretch file i (part_count file v)))
      (if_accepted_lem (records_checked file) (start_of (in_part v) (records file)) ok)
      ∙ ap (λ (i : ℕ). records (stretch file (start_of (in_part v) (records file)) i))
      (if_accepted_lem (records_checked file) (count (in_part v) (records file)) ok)
      ∙ stretch-cut file (start_of (in_part v) (records file)) (count (in_part v) (records file)) n
      (omega (arith, length_cut n file)) (omega arith)
      ∙ sym s.kept

  pub part_stands :
      (n c : ℕ) → n ≤ 4 → c ≤ most_contract → records (part_bytes file (part n c)) ≡ keep (of_contract n c) (records file)
  part_stands n c hn hc =
      stands (part n c) (omega arith) ∙ ap (λ (p : Record → Bool). keep p (records file)) (part_is n c hn hc)

  own_stands : records (stretch file 0 (contract_count file)) ≡ keep (of_kind 1) (records file)
  own_stands =
      let n = record_count file in
      let o = own file n fine in
      let w = o.one.within in
      let b = o.begins in
      ap (λ (i : ℕ). records (stretch file 0 i)) (if_accepted_lem (records_checked file) (count (of_kind 1) (records file)) ok)
      ∙ stretch-cut file 0 (count (of_kind 1) (records file)) n (omega (arith, length_cut n file)) (omega arith)
      ∙ ap (λ (i : ℕ). take (count (of_kind 1) (records file)) (drop i (records file))) (sym b)
      ∙ sym o.one.kept

  -- ---- ranges
  ranges_hold : Ranges (records file)
  ranges_hold =
      let n = record_count file in
      record {
        contracts =
            every_kept ContractWithin (of_kind 1) file n
            (λ k h e. contract_within (record_at file k) (eqb-true _ _ e) (at k h).within);
        prompts =
            λ c.
            every_kept PromptWithin (of_contract 2 c) file n
            (λ k h e. prompt_within (record_at file k) (kind_of 2 c (record_at file k) e).0 (at k h).within);
        rows =
            λ c.
            every_kept RowWithin (of_contract 3 c) file n
            (λ k h e. row_within (record_at file k) (kind_of 3 c (record_at file k) e).0 (at k h).within);
        spreads =
            λ c.
            every_kept SpreadWithin (of_contract 4 c) file n
            (λ k h e. spread_within (record_at file k) (kind_of 4 c (record_at file k) e).0 (at k h).within);
        entries =
            every_kept EntryWithin (of_kind 5) file n
            (λ k h e. entry_within (record_at file k) (eqb-true _ _ e) (at k h).within);
        rates =
            every_kept RateWithin (of_kind 6) file n
            (λ k h e. rate_within (record_at file k) (eqb-true _ _ e) (at k h).within);
      }

  -- ---- limits
  limits_hold : Limits (records file)
  limits_hold =
      let m = record_count file in
      record {
        all = short;
        contracts = omega (arith, length_kept (of_kind 1) (records file), (own file m fine).most);
        prompts = λ c. omega (arith, length_kept (of_contract 2 c) (records file), part_few file m fine 2 c most_prompts over_2);
        rows = λ c. omega (arith, length_kept (of_contract 3 c) (records file), part_few file m fine 3 c most_rows over_3);
        spreads = λ c. omega (arith, length_kept (of_contract 4 c) (records file), part_few file m fine 4 c most_spreads over_4);
        entries =
            omega (
              arith,
              length_kept (of_kind 5) (records file),
              few (of_kind 5) file most_entries m (λ k h e.
                  leb-false most_entries (count (of_kind 5) (earlier file k))
                  (sym (over_5 (earlier file k) (record_at file k) (eqb-true _ _ e)) ∙ (at k h).room)),
            );
        rates = few_rates (rates_of (records file)) (rates_rise file ok) ranges_hold.rates;
      }

  -- ---- every row has its prompt
  one_prompt_lem : OnePrompt (records file)
  one_prompt_lem c =
      let n = record_count file in
      every_kept (λ r. count (on_day (day r)) (prompts_of c (records file)) ≡ 1) (of_contract 3 c) file n
      (λ k h e.
      let r = record_at file k in
      let i = kind_of 3 c r e in
      let p = at k h in
      let hc = (known_of r p).contracts in
      let u = (neither (none (lists_contract (contract r)) (earlier file k))
      (none (lists_day (contract r) (day r)) (earlier file k))
      (sym (unlisted_3 (earlier file k) r i.0) ∙ p.listed)).1 in
      let there = sym (any_earlier (lists_day (contract r) (day r)) file k) ∙ not-false _ u in
      let whole = stays (lists_day (contract r) (day r)) file k n (omega arith) there in
      let some : any (on_day (day r)) (prompts_of (contract r) (records file)) ≡ true =
      any_keep (of_contract 2 (contract r)) (on_day (day r)) (records file) ∙ whole in
      let counted = eqb-false (count (on_day (day r)) (prompts_of (contract r) (records file))) 0
      (none_counted (on_day (day r)) (prompts_of (contract r) (records file)) ∙ ap not some) in
      let once = (days file (contract r) hc n fine).once (day r) in
      subst (λ (d : ℕ). count (on_day (day r)) (prompts_of d (records file)) ≡ 1) i.1 (omega arith))

  pub accepts : Accepts file
  accepts =
      record {
        standing =
            record {
              contracts = own_stands;
              prompts = λ c h. part_stands 2 c (omega arith) h;
              rows = λ c h. part_stands 3 c (omega arith) h;
              spreads = λ c h. part_stands 4 c (omega arith) h;
              entries = stands entry_part (omega arith);
              rates = stands rate_part (omega arith);
            };
        ranges = ranges_hold;
        limits = limits_hold;
        one_prompt = one_prompt_lem;
        named = named file fine;
      }
