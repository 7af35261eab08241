-- The numbers that the question of an account's figures leaves in 129 zeros: within their bounds, and what they add is what the figures
-- add. This is all that the committee's laws know of that question.
-- Assumes nothing.
use Rattle.std.specs.Prelude.{Ok}
use Prim.Native.Nat.{ℕ, zero, suc, ◌+◌, ◌-◌, ◌*◌, ◌≤◌, ◌<◌, ◌^◌, zero-le}
use native.Mathlib.Decide.{dec_lt}
use native.Mathlib.Omega.{arith}
use mathlib.Core.Path.{◌≡◌, refl, sym, ap, subst, subst⁻¹, ◌∙◌}
use mathlib.Core.Bool.{Bool, true, false, cond}
use mathlib.Core.Logic.{⊎_elim}
use mathlib.Core.List.{List, [], ◌∷◌, ◌++◌, map, map-map}
use borrow.Author.Tests.{eqb-true}
use lib.Dec.{ltb}
use lib.IntN.{ℤ, pos}
use lib.ListN.{length, length-append, length-drop, length-map, length-replicate, get_or, drop, replicate, get_or-replicate, get_or-append, get_or-eq_default}
use lib.ListN.{get_or-map}
use lib.Seq.{get_or-append-add, get_or-drop, get_or_at}
use Rattle.exact.specs.Lists.{one_if, sum}
use Rattle.exact.specs.Signed.{or_zero}
use Rattle.exact.proofs.Tests.{one_at_most}
use Rattle.record.specs.Layout.{Record, contract}
use Rattle.account.specs.Answers.{number_of}
use Rattle.account.specs.Checked.{checked}
use Rattle.account.specs.Parts.{contracts_of, prompts_of, rows_of, spreads_of, entries_of, rates_of}
use Rattle.account.specs.Records.{records}
use Rattle.account.proofs.Claimed.{claimed}
use Rattle.account.proofs.Alone.{lawful}
use Rattle.account.proofs.NoonLaws.{accepted_only}
use Rattle.account.specs.Check.{most_contracts}
use Rattle.spread.specs.Steps.{Open}
use Rattle.formulas.specs.Bounds.{longest_figures, figures_each}
use Rattle.formulas.specs.Contract.{Contract, contracts, parts_in, as_tier, margin_of}
use Rattle.margin.specs.Figures.{eight, eights, figures, figures_over, total_margin}
use Rattle.formulas.specs.Margin.{risk}
use Rattle.questions.specs.Questions.{figures_answer, after_figures}
use Rattle.margin.specs.Skipped.{NoneSkipped}
use Rattle.margin.proofs.AcceptLaws.{contract_within, own_within, its_rated}
use Rattle.margin.proofs.QuestionLaws.{figures-length}
use Rattle.margin.proofs.Skipped.{file_skips_none}
use Rattle.runs.proofs.RunLaws.{verdict}
use Rattle.committee.specs.Answered.{Answered, answered_account}
use Rattle.committee.specs.Committee.{number_at, contracts_in, scanning_at, interprompt_at, prompt_at, margin_at, total_number, over_contracts, has_credit}
use Rattle.committee.specs.Committee.{had_credit, is_above, above_risk, is_accepted, over_accepted}
use Rattle.committee.specs.code.Sums.{most_total, Fit, FoundIn, AccountOf}
use Rattle.committee.specs.declared.contracts.Found.{Found}
use Rattle.committee.specs.declared.figures.Account.{Account}
use Rattle.committee.proofs.Adding.{none_of, all_of}
use Rattle.committee.proofs.Most.{margin_within, scanning_most, interprompt_most, prompt_most}
use Rattle.committee.proofs.OverContracts.{over_at, same_over, over_padded, over_none, over_list}

-- ---- numbers as the figures have them: those of n contracts, then the total, which is their margins together
pub record Listed (n : ℕ) (numbers : List ℤ) : Type 0 where
  pub few : n ≤ most_contracts
  pub long : length numbers ≡ figures_each * n + 1
  pub total : over_contracts n (margin_at numbers) ≡ total_number numbers
  pub risks : (i : ℕ) → i < n → scanning_at numbers i + interprompt_at numbers i + prompt_at numbers i < 2 ^ 64
  pub most : total_number numbers ≤ most_total

-- ---- all zeros
abbrev pub zeros : List ℤ
zeros = replicate longest_figures (pos 0)

zero_at : (k : ℕ) → get_or zeros k (pos 0) ≡ pos 0
zero_at k = go (dec_lt k longest_figures)
  where
    go : Dec (k < longest_figures) → get_or zeros k (pos 0) ≡ pos 0
    go (yes h) = get_or-replicate longest_figures k (pos 0) (pos 0) h
    go (no h) = get_or-eq_default zeros (pos 0) {n = k} (omega (arith, h, length-replicate longest_figures (pos 0)))

-- numbers that are all 0 are within the bounds, and add nothing
module _ (numbers : List ℤ) (n : ℕ) (none : (k : ℕ) → figures_each * n < k → number_at numbers k ≡ 0) (i : ℕ) (h : n ≤ i) where
  risk-none : scanning_at numbers i + interprompt_at numbers i + prompt_at numbers i ≡ 0
  risk-none =
      let a = none (figures_each * i + 2) (omega arith) in
      let b = none (figures_each * i + 3) (omega arith) in
      let c = none (figures_each * i + 4) (omega arith) in
      omega arith

  margin-none : margin_at numbers i ≡ 0
  margin-none = none (figures_each * i + 7) (omega arith)

  credit-none : one_if (has_credit numbers i) ≡ 0
  credit-none = ap (λ (x : ℕ). one_if (ltb 0 x)) (none (figures_each * i + 5) (omega arith))

  above_none : one_if (is_above numbers i) ≡ 0
  above_none =
      let a = none (figures_each * i + 2) (omega arith) in
      let b = none (figures_each * i + 3) (omega arith) in
      let c = none (figures_each * i + 4) (omega arith) in
      let d = none (figures_each * i + 5) (omega arith) in
      let e = none (figures_each * i + 6) (omega arith) in
      λ j. one_if (ltb (risk (a j) (b j) (c j) (d j)) (e j))

-- ---- the numbers of n contracts, in 129
module _ (n : ℕ) (numbers : List ℤ) (is : Listed n numbers) where
  abbrev lent : List ℤ
  lent = numbers ++ drop (length numbers) zeros

  count_is : contracts_in numbers ≡ n
  count_is = let l = is.long in omega arith

  front : (k : ℕ) → k ≤ figures_each * n → number_at lent k ≡ number_at numbers k
  front k h = let l = is.long in ap or_zero (get_or-append numbers (drop (length numbers) zeros) (pos 0) k (omega arith))

  past : (k : ℕ) → figures_each * n < k → number_at lent k ≡ 0
  past k h =
      let l = is.long in
      let e : k ≡ length numbers + (k - length numbers) = omega arith in
      ap or_zero
      (ap (λ (j : ℕ). get_or lent j (pos 0)) e
      ∙ get_or-append-add numbers (drop (length numbers) zeros) (k - length numbers) (pos 0)
      ∙ get_or-drop (length numbers) zeros (k - length numbers) (pos 0)
      ∙ zero_at (length numbers + (k - length numbers)))

  pub listed_fit : Fit lent
  listed_fit = record {
    room =
        let l = is.long in
        let f = is.few in
        let a = length-append numbers (drop (length numbers) zeros) in
        let d = length-drop (length numbers) zeros in
        let z = length-replicate longest_figures (pos 0) in
        omega arith;
    risk_within = λ i h. risk_fits i (dec_lt i n);
    margin_within = λ i h. margin_fits i (dec_lt i n);
  }
    where
      risk_fits : (i : ℕ) → Dec (i < n) → scanning_at lent i + interprompt_at lent i + prompt_at lent i < 2 ^ 64
      risk_fits i (yes h) =
          let r = is.risks i h in
          let a = front (figures_each * i + 2) (omega arith) in
          let b = front (figures_each * i + 3) (omega arith) in
          let c = front (figures_each * i + 4) (omega arith) in
          omega arith
      risk_fits i (no h) = let r = risk-none lent n past i (omega (arith, h)) in omega arith

      margin_fits : (i : ℕ) → Dec (i < n) → margin_at lent i ≤ most_total
      margin_fits i (yes h) =
          let e = front (figures_each * i + 7) (omega arith) in
          let a = over_at (margin_at numbers) n i h in
          let t = is.total in
          let m = is.most in
          omega arith
      margin_fits i (no h) = let r = margin-none lent n past i (omega (arith, h)) in omega arith

  -- what all places add is what the contracts add
  margins_are : over_contracts most_contracts (margin_at lent) ≡ total_number numbers
  margins_are =
      over_padded (margin_at numbers) (margin_at lent) n most_contracts is.few (λ i h. front (figures_each * i + 7) (omega arith)) (margin-none lent n past)
      ∙ is.total

  credits_are : over_contracts most_contracts (λ i. one_if (has_credit lent i)) ≡ over_contracts (contracts_in numbers) (λ i. one_if (has_credit numbers i))
  credits_are =
      over_padded (λ i. one_if (has_credit numbers i)) (λ i. one_if (has_credit lent i)) n most_contracts is.few
      (λ i h. ap (λ (x : ℕ). one_if (ltb 0 x)) (front (figures_each * i + 5) (omega arith))) (credit-none lent n past)
      ∙ ap (λ (m : ℕ). over_contracts m (λ i. one_if (has_credit numbers i))) (sym count_is)

  above_are : over_contracts most_contracts (λ i. one_if (is_above lent i)) ≡ above_risk numbers
  above_are =
      over_padded (λ i. one_if (is_above numbers i)) (λ i. one_if (is_above lent i)) n most_contracts is.few same (above_none lent n past)
      ∙ ap (λ (m : ℕ). over_contracts m (λ i. one_if (is_above numbers i))) (sym count_is)
    where
      same : (i : ℕ) → i < n → one_if (is_above lent i) ≡ one_if (is_above numbers i)
      same i h =
          let a = front (figures_each * i + 2) (omega arith) in
          let b = front (figures_each * i + 3) (omega arith) in
          let c = front (figures_each * i + 4) (omega arith) in
          let d = front (figures_each * i + 5) (omega arith) in
          let e = front (figures_each * i + 6) (omega arith) in
          λ j. one_if (ltb (risk (a j) (b j) (c j) (d j)) (e j))

-- ---- the figures of an accepted account, number by number
module _ (entries : List Record) (table : List Open) where
  eight_at : (ks : List Contract) (rest : List ℕ) (d : Contract) (i j : ℕ) → i < length ks → j < figures_each
      → get_or (eights entries table ks ++ rest) (figures_each * i + j) 0 ≡ get_or (eight entries table (get_or ks i d)) j 0
  eight_at [] rest d i j h l = absurd (omega arith)
  eight_at (k ∷ ks) rest d zero j h l =
      let e : figures_each * 0 + j ≡ j = omega arith in
      ap (λ (m : ℕ). get_or (eights entries table (k ∷ ks) ++ rest) m 0) e
      ∙ get_or-append (eight entries table k) (eights entries table ks ++ rest) 0 j l
  eight_at (k ∷ ks) rest d (suc i) j h l =
      let e : figures_each * suc i + j ≡ figures_each + (figures_each * i + j) = omega arith in
      ap (λ (m : ℕ). get_or (eights entries table (k ∷ ks) ++ rest) m 0) e
      ∙ get_or-append-add (eight entries table k) (eights entries table ks ++ rest) (figures_each * i + j) 0
      ∙ eight_at ks rest d i j (omega arith) l

  eights-length : (ks : List Contract) → length (eights entries table ks) ≡ figures_each * length ks
  eights-length [] = refl
  eights-length (k ∷ ks) = let rest = eights-length ks in omega arith

module _ (account : List ℕ) (ok : checked account ≡ Ok tt) where
  abbrev rs : List Record
  rs = records account

  abbrev es : List Record
  es = entries_of rs

  abbrev ks : List Contract
  ks = contracts rs

  abbrev table : List Open
  table = map as_tier ks

  abbrev n : ℕ
  n = length (contracts_of rs)

  contracts-length : length ks ≡ n
  contracts-length = length-map (contracts_of rs) (parts_in rs)

  number_is : (k : ℕ) → number_at (figures rs) k ≡ get_or (figures_over es ks) k 0
  number_is k = ap or_zero (get_or-map pos (figures_over es ks) k 0)

  abbrev contract_at : ℕ → Contract
  contract_at i = parts_in rs (get_or (contracts_of rs) i [])

  -- number j of contract i
  place_is : (i j : ℕ) → i < n → j < figures_each → number_at (figures rs) (figures_each * i + j) ≡ get_or (eight es table (contract_at i)) j 0
  place_is i j h l =
      let c = contracts-length in
      number_is (figures_each * i + j)
      ∙ eight_at es table ks (total_margin es table ks ∷ []) (parts_in rs []) i j (omega arith) l
      ∙ ap (λ (k : Contract). get_or (eight es table k) j 0) (get_or-map (parts_in rs) (contracts_of rs) i [])

  total_is : number_at (figures rs) (figures_each * n) ≡ total_margin es table ks
  total_is =
      number_is (figures_each * n)
      ∙ get_or_at (eights es table ks) (total_margin es table ks) [] 0 (figures_each * n)
      (eights-length es table ks ∙ ap (λ (m : ℕ). figures_each * m) contracts-length)

  abbrev skipped : NoneSkipped rs
  skipped = file_skips_none account ok

  fits : (i : ℕ) → i < n → scanning_at (figures rs) i + interprompt_at (figures rs) i + prompt_at (figures rs) i < 2 ^ 64
  fits i h =
      let own = get_or (contracts_of rs) i [] in
      let c = contract own in
      let law = lawful account ok in
      let w = contract_within rs law own c (own_within rs law i h) in
      let rates = rates_of rs in
      let rated = its_rated rs law c in
      let over = skipped.contract rates own (prompts_of c rs) (rows_of c rs) (spreads_of c rs) in
      let s = scanning_most rates own (prompts_of c rs) (rows_of c rs) (spreads_of c rs) w rated over in
      let t = interprompt_most rates own (prompts_of c rs) (rows_of c rs) (spreads_of c rs) w rated over in
      let p = prompt_most rates own (prompts_of c rs) (rows_of c rs) (spreads_of c rs) w rated over in
      let a = place_is i 2 h (omega arith) in
      let b = place_is i 3 h (omega arith) in
      let d = place_is i 4 h (omega arith) in
      let few-rows = w.rows_within.few in
      let few_prompts = w.few_prompts in
      let few_spreads = w.few_spreads in
      omega arith

  pub listed : Listed n (figures rs)
  listed =
      let law = lawful account ok in
      let long = figures-length rs in
      let counted : contracts_in (figures rs) ≡ n = omega arith in
      let total : total_number (figures rs) ≡ total_margin es table ks = ap (λ (m : ℕ). number_at (figures rs) (figures_each * m)) counted ∙ total_is in
      record {
        few = law.limits.contracts;
        long = long;
        total =
            same_over (λ i. margin_of es table (contract_at i)) (margin_at (figures rs)) n (λ i h. place_is i 7 h (omega arith))
            ∙ over_list (λ own. margin_of es table (parts_in rs own)) (contracts_of rs) []
            ∙ ap sum (sym (map-map (margin_of es table) (parts_in rs) (contracts_of rs)))
            ∙ sym total;
        risks = fits;
        most =
            let m = margin_within rs law
            (λ own. skipped.contract (rates_of rs) own (prompts_of (contract own) rs) (rows_of (contract own) rs) (spreads_of (contract own) rs)) es
            table skipped.whole in
            omega arith;
      }

-- ---- what the question leaves
module _ (account : List ℕ) where
  abbrev numbers : List ℤ
  numbers = figures (records account)

  abbrev refused : Bool → List ℤ
  refused t = cond t (numbers ++ drop (length numbers) zeros) zeros

  was_accepted : is_accepted (answered_account account) ≡ true → checked account ≡ Ok tt
  was_accepted e =
      accepted_only (checked account) (ap number_of (sym (verdict account)) ∙ eqb-true (number_of (figures_answer account longest_figures)) 0 e)

  left_by : (t : Bool) → is_accepted (answered_account account) ≡ t → after_figures account zeros ≡ refused t
  left_by t e = ap refused e

  zeros_fit : Fit zeros
  zeros_fit = record {
    room = length-replicate longest_figures (pos 0);
    risk_within = λ i h. let r = risk-none zeros 0 (λ k l. ap or_zero (zero_at k)) i zero-le in omega arith;
    margin_within = λ i h. let r = margin-none zeros 0 (λ k l. ap or_zero (zero_at k)) i zero-le in omega arith;
  }

  pub fit : Fit (after_figures account zeros)
  fit = go (is_accepted (answered_account account)) refl
    where
      go : (t : Bool) → is_accepted (answered_account account) ≡ t → Fit (after_figures account zeros)
      go true e =
          let ok = was_accepted e in
          subst⁻¹ Fit (left_by true e) (listed_fit (length (contracts_of (records account))) numbers (listed account ok))
      go false e = subst⁻¹ Fit (left_by false e) zeros_fit

  -- what is found in it is what the account adds
  module _ (f : Found) (found : FoundIn (after_figures account zeros) most_contracts f) (refusal credit : ℕ)
      (er : refusal ≡ number_of (figures_answer account longest_figures))
      (ec : credit ≡ one_if (ltb 0 f.credits)) where
    abbrev a : Answered
    a = answered_account account

    abbrev r : Account
    r = record { refusal = refusal; margin = f.margin; credit = credit; above = f.above }

    made : f.margin.0 ≤ most_total → f.margin.0 ≡ over_accepted total_number a → one_if (ltb 0 f.credits) ≡ over_accepted (λ xs. one_if (had_credit xs)) a
        → f.above ≡ over_accepted above_risk a → AccountOf a r
    made most em ek ea = record {
      refusal_is = er;
      margin_is = em;
      credit_is = ec ∙ ek;
      above_is = ea;
      margin_most = most;
      credit_most = let o = one_at_most (ltb 0 f.credits) in omega arith;
      above_most = found.few;
    }

    pub account_is : AccountOf a r
    account_is = go (is_accepted a) refl
      where
        go : (t : Bool) → is_accepted a ≡ t → AccountOf a r
        go true e =
            let m = length (contracts_of (records account)) in
            let l = listed account (was_accepted e) in
            let at = subst (λ (xs : List ℤ). FoundIn xs most_contracts f) (left_by true e) found in
            let margin : f.margin.0 ≡ total_number numbers = at.margin_is ∙ margins_are m numbers l in
            let most = l.most in
            made (omega arith) (margin ∙ sym (all_of total_number a e))
            (ap (λ (x : ℕ). one_if (ltb 0 x)) (at.credits_are ∙ credits_are m numbers l) ∙ sym (all_of (λ xs. one_if (had_credit xs)) a e))
            (at.above_is ∙ above_are m numbers l ∙ sym (all_of above_risk a e))
        go false e =
            let at = subst (λ (xs : List ℤ). FoundIn xs most_contracts f) (left_by false e) found in
            let none : (k : ℕ) → figures_each * 0 < k → number_at zeros k ≡ 0 = λ k l. ap or_zero (zero_at k) in
            let margin : f.margin.0 ≡ 0 = at.margin_is ∙ over_none (margin_at zeros) most_contracts (λ i. margin-none zeros 0 none i zero-le) in
            made (omega arith) (margin ∙ sym (none_of total_number a e))
            (ap (λ (x : ℕ). one_if (ltb 0 x)) (at.credits_are
            ∙ over_none (λ i. one_if (has_credit zeros i)) most_contracts (λ i. credit-none zeros 0 none i zero-le))
            ∙ sym (none_of (λ xs. one_if (had_credit xs)) a e))
            (at.above_is ∙ over_none (λ i. one_if (is_above zeros i)) most_contracts (λ i. above_none zeros 0 none i zero-le) ∙ sym (none_of above_risk a e))

  -- its margin, and the number of its refusal
  pub total_most : over_accepted total_number (answered_account account) ≤ most_total
  total_most = go (is_accepted (answered_account account)) refl
    where
      go : (t : Bool) → is_accepted (answered_account account) ≡ t → over_accepted total_number (answered_account account) ≤ most_total
      go true e =
          let m = (listed account (was_accepted e)).most in
          let o = all_of total_number (answered_account account) e in
          omega arith
      go false e = let o = none_of total_number (answered_account account) e in omega arith

  pub refusal_most : (answered_account account).refusal ≤ 15
  refusal_most =
      let e = ap number_of (verdict account) in
      ⊎_elim (λ m. omega (arith, e, m)) (λ m. omega (arith, e, m.1)) (claimed account).exactly.numbers
