-- A run of accounts, gone over one after the other: the sums so far, where the next account stands, and what is answered.
-- Assumes nothing.
use Rattle.std.specs.Prelude.{Ok, Err}
use Prim.Native.Nat.{ℕ, zero, suc, ◌+◌, ◌/◌, ◌%◌, ◌≤◌, ◌<◌, zero-le}
use native.Mathlib.Decide.{dec_lt}
use native.Mathlib.Omega.{arith}
use mathlib.Core.Path.{◌≡◌, refl, sym, ap, ap₂, subst⁻¹, ◌∙◌}
use mathlib.Core.Bool.{Bool, true, false, cond, not, ◌&&◌, ◌||◌}
use mathlib.Core.List.{List, [], ◌∷◌, ◌++◌, map, append-nil, append_assoc}
use borrow.Author.Tests.{lt-ltb, le-ltb}
use lib.Dec.{eqb, ltb}
use lib.IntN.{ℤ, pos}
use lib.ListN.{length, length-append, get_or, take, drop, drop_of_length-le, get_or-eq_default}
use lib.Seq.{ext_get_or}
use Rattle.exact.specs.Lists.{one_if, sum}
use Rattle.exact.proofs.Lists.{get_d_map}
use Rattle.exact.proofs.Tests.{one_at_most}
use Rattle.record.specs.Bytes.{count_from}
use Rattle.account.specs.Answers.{number_of}
use Rattle.account.specs.Answers.{Answer}
use Rattle.account.specs.declared.answers.Refusal.TheVariants.{TooFewNumbers, LengthsDiffer, TooManyAccounts}
use Rattle.runs.proofs.RunLaws.{accounts_next, sum_next}
use Rattle.committee.specs.Answered.{Answered, answered_account}
use Rattle.committee.specs.Committee.{is_accepted, refusal_count, refusal_counts, total_number, had_credit, above_risk, committee}
use Rattle.committee.specs.Committee.{most_accounts, committee_numbers}
use Rattle.committee.specs.Committee.{committee_answer, answered_run, after_committee}
use Rattle.committee.specs.code.Sums.{most_total, AccountOf, SumsOf, Within, leads, AccountAdded, sums_numbers}
use Rattle.committee.specs.declared.figures.Account.{Account}
use Rattle.committee.specs.declared.sums.Sums.{Sums}
use Rattle.committee.proofs.Adding.{count_next, summed_next, takes_over, taken}

-- ---- one account more
module _ (run : List Answered) (a : Answered) (s t : Sums) (r : Account) (is : AccountOf a r) (added : AccountAdded s r (length run) t) where
  -- the sums are those of the run with it
  pub sums_next : SumsOf run s → SumsOf (run ++ (a ∷ [])) t
  sums_next so_far =
      let lead : leads s r ≡ takes_over run a =
      λ i. eqb (is.refusal_is i) 0 && (eqb (so_far.accepted_is i) 0 || ltb (so_far.largest_is i) (is.margin_is i))
      in
      let l = taken run a in
      record {
        accepted_is =
            added.accepted_is
            ∙ ap₂ ◌+◌ so_far.accepted_is (ap (λ (n : ℕ). one_if (eqb n 0)) is.refusal_is)
            ∙ sym (count_next is_accepted run a);
        refused_is =
            added.refused_is
            ∙ ap₂ ◌+◌ so_far.refused_is (ap (λ (n : ℕ). one_if (not (eqb n 0))) is.refusal_is)
            ∙ sym (count_next (λ x. not (is_accepted x)) run a);
        refusals_long = added.refusals_are.as_many;
        refusals_are =
            λ k h.
            added.refusals_are.each k h
            ∙ ap₂ ◌+◌ (so_far.refusals_are k h) (ap (λ (n : ℕ). one_if (eqb n (suc k))) is.refusal_is)
            ∙ sym (count_next (λ x. eqb x.refusal (suc k)) run a);
        margin_is = added.margin_is ∙ ap₂ ◌+◌ so_far.margin_is is.margin_is ∙ sym (summed_next total_number run a);
        largest_is = added.largest_is ∙ (λ i. cond (lead i) (is.margin_is i) (so_far.largest_is i)) ∙ sym l.largest_is;
        place_is = added.place_is ∙ (λ i. cond (lead i) (length run) (so_far.place_is i)) ∙ sym l.place_is;
        credits_are =
            added.credits_are
            ∙ ap₂ ◌+◌ so_far.credits_are is.credit_is
            ∙ sym (summed_next (λ numbers. one_if (had_credit numbers)) run a);
        above_is = added.above_is ∙ ap₂ ◌+◌ so_far.above_is is.above_is ∙ sym (summed_next above_risk run a);
      }

  either_most : (b : Bool) (x y most : ℕ) → x ≤ most → y ≤ most → cond b x y ≤ most
  either_most true x y most h g = h
  either_most false x y most h g = g

  refusal_most : (n : ℕ) → Within n s → (k : ℕ) → get_or t.refusals k 0 ≤ suc n
  refusal_most n w k = go (dec_lt k 15)
    where
      go : Dec (k < 15) → get_or t.refusals k 0 ≤ suc n
      go (yes h) =
          let e = added.refusals_are.each k h in
          let m = w.refusals_most k in
          let o = one_at_most (eqb r.refusal (suc k)) in
          omega arith
      go (no h) =
          let long = added.refusals_are.as_many in
          let e = get_or-eq_default t.refusals 0 {n = k} (omega (arith, h, long)) in
          omega arith

  pub within_next : (n : ℕ) → length run ≡ n → Within n s → Within (suc n) t
  within_next n e w =
      let m = is.margin_most in
      let c = is.credit_most in
      let b = is.above_most in
      record {
        accepted_most = let h = w.accepted_most in let x = added.accepted_is in let o = one_at_most (eqb r.refusal 0) in omega arith;
        refused_most = let h = w.refused_most in let x = added.refused_is in let o = one_at_most (not (eqb r.refusal 0)) in omega arith;
        refusals_most = refusal_most n w;
        margin_most = let h = w.margin_most in let x = added.margin_is in omega arith;
        largest_most =
            let x = added.largest_is in
            let h = either_most (leads s r) r.margin.0 s.largest.0 most_total m w.largest_most in
            omega arith;
        place_most =
            let x = added.place_is in
            let g = w.place_most in
            let h = either_most (leads s r) (length run) s.place (suc n) (omega arith) (omega arith) in
            omega arith;
        credits_most = let h = w.credits_most in let x = added.credits_are in omega arith;
        above_most = let h = w.above_most in let x = added.above_is in omega arith;
      }

-- ---- nothing yet
pub within_none : (s : Sums) → SumsOf [] s → Within 0 s
within_none s is = record {
  accepted_most = let e = is.accepted_is in omega arith;
  refused_most = let e = is.refused_is in omega arith;
  refusals_most = λ k. go k (dec_lt k 15);
  margin_most = let e = is.margin_is in omega arith;
  largest_most = let e = is.largest_is in omega arith;
  place_most = let e = is.place_is in omega arith;
  credits_most = let e = is.credits_are in omega arith;
  above_most = let e = is.above_is in omega arith;
}
  where
    go : (k : ℕ) → Dec (k < 15) → get_or s.refusals k 0 ≤ 0
    go k (yes h) = let e = is.refusals_are k h in omega arith
    go k (no h) =
        let long = is.refusals_long in
        let e = get_or-eq_default s.refusals 0 {n = k} (omega (arith, h, long)) in
        omega arith

-- within what more accounts can come to
pub wider : (n m : ℕ) (s : Sums) → n ≤ m → Within n s → Within m s
wider n m s h w = record {
  accepted_most = let x = w.accepted_most in omega arith;
  refused_most = let x = w.refused_most in omega arith;
  refusals_most = λ k. let x = w.refusals_most k in omega arith;
  margin_most = let x = w.margin_most in omega arith;
  largest_most = w.largest_most;
  place_most = let x = w.place_most in omega arith;
  credits_most = let x = w.credits_most in omega arith;
  above_most = let x = w.above_most in omega arith;
}

-- ---- the numbers of the sums are the committee's
counted_from : (a n k : ℕ) → k < n → get_or (count_from a n) k 0 ≡ a + k
counted_from a zero k h = absurd (omega arith)
counted_from a (suc n) zero h = omega arith
counted_from a (suc n) (suc k) h = let rest = counted_from (a + 1) n k (omega arith) in omega arith

fifteen : (run : List Answered) (k : ℕ) → k < 15 → get_or (refusal_counts run) k 0 ≡ refusal_count run (suc k)
fifteen run k h =
    let more : 1 + k ≡ suc k = omega arith in
    get_d_map (refusal_count run) (count_from 1 15) k 0 0 h ∙ ap (refusal_count run) (counted_from 1 15 k h ∙ more)

pub numbers_are : (run : List Answered) (s : Sums) → SumsOf run s → sums_numbers s ≡ committee run
numbers_are run s is =
    let long = is.refusals_long in
    let refusals : s.refusals ≡ refusal_counts run =
    ext_get_or 0 s.refusals (refusal_counts run) long (λ k h. is.refusals_are k (omega arith) ∙ sym (fifteen run k (omega arith)))
    in
    λ i.
    is.accepted_is i
    ∷ is.refused_is i
    ∷ (refusals i
    ++ (is.margin_is i
    ∷ is.largest_is i
    ∷ is.place_is i
    ∷ is.credits_are i
    ∷ is.above_is i
    ∷ cond (eqb (is.accepted_is i) 0) 0 (is.margin_is i / is.accepted_is i)
    ∷ cond (eqb (is.accepted_is i) 0) 0 (is.margin_is i % is.accepted_is i)
    ∷ []))

-- ---- while the accounts are gone over: those before i are summed, and the bytes of the others begin at `at`
module _ (bytes lengths : List ℕ) where
  pub record Going (s : Sums) (at i : ℕ) : Type 0 where
    pub done : List Answered
    pub whole : answered_run bytes lengths ≡ done ++ answered_run (drop at bytes) (drop i lengths)
    pub as_many : length done ≡ i
    pub so_far : SumsOf done s
    pub small : Within i s
    pub begins : at + sum (drop i lengths) ≡ length bytes
    pub within : i ≤ length lengths

  pub begin : (s : Sums) → SumsOf [] s → sum lengths ≡ length bytes → Going s 0 0
  begin s is e = record {
    done = [];
    whole = refl;
    as_many = refl;
    so_far = is;
    small = within_none s is;
    begins = omega arith;
    within = zero-le;
  }

  module _ (s : Sums) (at i : ℕ) (g : Going s at i) (h : i < length lengths) where
    abbrev account : List ℕ
    account = take (get_or lengths i 0) (drop at bytes)

    -- the account stands within the bytes
    pub ends : at + get_or lengths i 0 ≤ length bytes
    ends = let b = g.begins in let n = sum_next lengths i h in omega arith

    pub go_on : (r : Account) (t : Sums) → AccountOf (answered_account account) r → AccountAdded s r i t → Going t (at + get_or lengths i 0) (suc i)
    go_on r t is added =
        let done = g.done in
        let placed = subst⁻¹ (λ (k : ℕ). AccountAdded s r k t) g.as_many added in
        let later = answered_run (drop (at + get_or lengths i 0) bytes) (drop (suc i) lengths) in
        let b = g.begins in
        let n = sum_next lengths i h in
        record {
          done = done ++ (answered_account account ∷ []);
          whole =
              g.whole
              ∙ ap (λ (accounts : List (List ℕ)). done ++ map answered_account accounts) (accounts_next lengths bytes i at h)
              ∙ sym (append_assoc done (answered_account account ∷ []) later);
          as_many = let l = length-append done (answered_account account ∷ []) in let m = g.as_many in omega arith;
          so_far = sums_next done (answered_account account) s t r is placed g.so_far;
          small = within_next done (answered_account account) s t r is placed i g.as_many g.small;
          begins = omega arith;
          within = h;
        }

  -- all of them
  pub end : (s : Sums) (at i : ℕ) → Going s at i → length lengths ≤ i → sums_numbers s ≡ committee (answered_run bytes lengths)
  end s at i g h =
      let none : answered_run (drop at bytes) (drop i lengths) ≡ [] =
      ap (λ (ns : List ℕ). answered_run (drop at bytes) ns) (drop_of_length-le lengths h)
      in
      let all : answered_run bytes lengths ≡ g.done = g.whole ∙ ap (λ (rest : List Answered). g.done ++ rest) none ∙ append-nil g.done in
      numbers_are g.done s g.so_far ∙ ap committee (sym all)

-- ---- the answer, by cases
module _ (bytes lengths : List ℕ) (out : List ℤ) where
  abbrev answer : Answer
  answer = committee_answer bytes lengths (length out)

  abbrev cased : Bool → Bool → Bool → Answer
  cased many same few = cond many (Err TooManyAccounts) (cond (not same) (Err LengthsDiffer) (cond few (Err (TooFewNumbers 0)) (Ok tt)))

  pub record Told (r : Answer) (out' : List ℤ) : Type 0 where
    pub is : r ≡ answer
    pub out_is : out' ≡ after_committee bytes lengths out

  abbrev numbers : List ℤ
  numbers = map pos (committee (answered_run bytes lengths)) ++ drop committee_numbers out

  told : (r : Answer) (out' : List ℤ) → answer ≡ r → out' ≡ cond (eqb (number_of r) 0) numbers out → Told r out'
  told r out' e f = record { is = sym e; out_is = f ∙ sym (ap (λ (a : Answer). cond (eqb (number_of a) 0) numbers out) e) }

  pub many : most_accounts < length lengths → Told (Err TooManyAccounts) out
  many h =
      told (Err TooManyAccounts) out
      (ap (λ (t : Bool). cased t (eqb (sum lengths) (length bytes)) (ltb (length out) committee_numbers)) (lt-ltb most_accounts (length lengths) h)) refl

  module _ (few : length lengths ≤ most_accounts) where
    not_many : ltb most_accounts (length lengths) ≡ false
    not_many = le-ltb most_accounts (length lengths) few

    pub differ : eqb (sum lengths) (length bytes) ≡ false → Told (Err LengthsDiffer) out
    differ e = told (Err LengthsDiffer) out (ap₂ (λ (t u : Bool). cased t u (ltb (length out) committee_numbers)) not_many e) refl

    module _ (same : eqb (sum lengths) (length bytes) ≡ true) where
      by_room : (v : Bool) → ltb (length out) committee_numbers ≡ v → answer ≡ cased false true v
      by_room v e = ap₂ (λ (t u : Bool). cased t u (ltb (length out) committee_numbers)) not_many same ∙ ap (cased false true) e

      pub lacking : length out < committee_numbers → Told (Err (TooFewNumbers 0)) out
      lacking h = told (Err (TooFewNumbers 0)) out (by_room true (lt-ltb (length out) committee_numbers h)) refl

      pub all : committee_numbers ≤ length out → (out' : List ℤ) → out' ≡ numbers → Told (Ok tt) out'
      all h out' e = told (Ok tt) out' (by_room false (le-ltb (length out) committee_numbers h)) e
