-- The verdict on a pair of files, and the joined account of a pair that is not refused.
-- Assumes nothing.
use Rattle.std.specs.Prelude.{Ok, Err}
use Prim.Native.Nat.{ℕ, zero, suc, ◌+◌, ◌≤◌, ◌<◌}
use native.Mathlib.Omega.{arith}
use mathlib.Core.Path.{◌≡◌, refl, sym, ap, ap₂, ◌∙◌, subst, subst₂}
use mathlib.Core.Bool.{Bool, true, false, not, ◌&&◌, ◌||◌, cond, false≢true, not-not}
use mathlib.Core.List.{List, [], ◌∷◌, ◌++◌, append_assoc}
use borrow.Author.Tests.{ne_eqb, eq-eqb, eqb-true, lt-ltb, le-ltb, ltb-false}
use lib.Dec.{eqb, ltb}
use lib.ListN.{length, get_or}
use Rattle.exact.specs.Lists.{any, count}
use Rattle.record.specs.Layout.{Record, kind}
use Rattle.record.proofs.Within.{neither}
use Rattle.account.specs.Accepted.{Each, listed}
use Rattle.account.specs.Answers.{number_of}
use Rattle.account.specs.Check.{records_checked, most_records, most_contracts}
use Rattle.account.specs.Checked.{rates_checked}
use Rattle.account.specs.Conversions.{other_row}
use Rattle.account.specs.Joined.{joined_of, from_morning, account_of}
use Rattle.account.specs.Lawful.{Recorded, Lawful}
use Rattle.account.specs.Noon.{of_joined, of_morning, of_noon, clear, ◌then◌, mornings_own, no_spread, few_joined, records_verdict, joined_verdict, nowhere}
use Rattle.account.specs.Noon.{place_in, prompt_place}
use Rattle.account.specs.code.Pair.{noon_spread, verdict_by, PairBy, place_by}
use Rattle.account.specs.PartNumbers.{part, in_part, of_accepted, entry_part, rate_part, parts}
use Rattle.account.specs.Parts.{of_kind, of_contract, place_of, start_of, entries_of, rates_of}
use Rattle.account.specs.Records.{records}
use Rattle.account.specs.code.Standing.{JoinedBy, Places, Stands}
use Rattle.account.specs.code.Surveyed.{Surveyed}
use Rattle.account.specs.Answers.{Answer}
use Rattle.account.specs.declared.answers.Refusal.TheVariants.{NoonSpread, TooManyJoined}
use Rattle.account.specs.declared.check.Survey.{Survey}
use Rattle.account.specs.declared.accounts.Account.{Account}
use Rattle.account.specs.declared.noon.Place.{Place}
use Rattle.account.specs.declared.noon.Verdict.{Verdict}
pub use Rattle.account.proofs.AcceptedOnly.{accepted_only}
use Rattle.account.proofs.AcceptedOnly.{some}
use Rattle.account.proofs.Every.{every_append, every_weaker, every-none}
use Rattle.account.proofs.Going.{same_survey, unconverted}
use Rattle.account.proofs.JoinedLaws.{every-joined, joined_recorded, joined-kind, entries_kind, rates_kind, joined_alone}
use Rattle.account.proofs.Lawful.{recorded}
use Rattle.account.proofs.RateLaws.{lawful_of, no_other_row}
use Rattle.account.proofs.Lists.{none_counted}
use Rattle.account.proofs.Noted.{part_is}
use Rattle.account.proofs.Places.{records_are, places}

pub stops : (v next : Verdict) → (number_of v.answer ≡ 0 → ⊥) → v then next ≡ v
stops v next h = ap (λ (t : Bool). cond t next v) (ne_eqb (number_of v.answer) 0 h)

pub goes : (v next : Verdict) → number_of v.answer ≡ 0 → v then next ≡ next
goes v next z = ap (λ (t : Bool). cond t next v) (eq-eqb (number_of v.answer) 0 z)

-- what a verdict that is clear says of its parts
pub clear_first : (v next : Verdict) → clear (v then next) ≡ true → (clear v ≡ true) × (clear next ≡ true)
clear_first v next c = go (clear v) refl
  where
    go : (t : Bool) → clear v ≡ t → (clear v ≡ true) × (clear next ≡ true)
    go true e = (e, ap clear (sym (ap (λ (t : Bool). cond t next v) e)) ∙ c)
    go false e = absurd (false≢true (sym e ∙ ap clear (sym (ap (λ (t : Bool). cond t next v) e)) ∙ c))

-- what a pair whose records are accepted is known to be
module _ (morning noon : List ℕ) (c : clear (records_verdict morning noon) ≡ true) where
  past_first : clear (of_noon (records_checked noon) then of_noon (no_spread noon) then of_joined (few_joined (length (account_of morning noon)))) ≡ true
  past_first = (clear_first (of_morning (records_checked morning)) _ c).1

  past_second : clear (of_noon (no_spread noon) then of_joined (few_joined (length (account_of morning noon)))) ≡ true
  past_second = (clear_first (of_noon (records_checked noon)) _ past_first).1

  pub morning_recorded : records_checked morning ≡ Ok tt
  morning_recorded = accepted_only (records_checked morning) (eqb-true _ _ (clear_first (of_morning (records_checked morning)) _ c).0)

  pub noon_recorded : records_checked noon ≡ Ok tt
  noon_recorded = accepted_only (records_checked noon) (eqb-true _ _ (clear_first (of_noon (records_checked noon)) _ past_first).0)

  few : length (account_of morning noon) ≤ most_records
  few = go (ltb most_records (length (account_of morning noon))) refl (clear_first (of_noon (no_spread noon)) _ past_second).1
    where
      go : (t : Bool) → ltb most_records (length (account_of morning noon)) ≡ t
          → clear (of_joined (cond (ltb most_records (length (account_of morning noon))) (Err (TooManyJoined (length (account_of morning noon)))) (Ok tt))) ≡ true
          → length (account_of morning noon) ≤ most_records
      go true e z =
          absurd (false≢true (ap (λ (t : Bool). clear (of_joined (cond t (Err (TooManyJoined (length (account_of morning noon)))) (Ok tt)))) (sym e) ∙ z))
      go false e z = ltb-false most_records (length (account_of morning noon)) e

  pub records_accepted : records_verdict morning noon ≡ of_joined (Ok tt)
  records_accepted =
      let three = clear_first (of_noon (no_spread noon)) _ past_second in
      goes (of_morning (records_checked morning)) _ (ap number_of morning_recorded)
      ∙ goes (of_noon (records_checked noon)) _ (ap number_of noon_recorded)
      ∙ goes (of_noon (no_spread noon)) _ (eqb-true _ _ three.0)
      ∙ ap of_joined (accepted_only _ (eqb-true _ _ three.1))

  pub pair_recorded : Recorded (account_of morning noon)
  pair_recorded = joined_recorded (records morning) (records noon) (recorded morning morning_recorded) (recorded noon noon_recorded) few

-- a pair that is not refused is accepted, as a joined account
module _ (morning noon : List ℕ) (c : clear (joined_verdict morning noon) ≡ true) where
  both_clear : (clear (records_verdict morning noon) ≡ true) × (clear (of_joined (rates_checked (account_of morning noon))) ≡ true)
  both_clear = clear_first (records_verdict morning noon) (of_joined (rates_checked (account_of morning noon))) c

  pub pair_passed : clear (records_verdict morning noon) ≡ true
  pair_passed = both_clear.0

  pub pair_rated : rates_checked (account_of morning noon) ≡ Ok tt
  pair_rated = accepted_only (rates_checked (account_of morning noon)) (eqb-true _ _ both_clear.1)

  pub joined_accepted : joined_verdict morning noon ≡ of_joined (Ok tt)
  joined_accepted =
      goes (records_verdict morning noon) _ (eqb-true _ _ pair_passed) ∙ ap of_joined pair_rated

  pub morning_accepted : records_checked morning ≡ Ok tt
  morning_accepted = morning_recorded morning noon pair_passed

  pub noon_accepted : records_checked noon ≡ Ok tt
  noon_accepted = noon_recorded morning noon pair_passed

  pub pair_lawful : Lawful (account_of morning noon)
  pair_lawful = lawful_of (account_of morning noon) (pair_recorded morning noon pair_passed) pair_rated

-- ---- kinds 5 and 6 of a noon file: those of kind 5 come first
module _ (p : Record → Bool) where
  place_after : (a b : List Record) → Each (λ r. p r ≡ false) a → place_of p (a ++ b) ≡ length a + place_of p b
  place_after [] b h = omega arith
  place_after (r ∷ a) b h = ap (λ (t : Bool). cond t 0 (place_of p (a ++ b) + 1)) h.0 ∙ omega (arith, place_after a b h.1)

  place_here : (r : Record) (b : List Record) → p r ≡ true → place_of p (r ∷ b) ≡ 0
  place_here r b e = ap (λ (t : Bool). cond t 0 (place_of p b + 1)) e

  any_after : (a b : List Record) → Each (λ r. p r ≡ false) a → any p (a ++ b) ≡ any p b
  any_after [] b h = refl
  any_after (r ∷ a) b h = ap (λ (t : Bool). t || any p (a ++ b)) h.0 ∙ any_after a b h.1

-- what the counts and the places of kinds 5 and 6 say
abbrev by_counts : List Record → Answer
by_counts rs =
    cond (eqb (count (of_kind 5) rs) 0)
    (cond (eqb (count (of_kind 6) rs) 0) (Ok tt) (Err (NoonSpread (start_of (of_kind 6) rs))))
    (Err (NoonSpread (start_of (of_kind 5) rs)))

module _ (rs : List Record) where
  counted_5 : any (of_kind 5) rs ≡ true → by_counts rs ≡ (Err (NoonSpread (place_of (of_kind 5) rs)))
  counted_5 e = rw (none_counted (of_kind 5) rs ∙ ap not e)

  counted_6 : any (of_kind 5) rs ≡ false → any (of_kind 6) rs ≡ true → by_counts rs ≡ (Err (NoonSpread (place_of (of_kind 6) rs)))
  counted_6 e f = rw (none_counted (of_kind 5) rs ∙ ap not e, none_counted (of_kind 6) rs ∙ ap not f)

  counted_none : any (of_kind 5) rs ≡ false → any (of_kind 6) rs ≡ false → by_counts rs ≡ Ok tt
  counted_none e f = rw (none_counted (of_kind 5) rs ∙ ap not e, none_counted (of_kind 6) rs ∙ ap not f)

  own_some : any mornings_own rs ≡ true → cond {A = Answer} (any mornings_own rs) (Err (NoonSpread (place_of mornings_own rs))) (Ok tt) ≡ (Err (NoonSpread (place_of mornings_own rs)))
  own_some e = rw e

  own_none : any mornings_own rs ≡ false → cond {A = Answer} (any mornings_own rs) (Err (NoonSpread (place_of mornings_own rs))) (Ok tt) ≡ Ok tt
  own_none e = rw e

own_is : (r : Record) → (s t : Bool) → of_kind 5 r ≡ s → of_kind 6 r ≡ t → mornings_own r ≡ s || t
own_is r s t e f = rw (e, f)

none_any : (p : Record → Bool) (rs : List Record) → Each (λ r. p r ≡ false) rs → any p rs ≡ false
none_any p [] h = refl
none_any p (r ∷ rs) h = ap (λ (t : Bool). t || any p rs) h.0 ∙ none_any p rs h.1

-- records of other kinds, then those of kind 5, then those of kind 6
module _ (a : List Record) (others : Each (λ r. kind r ≤ 4) a) where
  before : (k : ℕ) → 5 ≤ k → Each (λ r. of_kind k r ≡ false) a
  before k h = every_weaker a (λ r e. ne_eqb (kind r) k (λ z. omega arith)) others

  no_own : Each (λ r. mornings_own r ≡ false) a
  no_own = every_weaker a
      (λ r e. own_is r false false (ne_eqb (kind r) 5 (λ z. omega arith)) (ne_eqb (kind r) 6 (λ z. omega arith))) others

  -- the first after them passes a test
  any_first : (p : Record → Bool) → Each (λ r. p r ≡ false) a → (r : Record) (b : List Record) → p r ≡ true → any p (a ++ r ∷ b) ≡ true
  any_first p off r b e = any_after p a (r ∷ b) off ∙ ap (λ (t : Bool). t || any p b) e

  place_first : (p : Record → Bool) → Each (λ r. p r ≡ false) a → (r : Record) (b : List Record) → p r ≡ true → place_of p (a ++ r ∷ b) ≡ length a + 0
  place_first p off r b e = place_after p a (r ∷ b) off ∙ ap (λ (k : ℕ). length a + k) (place_here p r b e)

  by_kinds : (es rs : List Record) → Each (λ r. kind r ≡ 5) es → Each (λ r. kind r ≡ 6) rs
      → by_counts (a ++ (es ++ rs)) ≡ cond (any mornings_own (a ++ (es ++ rs))) (Err (NoonSpread (place_of mornings_own (a ++ (es ++ rs))))) (Ok tt)
  by_kinds (e ∷ es) rs fives sixes =
      let b = es ++ rs in
      let five = eq-eqb (kind e) 5 fives.0 in
      let own : mornings_own e ≡ true = ap (λ (t : Bool). t || of_kind 6 e) five in
      counted_5 (a ++ e ∷ b) (any_first (of_kind 5) (before 5 (omega arith)) e b five)
      ∙ ap (λ (n : ℕ). Err (NoonSpread n)) (place_first (of_kind 5) (before 5 (omega arith)) e b five ∙ sym (place_first mornings_own no_own e b own))
      ∙ sym (own_some (a ++ e ∷ b) (any_first mornings_own no_own e b own))
  by_kinds [] (r ∷ rs) fives sixes =
      let six = eq-eqb (kind r) 6 sixes.0 in
      let k = sixes.0 in
      let own : mornings_own r ≡ true = own_is r false true (ne_eqb (kind r) 5 (λ z. omega arith)) six in
      let none : any (of_kind 5) (r ∷ rs) ≡ false = none_any (of_kind 5) (r ∷ rs) (every_weaker (r ∷ rs) (λ x e. ne_eqb (kind x) 5 (λ z. omega arith)) sixes) in
      counted_6 (a ++ r ∷ rs) (any_after (of_kind 5) a (r ∷ rs) (before 5 (omega arith)) ∙ none) (any_first (of_kind 6) (before 6 (omega arith)) r rs six)
      ∙ ap (λ (n : ℕ). Err (NoonSpread n)) (place_first (of_kind 6) (before 6 (omega arith)) r rs six ∙ sym (place_first mornings_own no_own r rs own))
      ∙ sym (own_some (a ++ r ∷ rs) (any_first mornings_own no_own r rs own))
  by_kinds [] [] fives sixes =
      counted_none (a ++ []) (any_after (of_kind 5) a [] (before 5 (omega arith))) (any_after (of_kind 6) a [] (before 6 (omega arith)))
      ∙ sym (own_none (a ++ []) (any_after mornings_own a [] no_own))

-- 12 by what the check handed out of an accepted noon file
module _ (noon : List ℕ) (n : Survey) (sn : Surveyed noon n) (okn : records_checked noon ≡ Ok tt) where
  abbrev rs : List Record
  rs = records noon

  abbrev of : ℕ → List Record
  of k = joined_of rs [] k

  apart : ((of 1 ++ of 2) ++ of 3) ++ of 4 ++ from_morning rs ≡ rs
  apart =
      append_assoc ((of 1 ++ of 2) ++ of 3) (of 4) (from_morning rs)
      ∙ append_assoc (of 1 ++ of 2) (of 3) (of 4 ++ from_morning rs)
      ∙ append_assoc (of 1) (of 2) (of 3 ++ (of 4 ++ from_morning rs))
      ∙ joined_alone noon okn

  first_four : Each (λ r. kind r ≤ 4) (((of 1 ++ of 2) ++ of 3) ++ of 4)
  first_four =
      let low : (k : ℕ) → k ≤ 4 → Each (λ r. kind r ≤ 4) (of k) = λ k h. every_weaker (of k) (λ r e. omega arith) (joined-kind rs [] k) in
      every_append (λ r. kind r ≤ 4) ((of 1 ++ of 2) ++ of 3) (of 4)
      (every_append (λ r. kind r ≤ 4) (of 1 ++ of 2) (of 3)
      (every_append (λ r. kind r ≤ 4) (of 1) (of 2) (low 1 (omega arith)) (low 2 (omega arith))) (low 3 (omega arith)))
      (low 4 (omega arith))

  spread_is : noon_spread n ≡ no_spread noon
  spread_is =
      ap₂ (λ (x y : ℕ). cond (eqb x 0) (cond (eqb (get_or n.counts rate_part 0) 0) (Ok tt) (Err (NoonSpread (get_or n.first rate_part 0)))) (Err (NoonSpread y)))
      (counts entry_part (omega arith)) (begins entry_part (omega arith))
      ∙ ap₂ (λ (x y : ℕ). cond (eqb (count (of_kind 5) rs) 0) (cond (eqb x 0) (Ok tt) (Err (NoonSpread y))) (Err (NoonSpread (start_of (of_kind 5) rs))))
      (counts rate_part (omega arith)) (begins rate_part (omega arith))
      ∙ subst (λ (xs : List Record). by_counts xs ≡ cond (any mornings_own xs) (Err (NoonSpread (place_of mornings_own xs))) (Ok tt)) apart
      (by_kinds (((of 1 ++ of 2) ++ of 3) ++ of 4) first_four (entries_of rs) (rates_of rs) (entries_kind rs []) (rates_kind rs []))
    where
      counts : (v : ℕ) → v < parts → get_or n.counts v 0 ≡ count (in_part v) rs
      counts v h = sn.counts v h ∙ ap (λ (a : Answer). of_accepted a (count (in_part v) rs)) okn

      begins : (v : ℕ) → v < parts → get_or n.first v 0 ≡ start_of (in_part v) rs
      begins v h = sn.first v h ∙ ap (λ (a : Answer). of_accepted a (start_of (in_part v) rs)) okn

module _ (morning noon : List ℕ) (m n : Survey) (j : Account) (sm : Surveyed morning m) (sn : Surveyed noon n) (by : JoinedBy m n j) where
  rest : Verdict
  rest = of_noon (no_spread noon) then of_joined (few_joined (length (account_of morning noon)))

  rest_by : Verdict
  rest_by = of_noon (noon_spread n) then of_joined (few_joined j.records)

  -- both files accepted
  rest_is : records_checked morning ≡ Ok tt → records_checked noon ≡ Ok tt → rest_by ≡ rest
  unfolding rest rest_by
  rest_is okm okn =
      ap₂ (λ (a : Answer) (k : ℕ). of_noon a then of_joined (few_joined k)) (spread_is noon n sn okn) (records_are morning noon m n j sm sn okm okn by)

  pub records_verdict_lem : verdict_by m n j.records ≡ records_verdict morning noon
  unfolding rest rest_by
  records_verdict_lem =
      ap₂ (λ (a b : Answer). of_morning a then of_noon b then rest_by) sm.answer sn.answer
      ∙ first (number_of (records_checked morning)) refl
    where
      second : (k : ℕ) → number_of (records_checked noon) ≡ k → records_checked morning ≡ Ok tt → of_noon (records_checked noon) then rest_by ≡ of_noon
          (records_checked noon) then rest
      second zero e okm = ap (λ (v : Verdict). of_noon (records_checked noon) then v) (rest_is okm (accepted_only (records_checked noon) e))
      second (suc k) e okm =
          let h : number_of (records_checked noon) ≡ 0 → ⊥ = λ z. some (sym e ∙ z) in
          stops (of_noon (records_checked noon)) rest_by h ∙ sym (stops (of_noon (records_checked noon)) rest h)

      first : (k : ℕ) → number_of (records_checked morning) ≡ k → of_morning (records_checked morning) then of_noon
          (records_checked noon) then rest_by ≡ of_morning (records_checked morning) then of_noon (records_checked noon) then rest
      first zero e = ap (λ (v : Verdict). of_morning (records_checked morning) then v)
          (second (number_of (records_checked noon)) refl (accepted_only (records_checked morning) e))
      first (suc k) e =
          let h : number_of (records_checked morning) ≡ 0 → ⊥ = λ z. some (sym e ∙ z) in
          stops (of_morning (records_checked morning)) (of_noon (records_checked noon) then rest_by) h
          ∙ sym (stops (of_morning (records_checked morning)) (of_noon (records_checked noon) then rest) h)

  pair_places : clear (records_verdict morning noon) ≡ true → Places morning noon j
  pair_places c =
      places morning noon m n j sm sn (morning_recorded morning noon c) (noon_recorded morning noon c) by (pair_recorded morning noon c)

  pair_stands : clear (joined_verdict morning noon) ≡ true → Stands morning noon j
  pair_stands c =
      record { lawful = pair_lawful morning noon c; places = pair_places (pair_passed morning noon c) }

  -- the verdict on the records, and on the rates where that is clear
  pub verdict_stops : (v : Verdict) → v ≡ verdict_by m n j.records → (number_of v.answer ≡ 0 → ⊥) → v ≡ joined_verdict morning noon
  verdict_stops v e d =
      let same = e ∙ records_verdict_lem in
      same ∙ sym (stops (records_verdict morning noon) _ (λ z. d (ap (λ (w : Verdict). number_of w.answer) same ∙ z)))

  module _ (v : Verdict) (e : v ≡ verdict_by m n j.records) (z : number_of v.answer ≡ 0) where
    none_yet : number_of (records_verdict morning noon).answer ≡ 0
    none_yet = ap (λ (w : Verdict). number_of w.answer) (sym (e ∙ records_verdict_lem)) ∙ z

    pub verdict_clear : Places morning noon j × Recorded (account_of morning noon)
    verdict_clear =
        let c = eq-eqb _ _ none_yet in
        (pair_places c, pair_recorded morning noon c)

    pub verdict_goes : (a : Answer) → a ≡ rates_checked (account_of morning noon) → of_joined a ≡ joined_verdict morning noon
    verdict_goes a is = ap of_joined is ∙ sym (goes (records_verdict morning noon) _ none_yet)

    -- neither file has a row in another currency
    pub verdict_ends : m.converts || n.converts ≡ false → of_joined (Ok tt) ≡ joined_verdict morning noon
    verdict_ends e =
        let c = eq-eqb _ _ none_yet in
        let off = neither m.converts n.converts e in
        let account = account_of morning noon in
        verdict_goes (Ok tt) (sym (no_other_row (rates_of account) 0 account
        (none_any other_row account
        (every-joined (records morning) (records noon) (λ r. other_row r ≡ false)
        (every-none other_row (records morning) (unconverted morning m sm (morning_recorded morning noon c) off.0))
        (every-none other_row (records noon) (unconverted noon n sn (noon_recorded morning noon c) off.1))))))

  pub checked_by : (v : Verdict) → v ≡ joined_verdict morning noon → PairBy morning noon (record { verdict = v; account = j })
  checked_by v e =
      record {
        verdict_is = e;
        joined_by = λ m' n' sm' sn'. subst₂ (λ (x y : Survey). JoinedBy x y j) (same_survey morning m m' sm sm') (same_survey noon n n' sn sn') by;
        stands = pair_stands;
      }

-- ---- where a contract's prompts stand

by_survey : (k : ℕ) (file : List ℕ) (s : Survey) (c : ℕ) → Surveyed file s → c < most_contracts → place_by k s c ≡ place_in k file c
by_survey k file s c sv h =
    λ i. record { file = k; first = sv.first (part 2 c) (omega arith) i; records = sv.counts (part 2 c) (omega arith) i }

-- whether a file lists a contract, by its survey
own_listed : (file : List ℕ) (s : Survey) (c : ℕ) → Surveyed file s → records_checked file ≡ Ok tt → c < most_contracts
    → not (eqb (get_or s.counts (part 1 c) 0) 0) ≡ listed c (records file)
own_listed file s c sv ok h =
    ap (λ (x : ℕ). not (eqb x 0))
    (sv.counts (part 1 c) (omega arith)
    ∙ ap (λ (a : Answer). of_accepted a (count (in_part (part 1 c)) (records file))) ok
    ∙ ap (λ (p : Record → Bool). count p (records file)) (part_is 1 c (omega arith) (omega arith)))
    ∙ ap not (none_counted (of_contract 1 c) (records file))
    ∙ not-not (any (of_contract 1 c) (records file))

-- both files checked, joined, and the verdict on them
pub record Joining (morning noon : List ℕ) : Type 0 where
  pub first : Survey
  pub second : Survey
  pub account : Account
  pub first_is : Surveyed morning first
  pub second_is : Surveyed noon second
  pub joined_by : JoinedBy first second account
  pub verdict : Verdict
  pub verdict_is : verdict ≡ joined_verdict morning noon

module _ (morning noon : List ℕ) (known : Joining morning noon) (c : ℕ) where
  abbrev m : Survey
  m = known.first

  abbrev n : Survey
  n = known.second

  abbrev v : Verdict
  v = known.verdict

  abbrev there : Place
  there = cond (listed c (records noon)) (place_in 2 noon c) (cond (listed c (records morning)) (place_in 1 morning c) nowhere)

  its : v ≡ joined_verdict morning noon
  its = known.verdict_is

  pub place_refused : (number_of v.answer ≡ 0 → ⊥) → prompt_place morning noon c ≡ nowhere
  place_refused h =
      ap (λ (t : Bool). cond (t && ltb c most_contracts) there nowhere)
      (ne_eqb (number_of (joined_verdict morning noon).answer) 0 (λ z. h (ap (λ (w : Verdict). number_of w.answer) its ∙ z)))

  pub place-beyond : most_contracts ≤ c → prompt_place morning noon c ≡ nowhere
  place-beyond h = go (clear (joined_verdict morning noon))
    where
      go : (t : Bool) → cond (t && ltb c most_contracts) there nowhere ≡ nowhere
      go true = ap (λ (u : Bool). cond u there nowhere) (le-ltb c most_contracts h)
      go false = refl

  module _ (z : number_of v.answer ≡ 0) (h : c < most_contracts) where
    unrefused : clear (joined_verdict morning noon) ≡ true
    unrefused = eq-eqb (number_of (joined_verdict morning noon).answer) 0 (ap (λ (w : Verdict). number_of w.answer) (sym its) ∙ z)

    place_there : prompt_place morning noon c ≡ there
    place_there =
        ap (λ (t : Bool). cond (t && ltb c most_contracts) there nowhere) unrefused
        ∙ ap (λ (u : Bool). cond u there nowhere) (lt-ltb c most_contracts h)

    pub place_noon : (get_or n.counts (part 1 c) 0 ≡ 0 → ⊥) → place_by 2 n c ≡ prompt_place morning noon c
    place_noon s =
        by_survey 2 noon n c known.second_is h
        ∙ sym (place_there ∙ ap (λ (t : Bool). cond t (place_in 2 noon c) (cond (listed c (records morning)) (place_in 1 morning c) nowhere))
        (sym (own_listed noon n c known.second_is (noon_accepted morning noon unrefused) h) ∙ ap not (ne_eqb _ 0 s)))

    module _ (s : get_or n.counts (part 1 c) 0 ≡ 0) where
      place_else : prompt_place morning noon c ≡ cond (listed c (records morning)) (place_in 1 morning c) nowhere
      place_else =
          place_there ∙ ap (λ (t : Bool). cond t (place_in 2 noon c) (cond (listed c (records morning)) (place_in 1 morning c) nowhere))
          (sym (own_listed noon n c known.second_is (noon_accepted morning noon unrefused) h) ∙ ap not (eq-eqb _ 0 s))

      abbrev ours : not (eqb (get_or m.counts (part 1 c) 0) 0) ≡ listed c (records morning)
      ours = own_listed morning m c known.first_is (morning_accepted morning noon unrefused) h

      pub place_morning : (get_or m.counts (part 1 c) 0 ≡ 0 → ⊥) → place_by 1 m c ≡ prompt_place morning noon c
      place_morning k =
          by_survey 1 morning m c known.first_is h
          ∙ sym (place_else ∙ ap (λ (t : Bool). cond t (place_in 1 morning c) nowhere) (sym ours ∙ ap not (ne_eqb _ 0 k)))

      pub place-nowhere : get_or m.counts (part 1 c) 0 ≡ 0 → prompt_place morning noon c ≡ nowhere
      place-nowhere k = place_else ∙ ap (λ (t : Bool). cond t (place_in 1 morning c) nowhere) (sym ours ∙ ap not (eq-eqb _ 0 k))
