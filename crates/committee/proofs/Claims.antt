-- The claims about the committee's figures, for any bytes, lengths and lent numbers.
-- Assumes nothing.
use Rattle.std.specs.Prelude.{Ok, Err}
use Prim.Native.Nat.{ℕ, zero, suc, ◌+◌, ◌*◌, ◌/◌, ◌%◌, ◌≤◌, ◌<◌, ◌^◌, zero-le}
use native.Mathlib.Nat.{div-add-mod', mod-lt, not-suc-le-zero, le_of_suc-le-suc}
use native.Mathlib.Omega.{arith}
use mathlib.Core.Path.{◌≡◌, refl, sym, ap, ap₂, ◌∙◌}
use mathlib.Core.Bool.{Bool, true, false, cond, not, ◌&&◌, ◌||◌, false≢true}
use mathlib.Core.List.{List, [], ◌∷◌, ◌++◌, map}
use borrow.Author.Tests.{eqb-true, eqb-false, eq-eqb, ne_eqb, ltb-true, ltb-false, lt-ltb, le-ltb}
use lib.Dec.{eqb, ltb}
use lib.IntN.{ℤ, pos}
use lib.ListN.{length, length-map, get_or, take, drop}
use lib.Seq.{take_at, drop_at}
use Rattle.exact.specs.Lists.{cons_if, keep, any, one_if, sum}
use Rattle.exact.proofs.Lists.{sum-map_add}
use Rattle.record.specs.Bytes.{count_from}
use Rattle.account.specs.Answers.{number_of, record_of}
use Rattle.account.specs.Answers.{Answer}
use Rattle.account.specs.declared.answers.Refusal.TheVariants.{TooFewNumbers, LengthsDiffer, TooManyAccounts}
use Rattle.runs.proofs.RunLaws.{accounts_length}
use Rattle.runs.specs.Runs.{accounts_of}
use Rattle.committee.specs.Answered.{Answered, answered_account}
use Rattle.committee.specs.Claims.{Exactly, Written, Lowest, Mean, Numbers, Claims}
use Rattle.committee.specs.Committee.{total_number, is_accepted, accepted_count, refused_count, refusal_count, refusal_counts}
use Rattle.committee.specs.Committee.{over_accepted, summed, margin_summed}
use Rattle.committee.specs.Committee.{largest_margin, holds, lowest_place, largest_place, committee, most_accounts, committee_numbers, committee_answer}
use Rattle.committee.specs.Committee.{answered_run, after_committee}
use Rattle.committee.specs.code.Sums.{most_total}
use Rattle.committee.proofs.Adding.{none_of, all_of, none-largest, some_holds, unless_none_lem, unless_some, not_accepted}
use Rattle.committee.proofs.Padded.{total_most, refusal_most}

-- ---- the answer by its three tests
abbrev cased : Bool → Bool → Bool → Answer
cased many same few = cond many (Err TooManyAccounts) (cond (not same) (Err LengthsDiffer) (cond few (Err (TooFewNumbers 0)) (Ok tt)))

module _ (bytes lengths : List ℕ) (lent : ℕ) where
  abbrev answer : Answer
  answer = committee_answer bytes lengths lent

  abbrev many : Bool
  many = ltb most_accounts (length lengths)

  abbrev same : Bool
  same = eqb (sum lengths) (length bytes)

  abbrev few : Bool
  few = ltb lent committee_numbers

  is_19 : number_of answer ≡ 19 → most_accounts < length lengths
  is_19 h = go many same few refl h
    where
      go : (t u v : Bool) → many ≡ t → number_of (cased t u v) ≡ 19 → most_accounts < length lengths
      go true u v e g = ltb-true most_accounts (length lengths) e
      go false true true e g = absurd (omega arith)
      go false true false e g = absurd (omega arith)
      go false false v e g = absurd (omega arith)

  is_17 : number_of answer ≡ 17 → (length lengths ≤ most_accounts) × (sum lengths ≡ length bytes → ⊥)
  is_17 h = go many same few refl refl h
    where
      go : (t u v : Bool) → many ≡ t → same ≡ u → number_of (cased t u v) ≡ 17 → (length lengths ≤ most_accounts) × (sum lengths ≡ length bytes → ⊥)
      go true u v e f g = absurd (omega arith)
      go false true true e f g = absurd (omega arith)
      go false true false e f g = absurd (omega arith)
      go false false v e f g = (ltb-false most_accounts (length lengths) e, eqb-false (sum lengths) (length bytes) f)

  is_10 : number_of answer ≡ 10 → (length lengths ≤ most_accounts) × ((sum lengths ≡ length bytes) × (lent < committee_numbers))
  is_10 h = go many same few refl refl refl h
    where
      go : (t u v : Bool) → many ≡ t → same ≡ u → few ≡ v → number_of (cased t u v) ≡ 10
          → (length lengths ≤ most_accounts) × ((sum lengths ≡ length bytes) × (lent < committee_numbers))
      go true u v e f w g = absurd (omega arith)
      go false true true e f w g =
          (ltb-false most_accounts (length lengths) e, (eqb-true (sum lengths) (length bytes) f, ltb-true lent committee_numbers w))
      go false true false e f w g = absurd (omega arith)
      go false false v e f w g = absurd (omega arith)

  exactly : Exactly bytes lengths lent
  exactly = record {
    nineteen = record {
      forth = is_19;
      back = λ h. ap (λ (t : Bool). number_of (cased t same few)) (lt-ltb most_accounts (length lengths) h);
    };
    seventeen = record {
      forth = is_17;
      back = λ h.
          ap₂ (λ (t u : Bool). number_of (cased t u few)) (le-ltb most_accounts (length lengths) h.0) (ne_eqb (sum lengths) (length bytes) h.1);
    };
    ten = record {
      forth = is_10;
      back = λ h.
          ap₂ (λ (t u : Bool). number_of (cased t u few)) (le-ltb most_accounts (length lengths) h.0) (eq-eqb (sum lengths) (length bytes) h.1.0)
          ∙ ap (λ (v : Bool). number_of (cased false true v)) (lt-ltb lent committee_numbers h.1.1);
    };
    no_record = none many same few;
  }
    where
      none : (t u v : Bool) → record_of (cased t u v) ≡ 0
      none true u v = refl
      none false true true = refl
      none false true false = refl
      none false false v = refl

-- ---- the lent numbers
module _ (bytes lengths : List ℕ) (lent : List ℤ) where
  abbrev told : Answer
  told = committee_answer bytes lengths (length lent)

  abbrev numbers : List ℤ
  numbers = map pos (committee (answered_run bytes lengths))

  after_by : (t : Bool) → eqb (number_of told) 0 ≡ t → after_committee bytes lengths lent ≡ cond t (numbers ++ drop committee_numbers lent) lent
  after_by t e = ap (λ (t : Bool). cond t (numbers ++ drop committee_numbers lent) lent) e

  written : number_of told ≡ 0 → Written bytes lengths lent
  written h =
      let e = after_by true (eq-eqb (number_of told) 0 h) in
      let n : length numbers ≡ committee_numbers = length-map (committee (answered_run bytes lengths)) pos in
      record {
        as_many = refl;
        front = ap (take committee_numbers) e ∙ take_at numbers (drop committee_numbers lent) committee_numbers n;
        rest = ap (drop committee_numbers) e ∙ drop_at numbers (drop committee_numbers lent) committee_numbers n;
      }

-- ---- the largest margin and its place
pub record First (p : Answered → Bool) (run : List Answered) (d : Answered) : Type 0 where
  pub within : lowest_place p run < length run
  pub passes : p (get_or run (lowest_place p run) d) ≡ true
  pub before : (i : ℕ) → i < lowest_place p run → p (get_or run i d) ≡ false

first_place : (p : Answered → Bool) (run : List Answered) (d : Answered) → any p run ≡ true → First p run d
first_place p [] d h = absurd (false≢true h)
first_place p (x ∷ run) d h = go (p x) refl h (first_place p run d)
  where
    go : (t : Bool) → p x ≡ t → (t || any p run) ≡ true → (any p run ≡ true → First p run d) → First p (x ∷ run) d
    go true e f rest =
        let here : lowest_place p (x ∷ run) ≡ 0 = ap (λ (t : Bool). cond t 0 (suc (lowest_place p run))) e in
        record {
          within = omega arith;
          passes = ap (λ (n : ℕ). p (get_or (x ∷ run) n d)) here ∙ e;
          before = λ i l. absurd (omega arith);
        }
    go false e f rest =
        let later = rest f in
        let there : lowest_place p (x ∷ run) ≡ suc (lowest_place p run) = ap (λ (t : Bool). cond t 0 (suc (lowest_place p run))) e in
        let w = later.within in
        record {
          within = omega arith;
          passes = ap (λ (n : ℕ). p (get_or (x ∷ run) n d)) there ∙ later.passes;
          before = λ i l. earlier i (omega arith);
        }
      where
        earlier : (i : ℕ) → i < suc (lowest_place p run) → p (get_or (x ∷ run) i d) ≡ false
        earlier zero l = e
        earlier (suc i) l = (rest f).before i (omega arith)

most_of : (run : List Answered) (i : ℕ) (d : Answered) → i < length run → over_accepted total_number (get_or run i d) ≤ largest_margin run
most_of [] i d h = absurd (not-suc-le-zero h)
most_of (x ∷ run) zero d h = omega arith
most_of (x ∷ run) (suc i) d h = let rest = most_of run i d (le_of_suc-le-suc h) in omega arith

both : (x y : Bool) → (x && y) ≡ true → (x ≡ true) × (y ≡ true)
both true true e = (refl, refl)
both true false e = absurd (false≢true e)
both false y e = absurd (false≢true e)

module _ (run : List Answered) (some : 0 < accepted_count run) where
  not_none : accepted_count run ≡ 0 → ⊥
  not_none e = omega arith

  place_is : largest_place run ≡ lowest_place (holds (largest_margin run)) run
  place_is = unless_some run (lowest_place (holds (largest_margin run)) run) not_none

  lowest : (d : Answered) → Lowest run d
  lowest d =
      let f = first_place (holds (largest_margin run)) run d (some_holds run not_none) in
      let e = place_is in
      let h =
      both (is_accepted (get_or run (largest_place run) d)) (eqb (total_number (get_or run (largest_place run) d).numbers) (largest_margin run))
      (ap (λ (n : ℕ). holds (largest_margin run) (get_or run n d)) e ∙ f.passes)
      in
      let w = f.within in
      record {
        within = omega arith;
        accepted = h.0;
        holds = eqb-true (total_number (get_or run (largest_place run) d).numbers) (largest_margin run) h.1;
        most = λ i l a. let m = most_of run i d l in let o = all_of total_number (get_or run i d) a in omega arith;
        before = λ i l a. below i a (omega arith) (f.before i (omega arith));
      }
    where
      below : (i : ℕ) → is_accepted (get_or run i d) ≡ true → i < length run → holds (largest_margin run) (get_or run i d) ≡ false
          → total_number (get_or run i d).numbers < largest_margin run
      below i a l n =
          let m = most_of run i d l in
          let o = all_of total_number (get_or run i d) a in
          let other =
          eqb-false (total_number (get_or run i d).numbers) (largest_margin run)
          (sym (ap (λ (t : Bool). t && eqb (total_number (get_or run i d).numbers) (largest_margin run)) a) ∙ n)
          in
          omega (arith, other)

  mean : Mean run
  mean =
      let m = unless_some run (margin_summed run / accepted_count run) not_none in
      let r = unless_some run (margin_summed run % accepted_count run) not_none in
      let below = mod-lt (margin_summed run) some in
      record {
        is = sym (ap₂ (λ (x y : ℕ). x * accepted_count run + y) m r ∙ div-add-mod' (margin_summed run) (accepted_count run));
        below = omega arith;
      }

-- ---- counts and sums
one_way : (t : Bool) → one_if t + one_if (not t) ≡ 1
one_way true = refl
one_way false = refl

every_one : (run : List Answered) → accepted_count run + refused_count run ≡ length run
every_one [] = refl
every_one (a ∷ run) = let rest = every_one run in let one = one_way (is_accepted a) in omega arith

accepted_alone : (f : List ℤ → ℕ) (run : List Answered) → summed f run ≡ sum (map (λ a. f a.numbers) (keep is_accepted run))
accepted_alone f [] = refl
accepted_alone f (a ∷ run) = go (is_accepted a) (accepted_alone f run)
  where
    go : (t : Bool) → summed f run ≡ sum (map (λ x. f x.numbers) (keep is_accepted run))
        → cond t (f a.numbers) 0 + summed f run ≡ sum (map (λ x. f x.numbers) (cons_if t a (keep is_accepted run)))
    go true e = ap (λ (n : ℕ). f a.numbers + n) e
    go false e = omega arith

none-summed : (run : List Answered) → accepted_count run ≡ 0 → margin_summed run ≡ 0
none-summed [] e = refl
none-summed (a ∷ run) e =
    let rest = none-summed run (omega arith) in
    let none : over_accepted total_number a ≡ 0 = none_of total_number a (not_accepted (is_accepted a) (omega arith)) in
    omega arith

pub numbers_claimed : (run : List Answered) → Numbers run
numbers_claimed run = record {
  all = every_one run;
  summed = λ f. accepted_alone f run;
  some = λ h. (mean run h, lowest run h);
  none = λ e.
      record {
        margin = none-summed run e;
        largest = none-largest run e;
        place = unless_none_lem run (lowest_place (holds (largest_margin run)) run) e;
        mean = unless_none_lem run (margin_summed run / accepted_count run) e;
        remainder = unless_none_lem run (margin_summed run % accepted_count run) e;
      };
}

-- ---- each refused account has one of the numbers 1 to 15
abbrev hits : ℕ → ℕ → ℕ → ℕ
hits r a n = sum (map (λ m. one_if (eqb r m)) (count_from a n))

no_hit : (r a n : ℕ) → r < a → hits r a n ≡ 0
no_hit r a zero h = refl
no_hit r a (suc n) h =
    let first = ap one_if (ne_eqb r a (λ e. omega arith)) in
    let rest = no_hit r (a + 1) n (omega arith) in
    omega arith

one_hit : (r a n : ℕ) → a ≤ r → r < a + n → hits r a n ≡ 1
one_hit r a zero h l = absurd (omega arith)
one_hit r a (suc n) h l = go (eqb r a) refl (one_hit r (a + 1) n)
  where
    go : (t : Bool) → eqb r a ≡ t → (a + 1 ≤ r → r < a + 1 + n → hits r (a + 1) n ≡ 1) → one_if t + hits r (a + 1) n ≡ 1
    go true e rest = let same = eqb-true r a e in let none = no_hit r (a + 1) n (omega arith) in omega arith
    go false e rest = let other = eqb-false r a e in let later = rest (omega (arith, other)) (omega arith) in omega arith

hit : (r : ℕ) → r ≤ 15 → hits r 1 15 ≡ one_if (not (eqb r 0))
hit zero h = refl
hit (suc r) h =
    one_hit (suc r) 1 15 (omega arith) (omega arith) ∙ sym (ap (λ (t : Bool). one_if (not t)) (ne_eqb (suc r) 0 (λ e. omega arith)))

no_counts : (ns : List ℕ) → sum (map (refusal_count []) ns) ≡ 0
no_counts [] = refl
no_counts (n ∷ ns) = let rest = no_counts ns in omega arith

abbrev Numbered : List Answered → Type 0
Numbered [] = Unit
Numbered (a ∷ run) = (a.refusal ≤ 15) × Numbered run

by_number : (run : List Answered) → Numbered run → sum (refusal_counts run) ≡ refused_count run
by_number [] h = no_counts (count_from 1 15)
by_number (a ∷ run) h =
    let apart = sum-map_add (λ n. one_if (eqb a.refusal n)) (refusal_count run) (count_from 1 15) in
    let first = hit a.refusal h.0 in
    let rest = by_number run h.1 in
    omega arith

all_numbered : (accounts : List (List ℕ)) → Numbered (map answered_account accounts)
all_numbered [] = tt
all_numbered (account ∷ accounts) = (refusal_most account, all_numbered accounts)

-- ---- a hundred margins
sum_most : (accounts : List (List ℕ)) → margin_summed (map answered_account accounts) ≤ length accounts * most_total
sum_most [] = zero-le
sum_most (account ∷ accounts) = let first = total_most account in let rest = sum_most accounts in omega arith

sum_fits : (bytes lengths : List ℕ) → length lengths ≤ most_accounts → margin_summed (answered_run bytes lengths) < 2 ^ 63
sum_fits bytes lengths h =
    let m = sum_most (accounts_of lengths bytes) in
    let n = accounts_length lengths bytes in
    omega arith

pub claims : (bytes lengths : List ℕ) (lent : List ℤ) → Claims bytes lengths lent
claims bytes lengths lent = record {
  exactly = exactly bytes lengths (length lent);
  refused = λ h. after_by bytes lengths lent false (ne_eqb (number_of (committee_answer bytes lengths (length lent))) 0 h);
  accepted = written bytes lengths lent;
  numbers = numbers_claimed (answered_run bytes lengths);
  refusals = by_number (answered_run bytes lengths) (all_numbered (accounts_of lengths bytes));
  fits = sum_fits bytes lengths;
}
