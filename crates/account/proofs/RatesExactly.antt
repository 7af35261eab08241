-- 14 and 15 come exactly when they are the first to hold; so of a file, whose records are looked at before.
-- Assumes nothing.
use Rattle.std.specs.Prelude.{Ok}
use Prim.Native.Nat.{ℕ, zero, suc, ◌+◌, ◌≤◌, ◌<◌}
use native.Mathlib.Omega.{arith}
use mathlib.Core.Path.{◌≡◌, refl, sym, ap, subst, subst⁻¹, ◌∙◌}
use mathlib.Core.Bool.{Bool, true, false, not, ◌&&◌, cond}
use mathlib.Core.List.{List, [], ◌∷◌}
use mathlib.Core.Logic.{◌⊎◌, inl, inr, ⊎_elim}
use borrow.Author.Tests.{ne_eqb, eqb-true, eqb-false}
use lib.Dec.{eqb, lit<}
use lib.ListN.{length, get_or}
use Rattle.record.specs.Layout.{Record}
use Rattle.account.specs.Answers.{number_of, record_of, refusal}
use Rattle.account.specs.Check.{or_else, records_checked}
use Rattle.account.specs.Checked.{rate_refusals, rate_fault_of, first_rate_fault, rates_checked, checked}
use Rattle.exact.specs.Iff.{Iff}
use Rattle.account.specs.Claims.{Comes, RecordsGive, Gives, Clean, FirstRate, RatesExactly, Exactly}
use Rattle.account.specs.Parts.{of_kind, rates_of}
use Rattle.account.specs.Products.{has_rate, conversion_beyond}
use Rattle.account.specs.Records.{records}
use Rattle.account.specs.Answers.{Answer}
use Rattle.account.proofs.AcceptedOnly.{accepted_only}
use Rattle.account.proofs.Alone.{records_decide, records_refused}
use Rattle.account.proofs.Exactly.{Rising, leads, leads_back, none-given, clean_back, exactly}
use Rattle.account.proofs.RateLaws.{fault_on}

rises : (rates : List Record) (r : Record) → Rising 0 (rate_refusals rates r)
rises rates r = (lit< tt, (lit< tt, tt))

pub by_two : (P : ℕ → Type 0) → P 14 → P 15 → (n : ℕ) → 14 ≤ n → n ≤ 15 → P n
by_two P a b n l h = go (eqb n 14) refl
  where
    go : (t : Bool) → eqb n 14 ≡ t → P n
    go true e = subst⁻¹ P (eqb-true n 14 e) a
    go false e =
        let d = eqb-false n 14 e in
        let i : n ≡ 15 = omega arith in
        subst⁻¹ P i b

number_is : (n k : ℕ) → 14 ≤ n → n ≤ 15 → number_of (refusal n k) ≡ n
number_is n k = by_two (λ m. number_of (refusal m k) ≡ m) refl refl n

record_is : (n k : ℕ) → 14 ≤ n → n ≤ 15 → record_of (refusal n k) ≡ k
record_is n k = by_two (λ m. record_of (refusal m k) ≡ k) refl refl n

module _ (rates : List Record) where
  fault_number : (r : Record) (n : ℕ) → rate_fault_of rates r ≡ n → (n ≡ 0 → ⊥) → (14 ≤ n) × (n ≤ 15)
  fault_number r n e nz = go (of_kind 3 r && not (has_rate rates r)) (of_kind 3 r && conversion_beyond rates r) e
    where
      go : (a b : Bool) → cond a 14 (cond b 15 0) ≡ n → (14 ≤ n) × (n ≤ 15)
      go true b e = (omega arith, omega arith)
      go false true e = (omega arith, omega arith)
      go false false e = absurd (nz (sym e))

  stops_at :
      (k : ℕ) (xs : List Record) (i n : ℕ) → i < length xs → ((j : ℕ) → j < i → rate_fault_of rates (get_or xs j []) ≡ 0)
      → rate_fault_of rates (get_or xs i []) ≡ n → (n ≡ 0 → ⊥) → first_rate_fault k rates xs ≡ refusal n (k + i)
  stops_at k [] i n h f e nz = absurd (omega arith)
  stops_at k (r ∷ xs) zero n h f e nz =
      let z : k ≡ k + 0 = omega arith in
      let later = first_rate_fault (k + 1) rates xs in
      ap (λ (m : ℕ). or_else m k later) e ∙ ap (λ (b : Bool). cond b later (refusal n k)) (ne_eqb n 0 nz) ∙ ap (refusal n) z
  stops_at k (r ∷ xs) (suc i) n h f e nz =
      let z : k + 1 + i ≡ k + suc i = omega arith in
      fault_on rates k r xs (f 0 (omega arith))
      ∙ stops_at (k + 1) xs i n (omega arith) (λ j l. f (suc j) (omega arith)) e nz
      ∙ ap (refusal n) z

  ends_at : (k : ℕ) (xs : List Record) → ((j : ℕ) → j < length xs → rate_fault_of rates (get_or xs j []) ≡ 0) → first_rate_fault k rates xs ≡ Ok tt
  ends_at k [] f = refl
  ends_at k (r ∷ xs) f = fault_on rates k r xs (f 0 (omega arith)) ∙ ends_at (k + 1) xs (λ j l. f (suc j) (omega arith))

  -- either no record has a fault, or there is a first one that has
  record Fault (xs : List Record) : Type 0 where
    place : ℕ
    number : ℕ
    there : place < length xs
    fine : (j : ℕ) → j < place → rate_fault_of rates (get_or xs j []) ≡ 0
    is : rate_fault_of rates (get_or xs place []) ≡ number
    some : number ≡ 0 → ⊥

  abbrev Fine : List Record → Type 0
  Fine xs = (j : ℕ) → j < length xs → rate_fault_of rates (get_or xs j []) ≡ 0

  look : (xs : List Record) → Fine xs ⊎ Fault xs
  look [] = inl (λ j h. absurd (omega arith))
  look (r ∷ xs) = go (rate_fault_of rates r) refl (look xs)
    where
      go : (n : ℕ) → rate_fault_of rates r ≡ n → Fine xs ⊎ Fault xs → Fine (r ∷ xs) ⊎ Fault (r ∷ xs)
      go (suc n) e rest =
          inr (record {
            place = 0;
            number = suc n;
            there = omega arith;
            fine = λ j h. absurd (omega arith);
            is = e;
            some = λ z. omega arith;
          })
      go zero e rest = ⊎_elim (λ f. inl (fine f)) (λ f. inr (later f)) rest
        where
          fine : Fine xs → Fine (r ∷ xs)
          fine f zero h = e
          fine f (suc j) h = f j (omega arith)

          before : (f : Fault xs) → (j : ℕ) → j < suc f.place → rate_fault_of rates (get_or (r ∷ xs) j []) ≡ 0
          before f zero h = e
          before f (suc j) h = f.fine j (omega arith)

          later : Fault xs → Fault (r ∷ xs)
          later f =
              record {
                place = suc f.place;
                number = f.number;
                there = omega (arith, f.there);
                fine = before f;
                is = f.is;
                some = f.some;
              }

module _ (account : List Record) where
  abbrev rates : List Record
  rates = rates_of account

  comes : {a : Answer} (n k : ℕ) → rates_checked account ≡ a → number_of a ≡ n → record_of a ≡ k → Comes (rates_checked account) n k
  comes n k e p q = record { number = ap number_of e ∙ p; place = ap record_of e ∙ q }

  fault_comes : (f : Fault rates account) → Comes (rates_checked account) f.number f.place
  fault_comes f =
      let i = fault_number rates (get_or account f.place []) f.number f.is f.some in
      let z : 0 + f.place ≡ f.place = omega arith in
      comes f.number f.place (stops_at rates 0 account f.place f.number f.there f.fine f.is f.some)
      (number_is f.number (0 + f.place) i.0 i.1) (record_is f.number (0 + f.place) i.0 i.1 ∙ z)

  fine_comes : Fine rates account → Comes (rates_checked account) 0 0
  fine_comes f = comes 0 0 (ends_at rates 0 account f) refl refl

  first_of_lem : (f : Fault rates account) → FirstRate account f.number f.place
  first_of_lem f =
      let r = get_or account f.place [] in
      let t = leads 0 (rate_refusals rates r) (rises rates r) f.number f.is f.some in
      record {
        there = f.there;
        holds = t.holds;
        first = t.first;
        before = λ j h m. none-given 0 (rate_refusals rates (get_or account j [])) (rises rates (get_or account j [])) (f.fine j h) m;
      }

  abbrev fault_of_lem : (n k : ℕ) → 14 ≤ n → FirstRate account n k → Fault rates account
  fault_of_lem n k l f =
      record {
        place = k;
        number = n;
        there = f.there;
        fine = λ j h. clean_back 0 (rate_refusals rates (get_or account j [])) (rises rates (get_or account j [])) (f.before j h);
        is = leads_back 0 (rate_refusals rates (get_or account k [])) (rises rates (get_or account k [])) n f.holds f.first;
        some = λ z. omega arith;
      }

  ranged : (f : Fault rates account) → (14 ≤ f.number) × (f.number ≤ 15)
  ranged f = fault_number rates (get_or account f.place []) f.number f.is f.some

  differ : {P : Type 0} {n m j k : ℕ} → Comes (rates_checked account) n j → Comes (rates_checked account) m k → (n ≡ m → ⊥) → P
  differ g h d = absurd (d (sym g.number ∙ h.number))

  pub rates_exactly : RatesExactly account
  rates_exactly =
      record {
        refused =
            λ n k l u.
            record {
              forth =
                  λ g.
                  ⊎_elim (λ f. differ g (fine_comes f) (λ e. omega arith))
                  (λ f.
                  let h = fault_comes f in
                  subst (λ (m : ℕ). FirstRate account m k) (sym h.number ∙ g.number)
                  (subst (FirstRate account f.number) (sym h.place ∙ g.place) (first_of_lem f)))
                  (look rates account);
              back = λ f. fault_comes (fault_of_lem n k l f);
            };
        accepted =
            record {
              forth =
                  λ g.
                  ⊎_elim
                  (λ f. record { none = λ j h m. none-given 0 (rate_refusals rates (get_or account j [])) (rises rates (get_or account j [])) (f j h) m })
                  (λ f. differ g (fault_comes f) (λ e. omega (arith, ranged f)))
                  (look rates account);
              back =
                  λ c. fine_comes (λ j h. clean_back 0 (rate_refusals rates (get_or account j [])) (rises rates (get_or account j [])) (c.none j h));
            };
        numbers =
            ⊎_elim (λ f. inl (fine_comes f).number)
            (λ f. inr (omega (arith, (fault_comes f).number, ranged f), omega (arith, (fault_comes f).number, ranged f))) (look rates account);
      }

-- ---- a file
pub through : {A B C : Type 0} → Iff A B → Iff B C → Iff A C
through p q = record { forth = λ a. q.forth (p.forth a); back = λ c. p.back (q.back c) }

module _ (file : List ℕ) where
  abbrev recorded : Answer
  recorded = records_checked file

  abbrev rated : Answer
  rated = rates_checked (records file)

  -- the records first, then the rates
  told : {P : Type 0} → ((number_of recorded ≡ 0 → ⊥) → checked file ≡ recorded → P) → (recorded ≡ Ok tt → checked file ≡ rated → P) → P
  told {P} a b = go (eqb (number_of recorded) 0) refl
    where
      go : (t : Bool) → eqb (number_of recorded) 0 ≡ t → P
      go true e = let ok = accepted_only recorded (eqb-true (number_of recorded) 0 e) in b ok (records_decide file ok)
      go false e = let d = eqb-false (number_of recorded) 0 e in a d (records_refused file d)

  same : (a b : Answer) → a ≡ b → (n k : ℕ) → Comes a n k → Comes b n k
  same a b e n k c = subst (λ (x : Answer). Comes x n k) e c

  -- 1 to 9 are those of the records
  nine : (n k : ℕ) → 1 ≤ n → n ≤ 9 → Iff (Gives file n k) (RecordsGive file n k)
  nine n k l h =
      record {
        forth =
            λ g.
            told (λ d e. same (checked file) recorded e n k g)
            (λ ok e.
            let m = (same (checked file) rated e n k g).number in
            ⊎_elim (λ z. absurd (omega arith)) (λ z. absurd (omega (arith, z.0))) (rates_exactly (records file)).numbers);
        back =
            λ g.
            same recorded (checked file)
            (sym (records_refused file (λ z. let e : n ≡ 0 = sym g.number ∙ z in omega arith))) n k g;
      }

  clean : recorded ≡ Ok tt → Clean file
  clean ok = (exactly file).accepted.forth (record { number = ap number_of ok; place = ap record_of ok })

  unclean : Clean file → recorded ≡ Ok tt
  unclean c = accepted_only recorded ((exactly file).accepted.back c).number

  past : (n k : ℕ) → (1 ≤ n → n ≤ 9 → ⊥) → Iff (Gives file n k) (Clean file × Comes rated n k)
  past n k out =
      record {
        forth =
            λ g.
            told
            (λ d e.
            let m = (same (checked file) recorded e n k g).number in
            absurd (out (omega (arith, d, m)) (omega (arith, (exactly file).most, m))))
            (λ ok e. (clean ok, same (checked file) rated e n k g));
        back = λ (c, r). same rated (checked file) (sym (records_decide file (unclean c))) n k r;
      }

  both : {A B C : Type 0} → Iff B C → Iff (A × B) (A × C)
  both p = record { forth = λ (a, b). (a, p.forth b); back = λ (a, c). (a, p.back c) }

  pub file_exactly : Exactly file
  file_exactly =
      record {
        one = through (nine 1 0 (omega arith) (omega arith)) (exactly file).one;
        two = through (nine 2 0 (omega arith) (omega arith)) (exactly file).two;
        others = λ n k l h. through (nine n k (omega arith) h) ((exactly file).others n k l h);
        rates =
            λ n k l h.
            through (past n k (λ a b. omega arith)) (both ((rates_exactly (records file)).refused n k l h));
        accepted = through (past 0 0 (λ a b. omega arith)) (both (rates_exactly (records file)).accepted);
        numbers =
            told (λ d e. inl (omega (arith, ap number_of e, (exactly file).most)))
            (λ ok e.
            ⊎_elim (λ z. inl (omega (arith, ap number_of e, z)))
            (λ z. inr (omega (arith, ap number_of e, z.0), omega (arith, ap number_of e, z.1))) (rates_exactly (records file)).numbers);
      }
