-- The check's claim: a refusal comes exactly when it is the first to hold. Any table with rising numbers, then this one.
-- Assumes nothing.
use Prim.Native.Nat.{ℕ, zero, suc, ◌≤◌, ◌<◌}
use mathlib.Core.Path.{◌≡◌, refl, sym, ap, subst, ◌∙◌}
use mathlib.Core.Bool.{Bool, true, false}
use mathlib.Core.List.{List, [], ◌∷◌}
use mathlib.Core.Logic.{◌⊎◌, inl, inr, ⊎_elim}
use lib.Dec.{eqb, ltb, lit<}
use native.Mathlib.Omega.{arith}
use borrow.Author.Count.{below_more}
use borrow.Author.Tests.{eq-eqb, ne_eqb, eqb-true, eqb-false, ltb-true, ltb-false}
use Rattle.record.specs.Layout.{Record}
use Rattle.record.proofs.Within.{never}
use Rattle.account.specs.Answers.{number_of, record_of}
use Rattle.account.specs.Check.{Refusal, first_of, refusals, fault_of, too_long, cut_record, records_checked}
use Rattle.exact.specs.Iff.{Iff}
use Rattle.account.specs.Claims.{given_in, holds_at, RecordsGive, First, Clean, RecordsExactly}
use Rattle.account.specs.Records.{record_at, record_count, earlier}
use Rattle.account.specs.Answers.{Answer}
use Rattle.account.proofs.Firsts.{number_refusal, record_refusal}
use Rattle.account.proofs.Laid.{Faultless}
use Rattle.account.proofs.Verdict.{stops, ends, too_long_lem, cut_short, by_records, fault_number}

-- ---- any table
abbrev pub Rising : ℕ → List Refusal → Type 0
Rising low [] = Unit
Rising low (x ∷ xs) = (low < x.number) × Rising x.number xs

off :
    (x : Refusal) (xs : List Refusal) (m : ℕ) → (x.number ≡ m → ⊥) → given_in xs m ≡ false
    → given_in (x ∷ xs) m ≡ false
off x xs m d h = rw (ne_eqb x.number m d, h)

none_below : (low : ℕ) (rows : List Refusal) → Rising low rows → (m : ℕ) → m ≤ low → given_in rows m ≡ false
none_below low [] up m h = refl
none_below low (x ∷ xs) up m h =
    let l = up.0 in
    off x xs m (λ e. omega arith) (none_below x.number xs up.1 m (omega arith))

pass : (x : Refusal) (xs : List Refusal) (m : ℕ) → x.given ≡ false → given_in (x ∷ xs) m ≡ given_in xs m
pass x xs m h = go (eqb x.number m) refl
  where
    go : (t : Bool) → eqb x.number m ≡ t → given_in (x ∷ xs) m ≡ given_in xs m
    go true e = rw (e, h)
    go false e = rw e

first_pass : (x : Refusal) (xs : List Refusal) → x.given ≡ false → first_of (x ∷ xs) ≡ first_of xs
first_pass x xs h = rw h

first_here : (x : Refusal) (xs : List Refusal) → x.given ≡ true → first_of (x ∷ xs) ≡ x.number
first_here x xs h = rw h

pub none-given : (low : ℕ) (rows : List Refusal) → Rising low rows → first_of rows ≡ 0 → (m : ℕ) → given_in rows m ≡ false
none-given low [] up z m = refl
none-given low (x ∷ xs) up z m = go x.given refl (λ h. none-given x.number xs up.1 h m)
  where
    go : (t : Bool) → x.given ≡ t → (first_of xs ≡ 0 → given_in xs m ≡ false) → given_in (x ∷ xs) m ≡ false
    go true e f =
        let l = up.0 in
        let n = first_here x xs e in
        absurd (omega arith)
    go false e f = pass x xs m e ∙ f (sym (first_pass x xs e) ∙ z)

pub record Leads (rows : List Refusal) (n : ℕ) : Type 0 where
  pub holds : given_in rows n ≡ true
  pub first : (m : ℕ) → m < n → given_in rows m ≡ false

pub leads : (low : ℕ) (rows : List Refusal) → Rising low rows → (n : ℕ) → first_of rows ≡ n → (n ≡ 0 → ⊥) → Leads rows n
leads low [] up n e nz = absurd (nz (sym e))
leads low (x ∷ xs) up n e nz = go x.given refl (λ h. leads x.number xs up.1 n h nz)
  where
    go : (t : Bool) → x.given ≡ t → (first_of xs ≡ n → Leads xs n) → Leads (x ∷ xs) n
    go true g f =
        let k : x.number ≡ n = sym (first_here x xs g) ∙ e in
        record {
          holds = rw (eq-eqb x.number n k, g);
          first = λ m h. off x xs m (λ i. omega arith) (none_below x.number xs up.1 m (omega arith));
        }
    go false g f =
        let l = f (sym (first_pass x xs g) ∙ e) in
        record { holds = pass x xs n g ∙ l.holds; first = λ m h. pass x xs m g ∙ l.first m h }

pub clash : {b : Bool} → b ≡ true → b ≡ false → ⊥
clash p q = never (sym q ∙ p)

which : {P : Type 0} (a b : ℕ) → (a ≡ b → P) → (a < b → P) → (b < a → P) → P
which {P} a b e l g = go (eqb a b) (ltb a b) refl refl
  where
    go : (s t : Bool) → eqb a b ≡ s → ltb a b ≡ t → P
    go true t p q = e (eqb-true a b p)
    go false true p q = l (ltb-true a b q)
    go false false p q =
        let d = eqb-false a b p in
        let h = ltb-false a b q in
        g (omega arith)

module _ (low : ℕ) (rows : List Refusal) (up : Rising low rows) where
  pub leads_back : (n : ℕ) → given_in rows n ≡ true → ((m : ℕ) → m < n → given_in rows m ≡ false) → first_of rows ≡ n
  leads_back n h f = go (eqb (first_of rows) 0) refl
    where
      go : (t : Bool) → eqb (first_of rows) 0 ≡ t → first_of rows ≡ n
      go true z = absurd (clash h (none-given low rows up (eqb-true _ _ z) n))
      go false z =
          let l = leads low rows up (first_of rows) refl (eqb-false _ _ z) in
          which (first_of rows) n (λ e. e) (λ a. absurd (clash l.holds (f (first_of rows) a)))
          (λ b. absurd (clash h (l.first n b)))

  pub clean_back : ((m : ℕ) → given_in rows m ≡ false) → first_of rows ≡ 0
  clean_back f = go (eqb (first_of rows) 0) refl
    where
      go : (t : Bool) → eqb (first_of rows) 0 ≡ t → first_of rows ≡ 0
      go true z = eqb-true _ _ z
      go false z = absurd (clash (leads low rows up (first_of rows) refl (eqb-false _ _ z)).holds (f (first_of rows)))

-- ---- this table
rises : (es : List Record) (r : Record) → Rising 0 (refusals es r)
rises es r = (lit< tt, (lit< tt, (lit< tt, (lit< tt, (lit< tt, (lit< tt, (lit< tt, tt)))))))

module _ (file : List ℕ) where
  pub faultless : (k : ℕ) → ((j : ℕ) → j < k → (m : ℕ) → holds_at file j m ≡ false) → Faultless file k
  faultless k f j h = clean_back 0 (refusals (earlier file j) (record_at file j))
      (rises (earlier file j) (record_at file j)) (f j h)

  clean_so_far : (k : ℕ) → Faultless file k → (j : ℕ) → j < k → (m : ℕ) → holds_at file j m ≡ false
  clean_so_far k fine j h m =
      none-given 0 (refusals (earlier file j) (record_at file j)) (rises (earlier file j) (record_at file j))
      (fine j h) m

  -- either no record before record k has a fault, or there is a first one that has
  record Fault : Type 0 where
    place : ℕ
    number : ℕ
    there : place < record_count file
    fine : Faultless file place
    is : fault_of (earlier file place) (record_at file place) ≡ number
    some : number ≡ 0 → ⊥

  look : (k : ℕ) → k ≤ record_count file → Faultless file k ⊎ Fault
  look zero h = inl (λ j l. absurd (omega arith))
  look (suc k) h = ⊎_elim (λ fine. go fine (fault_of (earlier file k) (record_at file k)) refl) inr
      (look k (omega arith))
    where
      go :
          Faultless file k → (n : ℕ) → fault_of (earlier file k) (record_at file k) ≡ n
          → Faultless file (suc k) ⊎ Fault
      go fine zero e =
          inl (λ j l. below_more (λ (i : ℕ). fault_of (earlier file i) (record_at file i) ≡ 0) k fine e j (omega arith))
      go fine (suc n) e =
          inr (record {
            place = k;
            number = suc n;
            there = omega arith;
            fine = fine;
            is = e;
            some =
                λ z. omega arith;
          })

  -- ---- the verdict, case by case
  abbrev Told : Type 0 → Type 0
  Told P =
      (too_long file ≡ true → RecordsGive file 1 0 → P)
      → (too_long file ≡ false → cut_record file ≡ true → RecordsGive file 2 0 → P)
      → (too_long file ≡ false → cut_record file ≡ false → Faultless file (record_count file) → RecordsGive file 0 0 → P)
      → (too_long file ≡ false → cut_record file ≡ false → (f : Fault) → RecordsGive file f.number f.place → P)
      → P

  gives : {a : Answer} (n k : ℕ) → records_checked file ≡ a → number_of a ≡ n → record_of a ≡ k → RecordsGive file n k
  gives n k e p q = record { number = ap number_of e ∙ p; place = ap record_of e ∙ q }

  fault_gives : too_long file ≡ false → cut_record file ≡ false → (f : Fault) → RecordsGive file f.number f.place
  fault_gives l w f =
      let i = fault_number (earlier file f.place) (record_at file f.place) f.number f.is f.some in
      gives f.number f.place
      (by_records file l w ∙ stops file f.place f.number f.there f.fine f.is f.some)
      (number_refusal f.number f.place i.0 i.1) (record_refusal f.number f.place i.0 i.1)

  told : {P : Type 0} → Told P
  told {P} a b c d = go (too_long file) (cut_record file) refl refl
    where
      go : (s t : Bool) → too_long file ≡ s → cut_record file ≡ t → P
      go true t p q = a p (gives 1 0 (too_long_lem file p) refl refl)
      go false true p q = b p q (gives 2 0 (cut_short file p q) refl refl)
      go false false p q =
          ⊎_elim (λ fine. c p q fine (gives 0 0 (by_records file p q ∙ ends file fine) refl refl))
          (λ f. d p q f (fault_gives p q f)) (look (record_count file) (omega arith))

  -- ---- the claim
  ranged : (f : Fault) → (3 ≤ f.number) × (f.number ≤ 9)
  ranged f = fault_number (earlier file f.place) (record_at file f.place) f.number f.is f.some

  differ : {P : Type 0} {n m j k : ℕ} → RecordsGive file n j → RecordsGive file m k → (n ≡ m → ⊥) → P
  differ g h d = absurd (d (sym g.number ∙ h.number))

  first_of_lem : too_long file ≡ false → cut_record file ≡ false → (f : Fault) → First file f.number f.place
  first_of_lem l w f =
      let k = f.place in
      let t = leads 0 (refusals (earlier file k) (record_at file k)) (rises (earlier file k) (record_at file k))
      f.number f.is f.some in
      record {
        long = l;
        whole = w;
        there = f.there;
        holds = t.holds;
        first = t.first;
        before = clean_so_far f.place f.fine;
      }

  abbrev fault_of_lem : (n k : ℕ) → 3 ≤ n → First file n k → Fault
  fault_of_lem n k h f =
      record {
        place = k;
        number = n;
        there = f.there;
        fine = faultless k f.before;
        is = leads_back 0 (refusals (earlier file k) (record_at file k)) (rises (earlier file k) (record_at file k)) n
            f.holds f.first;
        some = λ z. omega arith;
      }

  one_is : Iff (RecordsGive file 1 0) (too_long file ≡ true)
  one_is =
      record {
        forth =
            λ g.
            told (λ p h. p) (λ p q h. differ g h (λ e. omega arith)) (λ p q fine h. differ g h (λ e. omega arith))
            (λ p q f h. differ g h (λ e. omega (arith, ranged f)));
        back = λ p. gives 1 0 (too_long_lem file p) refl refl;
      }

  two_is : Iff (RecordsGive file 2 0) ((too_long file ≡ false) × (cut_record file ≡ true))
  two_is =
      record {
        forth =
            λ g.
            told (λ p h. differ g h (λ e. omega arith)) (λ p q h. (p, q))
            (λ p q fine h. differ g h (λ e. omega arith))
            (λ p q f h. differ g h (λ e. omega (arith, ranged f)));
        back = λ p. gives 2 0 (cut_short file p.0 p.1) refl refl;
      }

  others_are : (n k : ℕ) → 3 ≤ n → n ≤ 9 → Iff (RecordsGive file n k) (First file n k)
  others_are n k l u =
      record {
        forth =
            λ g.
            told (λ p h. differ g h (λ e. omega arith)) (λ p q h. differ g h (λ e. omega arith))
            (λ p q fine h. differ g h (λ e. omega arith))
            (λ p q f h.
            subst (λ (m : ℕ). First file m k) (sym h.number ∙ g.number)
            (subst (First file f.number) (sym h.place ∙ g.place) (first_of_lem p q f)));
        back = λ f. fault_gives f.long f.whole (fault_of_lem n k l f);
      }

  accepted_is : Iff (RecordsGive file 0 0) (Clean file)
  accepted_is =
      record {
        forth =
            λ g.
            told (λ p h. differ g h (λ e. omega arith)) (λ p q h. differ g h (λ e. omega arith))
            (λ p q fine h. record { long = p; whole = q; none = clean_so_far (record_count file) fine })
            (λ p q f h. differ g h (λ e. omega (arith, ranged f)));
        back =
            λ c. gives 0 0 (by_records file c.long c.whole ∙ ends file
            (faultless (record_count file) c.none)) refl refl;
      }

  pub exactly : RecordsExactly file
  exactly =
      record {
        one = one_is;
        two = two_is;
        others = others_are;
        accepted = accepted_is;
        most =
            told (λ p h. omega (arith, h.number)) (λ p q h. omega (arith, h.number))
            (λ p q fine h. omega (arith, h.number)) (λ p q f h. omega (arith, h.number, ranged f));
      }
