-- What is claimed of a pair of files: each refusal exactly when request 2026-01 says, and the prompts handed back.
-- Assumes nothing.
use Rattle.std.specs.Prelude.{Ok, Err}
use Prim.Native.Nat.{ℕ, zero, suc, ◌+◌, ◌≤◌, ◌<◌}
use native.Mathlib.Omega.{arith}
use mathlib.Core.Path.{◌≡◌, refl, sym, ap, subst, subst⁻¹, ◌∙◌}
use mathlib.Core.Bool.{Bool, true, false, not, ◌&&◌, ◌||◌, cond, false≢true}
use mathlib.Core.List.{List, [], ◌∷◌}
use mathlib.Core.Logic.{◌⊎◌, inl, inr, ⊎_elim}
use borrow.Author.Tests.{eq-eqb, eqb-true, eqb-false, lt-ltb, le-ltb, ltb-true, ltb-false, leb-false}
use lib.Dec.{eqb, ltb}
use lib.ListN.{length, get_or}
use Rattle.exact.specs.Lists.{any}
use Rattle.exact.proofs.Lists.{any_at}
use Rattle.record.specs.Layout.{Record, most_contract}
use Rattle.account.specs.Accepted.{Each, listed, part_bytes}
use Rattle.account.specs.Answers.{number_of, record_of}
use Rattle.account.specs.Check.{records_checked, most_records, most_contracts}
use Rattle.exact.specs.Iff.{Iff}
use Rattle.account.specs.Claims.{Comes, RecordsGive}
use Rattle.account.specs.Checked.{rates_checked}
use Rattle.account.specs.Noon.{of_joined, of_morning, of_noon, clear, ◌then◌, mornings_own, no_spread, few_joined, records_verdict, joined_verdict, nowhere}
use Rattle.account.specs.Noon.{place_in, joined_prompts}
use Rattle.account.specs.PartNumbers.{part}
use Rattle.account.specs.PairClaims.{Says, BothPass, FirstSpread, NoSpread, PairExactly, OfMorning, OfNoon, OfJoined, PromptsHanded, PairClaims}
use Rattle.account.specs.Parts.{place_of, prompts_of}
use Rattle.account.specs.Records.{records, record_at, record_count, stretch}
use Rattle.account.specs.Joined.{account_of}
use Rattle.account.specs.Answers.{Answer}
use Rattle.account.specs.declared.answers.Refusal.TheVariants.{NoonSpread, TooManyJoined}
use Rattle.account.specs.declared.noon.Place.{Place}
use Rattle.account.specs.declared.noon.Verdict.{Verdict}
use Rattle.account.proofs.Accepted.{part_stands}
use Rattle.account.proofs.Exactly.{exactly}
use Rattle.account.proofs.JoinedLaws.{part-joined}
use Rattle.account.proofs.Lawful.{recorded}
use Rattle.account.proofs.NoonLaws.{stops, goes, accepted_only, records_accepted, morning_accepted, noon_accepted}
use Rattle.account.proofs.RatesExactly.{rates_exactly, through}
use Rattle.account.proofs.Orders.{cut_at}
use Rattle.account.proofs.Walk.{length_cut, none-place}

-- ---- a verdict, and the next one where it is clear

module _ (v w : Verdict) (f n k : ℕ) where
  as_next : clear v ≡ true → Says (v then w) f n k → Says w f n k
  as_next e s = subst (λ (x : Verdict). Says x f n k) (goes v w (eqb-true (number_of v.answer) 0 e)) s

  as_first : clear v ≡ false → Says (v then w) f n k → Says v f n k
  as_first e s = subst (λ (x : Verdict). Says x f n k) (stops v w (eqb-false (number_of v.answer) 0 e)) s

  -- what the first does not say is said exactly where it is clear and the next says it
  pub next_says : (Says v f n k → clear v ≡ true) → Iff (Says (v then w) f n k) ((clear v ≡ true) × Says w f n k)
  next_says never =
      record {
        forth = λ s. go (clear v) refl s;
        back = λ (e, s). subst⁻¹ (λ (x : Verdict). Says x f n k) (goes v w (eqb-true (number_of v.answer) 0 e)) s;
      }
    where
      go : (t : Bool) → clear v ≡ t → Says (v then w) f n k → (clear v ≡ true) × Says w f n k
      go true e s = (e, as_next e s)
      go false e s = absurd (false≢true (sym e ∙ never (as_first e s)))

  -- a refusal that the next does not say is said exactly where the first says it
  first_says : 1 ≤ n → (Says w f n k → ⊥) → Iff (Says (v then w) f n k) (Says v f n k)
  first_says l never =
      record {
        forth = λ s. go (clear v) refl s;
        back =
            λ s.
            subst⁻¹ (λ (x : Verdict). Says x f n k) (stops v w (λ z. let e : n ≡ 0 = sym s.number ∙ z in omega arith)) s;
      }
    where
      go : (t : Bool) → clear v ≡ t → Says (v then w) f n k → Says v f n k
      go true e s = absurd (never (as_next e s))
      go false e s = as_first e s

-- the file that a verdict is of is that of one of the two
then_file : (v w : Verdict) (f : ℕ) → (v.file ≡ f → ⊥) → (w.file ≡ f → ⊥) → (v then w).file ≡ f → ⊥
then_file v w f a b = go (clear v)
  where
    go : (t : Bool) → (cond t w v).file ≡ f → ⊥
    go true = b
    go false = a

one_two : ◌≡◌ {A = ℕ} 1 2 → ⊥
one_two e = omega arith

apart : {a b : ℕ} → a < b → a ≡ b → ⊥
apart h e = omega arith

-- ---- the first record that passes a test

module _ (p : Record → Bool) where
  place_passes : (rs : List Record) → any p rs ≡ true → p (get_or rs (place_of p rs) []) ≡ true
  place_passes [] a = absurd (false≢true a)
  place_passes (r ∷ rs) a = go (p r) refl (place_passes rs) a
    where
      go : (t : Bool) → p r ≡ t → (any p rs ≡ true → p (get_or rs (place_of p rs) []) ≡ true) → t || any p rs ≡ true
          → p (get_or (r ∷ rs) (cond t 0 (place_of p rs + 1)) []) ≡ true
      go true e rest b = e
      go false e rest b =
          let i : place_of p rs + 1 ≡ suc (place_of p rs) = omega arith in
          ap (λ (k : ℕ). p (get_or (r ∷ rs) k [])) i ∙ rest b

  place_before : (rs : List Record) (j : ℕ) → j < place_of p rs → p (get_or rs j []) ≡ false
  place_before [] j h = absurd (omega arith)
  place_before (r ∷ rs) j h = go (p r) refl (place_before rs) j h
    where
      go : (t : Bool) → p r ≡ t → ((i : ℕ) → i < place_of p rs → p (get_or rs i []) ≡ false) → (j : ℕ) → j < cond t 0 (place_of p rs + 1)
          → p (get_or (r ∷ rs) j []) ≡ false
      go true e rest j l = absurd (omega arith)
      go false e rest zero l = e
      go false e rest (suc j) l = rest j (omega arith)

  place_only : (rs : List Record) (k : ℕ) → k < length rs → p (get_or rs k []) ≡ true → ((j : ℕ) → j < k → p (get_or rs j []) ≡ false) → place_of p rs ≡ k
  place_only [] k h e f = absurd (omega arith)
  place_only (r ∷ rs) zero h e f = ap (λ (t : Bool). cond t 0 (place_of p rs + 1)) e
  place_only (r ∷ rs) (suc k) h e f =
      let i = place_only rs k (omega arith) e (λ j l. f (suc j) (omega arith)) in
      ap (λ (t : Bool). cond t 0 (place_of p rs + 1)) (f 0 (omega arith)) ∙ omega (arith, i)

  none_any : (rs : List Record) → ((j : ℕ) → j < length rs → p (get_or rs j []) ≡ false) → any p rs ≡ false
  none_any [] f = refl
  none_any (r ∷ rs) f = ap (λ (t : Bool). t || any p rs) (f 0 (omega arith)) ∙ none_any rs (λ j h. f (suc j) (omega arith))

  module _ (file : List ℕ) where
    here : (k : ℕ) → k < record_count file → get_or (records file) k [] ≡ record_at file k
    here k h = cut_at (record_count file) k file h

    all_of : length (records file) ≡ record_count file
    all_of = length_cut (record_count file) file

    pub place_there : any p (records file) ≡ true → place_of p (records file) < record_count file
    place_there a =
        let l = leb-false (length (records file)) (place_of p (records file)) (none-place p (records file) ∙ ap not a) in
        omega (arith, l, all_of)

    pub place_is : any p (records file) ≡ true → p (record_at file (place_of p (records file))) ≡ true
    place_is a = ap p (sym (here (place_of p (records file)) (place_there a))) ∙ place_passes (records file) a

    pub place_first : any p (records file) ≡ true → (j : ℕ) → j < place_of p (records file) → p (record_at file j) ≡ false
    place_first a j h =
        let l = place_there a in
        ap p (sym (here j (omega (arith, l, h)))) ∙ place_before (records file) j h

    pub any_there : (k : ℕ) → k < record_count file → p (record_at file k) ≡ true → any p (records file) ≡ true
    any_there k h e = any_at p (records file) k [] (omega (arith, all_of)) (ap p (here k h) ∙ e)

    pub placed : (k : ℕ) → k < record_count file → p (record_at file k) ≡ true → ((j : ℕ) → j < k → p (record_at file j) ≡ false) → place_of p (records file) ≡ k
    placed k h e f =
        place_only (records file) k (omega (arith, all_of)) (ap p (here k h) ∙ e)
        (λ j l. ap p (here j (omega (arith, h, l))) ∙ f j l)

    pub none_there : ((j : ℕ) → j < record_count file → p (record_at file j) ≡ false) → any p (records file) ≡ false
    none_there f =
        none_any (records file)
        (λ j l. let h : j < record_count file = omega (arith, all_of) in ap p (here j h) ∙ f j h)

    pub none_of : any p (records file) ≡ false → (j : ℕ) → j < record_count file → p (record_at file j) ≡ false
    none_of a j h = go (p (record_at file j)) refl
      where
        go : (t : Bool) → p (record_at file j) ≡ t → p (record_at file j) ≡ false
        go true e = absurd (false≢true (sym a ∙ any_there j h e))
        go false e = e

-- ---- the parts of the verdict on a pair

clear_accepted : (a : Answer) (f : ℕ) → clear (record { file = f; answer = a }) ≡ true → a ≡ Ok tt
clear_accepted a f e = accepted_only a (eqb-true (number_of a) 0 e)

accepted_clear : (a : Answer) (f : ℕ) → a ≡ Ok tt → clear (record { file = f; answer = a }) ≡ true
accepted_clear a f e = ap (λ (x : Answer). eqb (number_of x) 0) e

module _ (noon : List ℕ) where
  spread_if : (t : Bool) → any mornings_own (records noon) ≡ t → no_spread noon ≡ cond t (Err (NoonSpread (place_of mornings_own (records noon)))) (Ok tt)
  spread_if t e = ap (λ (b : Bool). cond b (Err (NoonSpread (place_of mornings_own (records noon)))) (Ok tt)) e

  spread_says : (k : ℕ) → Iff (Says (of_noon (no_spread noon)) 2 12 k) (FirstSpread noon k)
  spread_says k =
      record {
        forth = λ s. go (any mornings_own (records noon)) refl s;
        back =
            λ f.
            let a = spread_if true (any_there mornings_own noon k f.there f.here) in
            record { of = refl; number = ap number_of a; place = ap record_of a ∙ placed mornings_own noon k f.there f.here f.before };
      }
    where
      go : (t : Bool) → any mornings_own (records noon) ≡ t → Says (of_noon (no_spread noon)) 2 12 k → FirstSpread noon k
      go true a s =
          let e : place_of mornings_own (records noon) ≡ k = sym (ap record_of (spread_if true a)) ∙ s.place in
          subst (FirstSpread noon) e
          (record { there = place_there mornings_own noon a; here = place_is mornings_own noon a; before = place_first mornings_own noon a })
      go false a s = absurd (apart {a = 0} {b = 12} (omega arith) (sym (ap number_of (spread_if false a)) ∙ s.number))

  spread_number : (n : ℕ) → 1 ≤ n → n ≤ 9 → number_of (no_spread noon) ≡ n → ⊥
  spread_number n l h = go (any mornings_own (records noon)) refl
    where
      go : (t : Bool) → any mornings_own (records noon) ≡ t → number_of (no_spread noon) ≡ n → ⊥
      go true a e = let d = sym (ap number_of (spread_if true a)) ∙ e in omega arith
      go false a e = let d = sym (ap number_of (spread_if false a)) ∙ e in omega arith

  spread_clear : clear (of_noon (no_spread noon)) ≡ true → NoSpread noon
  spread_clear c = go (any mornings_own (records noon)) refl
    where
      go : (t : Bool) → any mornings_own (records noon) ≡ t → NoSpread noon
      go true a = absurd (false≢true (ap (λ (x : Answer). eqb (number_of x) 0) (sym (spread_if true a)) ∙ c))
      go false a = record { none = none_of mornings_own noon a }

  clear_spread : NoSpread noon → clear (of_noon (no_spread noon)) ≡ true
  clear_spread f = accepted_clear (no_spread noon) 2 (spread_if false (none_there mornings_own noon f.none))

module _ (many : ℕ) where
  few_if : (t : Bool) → ltb most_records many ≡ t → few_joined many ≡ cond t (Err (TooManyJoined many)) (Ok tt)
  few_if t e = ap (λ (b : Bool). cond b (Err (TooManyJoined many)) (Ok tt)) e

  few_says : (k : ℕ) → Iff (Says (of_joined (few_joined many)) 0 13 k) ((most_records < many) × (many ≡ k))
  few_says k =
      record {
        forth = λ s. go (ltb most_records many) refl s;
        back =
            λ (h, e).
            let a = few_if true (lt-ltb most_records many h) in
            record { of = refl; number = ap number_of a; place = ap record_of a ∙ e };
      }
    where
      go : (t : Bool) → ltb most_records many ≡ t → Says (of_joined (few_joined many)) 0 13 k → (most_records < many) × (many ≡ k)
      go true a s = (ltb-true most_records many a, sym (ap record_of (few_if true a)) ∙ s.place)
      go false a s = absurd (apart {a = 0} {b = 13} (omega arith) (sym (ap number_of (few_if false a)) ∙ s.number))

  few_past : (n : ℕ) → 14 ≤ n → number_of (few_joined many) ≡ n → ⊥
  few_past n l = go (ltb most_records many) refl
    where
      go : (t : Bool) → ltb most_records many ≡ t → number_of (few_joined many) ≡ n → ⊥
      go true a e = omega (arith, sym (ap number_of (few_if true a)) ∙ e)
      go false a e = omega (arith, sym (ap number_of (few_if false a)) ∙ e)

  few_accepts : Iff (Says (of_joined (few_joined many)) 0 0 0) (many ≤ most_records)
  few_accepts =
      record {
        forth = λ s. go (ltb most_records many) refl s;
        back = λ h. let a = few_if false (le-ltb most_records many h) in record { of = refl; number = ap number_of a; place = ap record_of a };
      }
    where
      go : (t : Bool) → ltb most_records many ≡ t → Says (of_joined (few_joined many)) 0 0 0 → many ≤ most_records
      go true a s = absurd (apart {a = 0} {b = 13} (omega arith) (sym s.number ∙ ap number_of (few_if true a)))
      go false a s = ltb-false most_records many a

-- ---- the pair: its records

record RecordsPair (morning noon : List ℕ) : Type 0 where
  of_morning : (n k : ℕ) → 1 ≤ n → n ≤ 9 → Iff (Says (records_verdict morning noon) 1 n k) (RecordsGive morning n k)
  of_noon : (n k : ℕ) → 1 ≤ n → n ≤ 9 → Iff (Says (records_verdict morning noon) 2 n k) ((records_checked morning ≡ Ok tt) × RecordsGive noon n k)
  twelve : (k : ℕ) → Iff (Says (records_verdict morning noon) 2 12 k) (BothPass morning noon × FirstSpread noon k)
  thirteen : (k : ℕ) → Iff (Says (records_verdict morning noon) 0 13 k)
      (BothPass morning noon × (NoSpread noon × ((most_records < length (account_of morning noon)) × (length (account_of morning noon) ≡ k))))
  accepted : Iff (Says (records_verdict morning noon) 0 0 0)
      (BothPass morning noon × (NoSpread noon × (length (account_of morning noon) ≤ most_records)))

says-gives : (file : List ℕ) (f n k : ℕ) → Iff (Says (record { file = f; answer = records_checked file }) f n k) (RecordsGive file n k)
says-gives file f n k =
    record {
      forth = λ s. record { number = s.number; place = s.place };
      back = λ g. record { of = refl; number = g.number; place = g.place };
    }

module _ (morning noon : List ℕ) where
  abbrev m : Verdict
  m = of_morning (records_checked morning)

  abbrev n : Verdict
  n = of_noon (records_checked noon)

  abbrev spread : Verdict
  spread = of_noon (no_spread noon)

  abbrev all : Verdict
  all = of_joined (few_joined (length (account_of morning noon)))

  -- what is said of the noon file or the joined account is said where the morning's passes
  past_morning : (f i k : ℕ) → (1 ≡ f → ⊥) → Iff (Says (records_verdict morning noon) f i k) ((clear m ≡ true) × Says (n then spread then all) f i k)
  past_morning f i k d = next_says m (n then spread then all) f i k (λ s. absurd (d s.of))

  -- what is said of the joined account is said where the noon file passes too and has no kind 5 or 6
  of_joined_lem : (i k : ℕ) → Iff (Says (records_verdict morning noon) 0 i k) (BothPass morning noon × (NoSpread noon × Says all 0 i k))
  of_joined_lem i k =
      let a = past_morning 0 i k (λ e. omega arith) in
      let b = next_says n (spread then all) 0 i k (λ s. absurd (apart {a = 0} {b = 2} (omega arith) (sym s.of))) in
      let c = next_says spread all 0 i k (λ s. absurd (apart {a = 0} {b = 2} (omega arith) (sym s.of))) in
      record {
        forth =
            λ s.
            let x = a.forth s in
            let y = b.forth x.1 in
            let z = c.forth y.1 in (
              record { first = clear_accepted (records_checked morning) 1 x.0; second = clear_accepted (records_checked noon) 2 y.0 },
              (spread_clear noon z.0, z.1),
            );
        back =
            λ (p, (q, s)).
            a.back (
              accepted_clear (records_checked morning) 1 p.first,
              b.back
                  (accepted_clear (records_checked noon) 2 p.second, c.back (clear_spread noon q, s)),
            );
      }

  records_exactly : RecordsPair morning noon
  records_exactly =
      record {
        of_morning =
            λ i k l h.
            let a = first_says m (n then spread then all) 1 i k l (λ s. not_morning s.of) in
            let g = says-gives morning 1 i k in
            record { forth = λ s. g.forth (a.forth s); back = λ s. a.back (g.back s) };
        of_noon =
            λ i k l h.
            let a = past_morning 2 i k one_two in
            let b = first_says n (spread then all) 2 i k l (not_spread i k l h) in
            let g = says-gives noon 2 i k in
            record {
              forth = λ s. let x = a.forth s in (clear_accepted (records_checked morning) 1 x.0, g.forth (b.forth x.1));
              back = λ (p, s). a.back (accepted_clear (records_checked morning) 1 p, b.back (g.back s));
            };
        twelve =
            λ k.
            let a = past_morning 2 12 k one_two in
            let b = next_says n (spread then all) 2 12 k (λ s. absurd (at_most_nine s.number)) in
            let c = first_says spread all 2 12 k (omega arith) (λ s. apart {a = 0} {b = 2} (omega arith) s.of) in
            let g = spread_says noon k in
            record {
              forth =
                  λ s.
                  let x = a.forth s in
                  let y = b.forth x.1 in (
                    record { first = clear_accepted (records_checked morning) 1 x.0; second = clear_accepted (records_checked noon) 2 y.0 },
                    g.forth (c.forth y.1),
                  );
              back =
                  λ (p, f).
                  a.back (
                    accepted_clear (records_checked morning) 1 p.first,
                    b.back
                        (accepted_clear (records_checked noon) 2 p.second, c.back (g.back f)),
                  );
            };
        thirteen =
            λ k.
            let a = of_joined_lem 13 k in
            let g = few_says (length (account_of morning noon)) k in
            record {
              forth = λ s. let x = a.forth s in (x.0, (x.1.0, g.forth x.1.1));
              back = λ (p, (q, h)). a.back (p, (q, g.back h));
            };
        accepted =
            let a = of_joined_lem 0 0 in
            let g = few_accepts (length (account_of morning noon)) in
            record {
              forth = λ s. let x = a.forth s in (x.0, (x.1.0, g.forth x.1.1));
              back = λ (p, (q, h)). a.back (p, (q, g.back h));
            };
      }
    where
      at_most_nine : number_of (records_checked noon) ≡ 12 → ⊥
      at_most_nine e = omega (arith, (exactly noon).most, e)

      not_morning : (n then spread then all).file ≡ 1 → ⊥
      not_morning =
          then_file n (spread then all) 1 (λ e. omega arith)
          (then_file spread all 1 (λ e. omega arith) (λ e. omega arith))

      not_spread : (i k : ℕ) → 1 ≤ i → i ≤ 9 → Says (spread then all) 2 i k → ⊥
      not_spread i k l h s = go (clear spread) refl
        where
          go : (t : Bool) → clear spread ≡ t → ⊥
          go true e = apart {a = 0} {b = 2} (omega arith) (as_next spread all 2 i k e s).of
          go false e = spread_number noon i l h (as_first spread all 2 i k e s).number

  -- ---- saying which
  records_saying : OfMorning (records_verdict morning noon) ⊎ (OfNoon (records_verdict morning noon) ⊎ OfJoined (records_verdict morning noon))
  records_saying = go (clear m) refl (clear n) refl (clear spread) refl
    where
      above : (a : Answer) → eqb (number_of a) 0 ≡ false → 1 ≤ number_of a
      above a e = let d = eqb-false (number_of a) 0 e in omega (arith, d)

      twelve : clear spread ≡ false → number_of (no_spread noon) ≡ 12
      twelve e = by (any mornings_own (records noon)) refl
        where
          by : (t : Bool) → any mornings_own (records noon) ≡ t → number_of (no_spread noon) ≡ 12
          by true a = ap number_of (spread_if noon true a)
          by false a = absurd (false≢true (sym e ∙ ap (λ (x : Answer). eqb (number_of x) 0) (spread_if noon false a)))

      last : (number_of (few_joined (length (account_of morning noon))) ≡ 0) ⊎
          ((13 ≤ number_of (few_joined (length (account_of morning noon)))) × (number_of (few_joined (length (account_of morning noon))) ≤ 15))
      last = by (ltb most_records (length (account_of morning noon))) refl
        where
          by : (t : Bool) → ltb most_records (length (account_of morning noon)) ≡ t
              → (number_of (few_joined (length (account_of morning noon))) ≡ 0) ⊎
              ((13 ≤ number_of (few_joined (length (account_of morning noon)))) × (number_of (few_joined (length (account_of morning noon))) ≤ 15))
          by true a =
              let e = ap number_of (few_if (length (account_of morning noon)) true a) in
              inr (omega (arith, e), omega (arith, e))
          by false a = inl (ap number_of (few_if (length (account_of morning noon)) false a))

      go : (t : Bool) → clear m ≡ t → (u : Bool) → clear n ≡ u → (w : Bool) → clear spread ≡ w
          → OfMorning (records_verdict morning noon) ⊎ (OfNoon (records_verdict morning noon) ⊎ OfJoined (records_verdict morning noon))
      go false a u b w c =
          inl (subst⁻¹ OfMorning (stops m (n then spread then all) (eqb-false (number_of (records_checked morning)) 0 a))
          (record { of = refl; least = above (records_checked morning) a; most = (exactly morning).most }))
      go true a false b w c =
          inr (inl (subst⁻¹ OfNoon
          (goes m (n then spread then all) (eqb-true (number_of (records_checked morning)) 0 a)
          ∙ stops n (spread then all) (eqb-false (number_of (records_checked noon)) 0 b))
          (record { of = refl; number = inl (above (records_checked noon) b, (exactly noon).most) })))
      go true a true b false c =
          inr (inl (subst⁻¹ OfNoon
          (goes m (n then spread then all) (eqb-true (number_of (records_checked morning)) 0 a)
          ∙ goes n (spread then all) (eqb-true (number_of (records_checked noon)) 0 b)
          ∙ stops spread all (eqb-false (number_of (no_spread noon)) 0 c))
          (record { of = refl; number = inr (twelve c) })))
      go true a true b true c =
          inr (inr (subst⁻¹ OfJoined
          (goes m (n then spread then all) (eqb-true (number_of (records_checked morning)) 0 a)
          ∙ goes n (spread then all) (eqb-true (number_of (records_checked noon)) 0 b)
          ∙ goes spread all (eqb-true (number_of (no_spread noon)) 0 c))
          (record { of = refl; number = last })))

-- ---- the pair: its records, then its rates

module _ (morning noon : List ℕ) where
  abbrev first : Verdict
  first = records_verdict morning noon

  abbrev account : List Record
  account = account_of morning noon

  abbrev rated : Verdict
  rated = of_joined (rates_checked account)

  -- what the rates do not say is said by the records
  by_records : (f n k : ℕ) → 1 ≤ n → (Says rated f n k → ⊥) → Iff (Says (joined_verdict morning noon) f n k) (Says first f n k)
  by_records f n k l never = first_says first rated f n k l never

  -- what the records do not say is said by the rates, where the records are clear
  clear_both : Iff (clear first ≡ true) (BothPass morning noon × (NoSpread noon × (length account ≤ most_records)))
  clear_both =
      let a = (records_exactly morning noon).accepted in
      record {
        forth =
            λ c.
            a.forth (let e = records_accepted morning noon c in
            record {
              of = ap (λ (v : Verdict). v.file) e;
              number = ap (λ (v : Verdict). number_of v.answer) e;
              place = ap (λ (v : Verdict). record_of v.answer) e;
            });
        back = λ p. eq-eqb (number_of first.answer) 0 (a.back p).number;
      }

  of_rates : (n k : ℕ) → Iff (Says rated 0 n k) (Comes (rates_checked account) n k)
  of_rates n k =
      record {
        forth = λ s. record { number = s.number; place = s.place };
        back = λ c. record { of = refl; number = c.number; place = c.place };
      }

  by_rates : {P : Type 0} (n k : ℕ) → (Says first 0 n k → clear first ≡ true) → Iff (Comes (rates_checked account) n k) P
      → Iff (Says (joined_verdict morning noon) 0 n k) (BothPass morning noon × (NoSpread noon × ((length account ≤ most_records) × P)))
  by_rates n k never is =
      let a = next_says first rated 0 n k never in
      let g = through (of_rates n k) is in
      record {
        forth =
            λ s.
            let x = a.forth s in
            let y = clear_both.forth x.0 in
            (y.0, (y.1.0, (y.1.1, g.forth x.1)));
        back = λ (p, (q, (h, r))). a.back (clear_both.back (p, (q, h)), g.back r);
      }

  not-joined : (f n k : ℕ) → (0 ≡ f → ⊥) → Says rated f n k → ⊥
  not-joined f n k d s = d s.of

  rate_number : (n : ℕ) → number_of (rates_checked account) ≡ n → (n ≡ 0) ⊎ ((14 ≤ n) × (n ≤ 15))
  rate_number n e = subst (λ (m : ℕ). (m ≡ 0) ⊎ ((14 ≤ m) × (m ≤ 15))) e (rates_exactly account).numbers

  -- the joined account has no number past 13 by its records
  record_number : (n k : ℕ) → 14 ≤ n → Says first 0 n k → clear first ≡ true
  record_number n k l s = absurd (few_past (length account) n l ((of_joined_lem morning noon n k).forth s).1.1.number)

  pub pair_exactly : PairExactly morning noon
  pair_exactly =
      let old = records_exactly morning noon in
      record {
        of_morning = λ n k l h. through (by_records 1 n k l (not-joined 1 n k (λ e. omega arith))) (old.of_morning n k l h);
        of_noon = λ n k l h. through (by_records 2 n k l (not-joined 2 n k (λ e. omega arith))) (old.of_noon n k l h);
        twelve = λ k. through (by_records 2 12 k (omega arith) (not-joined 2 12 k (λ e. omega arith))) (old.twelve k);
        thirteen =
            λ k.
            through
            (by_records 0 13 k (omega arith)
            (λ s. ⊎_elim (λ z. omega arith) (λ z. omega (arith, z.0)) (rate_number 13 s.number))) (old.thirteen k);
        rates = λ n k l h. by_rates n k (record_number n k l) ((rates_exactly account).refused n k l h);
        accepted = by_rates 0 0 (λ s. eq-eqb (number_of first.answer) 0 s.number) (rates_exactly account).accepted;
      }

  pub pair_saying : OfMorning (joined_verdict morning noon) ⊎ (OfNoon (joined_verdict morning noon) ⊎ OfJoined (joined_verdict morning noon))
  pair_saying = go (clear first) refl
    where
      go : (t : Bool) → clear first ≡ t → OfMorning (joined_verdict morning noon) ⊎ (OfNoon (joined_verdict morning noon) ⊎ OfJoined (joined_verdict morning noon))
      go true c =
          inr (inr (subst⁻¹ OfJoined (goes first rated (eqb-true (number_of first.answer) 0 c))
          (record {
            of = refl;
            number = ⊎_elim (λ z. inl z) (λ z. inr (omega (arith, z.0), z.1)) (rates_exactly account).numbers;
          })))
      go false c =
          subst⁻¹ (λ (v : Verdict). OfMorning v ⊎ (OfNoon v ⊎ OfJoined v)) (stops first rated (eqb-false (number_of first.answer) 0 c))
          (records_saying morning noon)

-- ---- the prompts handed back

none-listed : (rs : List Record) (t : Bool) → Each (λ r. t ≡ true) rs → t ≡ false → rs ≡ []
none-listed [] t e f = refl
none-listed (r ∷ rs) t e f = absurd (false≢true (sym f ∙ e.0))

module _ (morning noon : List ℕ) (c : ℕ) where
  handed : Place → List ℕ
  handed p = stretch (cond (eqb p.file 2) noon morning) p.first p.records

  there : Bool → Bool → Place
  there t u = cond t (place_in 2 noon c) (cond u (place_in 1 morning c) nowhere)

  placed_at : (s t u : Bool) → clear (joined_verdict morning noon) && ltb c most_contracts ≡ s → listed c (records noon) ≡ t → listed c (records morning) ≡ u
      → joined_prompts morning noon c ≡ handed (cond s (there t u) nowhere)
  unfolding handed there
  placed_at s t u a b d =
      ap (λ (x : Bool). handed (cond x (there (listed c (records noon)) (listed c (records morning))) nowhere)) a
      ∙ ap (λ (x : Bool). handed (cond s (there x (listed c (records morning))) nowhere)) b
      ∙ ap (λ (x : Bool). handed (cond s (there t x) nowhere)) d

  -- a contract of a pair that is not refused
  module _ (o : clear (joined_verdict morning noon) ≡ true) (h : c ≤ most_contract) where
    within : clear (joined_verdict morning noon) && ltb c most_contracts ≡ true
    within = ap (λ (x : Bool). x && ltb c most_contracts) o ∙ lt-ltb c most_contracts (omega arith)

    from_noon_lem : listed c (records noon) ≡ true → joined_prompts morning noon c ≡ part_bytes noon (part 2 c)
    unfolding handed there
    from_noon_lem l = placed_at true true (listed c (records morning)) within l refl

    from_morning_lem : listed c (records noon) ≡ false → listed c (records morning) ≡ true → joined_prompts morning noon c ≡ part_bytes morning (part 2 c)
    unfolding handed there
    from_morning_lem l k = placed_at true false true within l k

    none_either : listed c (records noon) ≡ false → listed c (records morning) ≡ false → joined_prompts morning noon c ≡ []
    unfolding handed there
    none_either l k = placed_at true false false within l k

    supplied : (t : Bool) → listed c (records noon) ≡ t → prompts_of c (account_of morning noon) ≡ prompts_of c (cond t (records noon) (records morning))
    supplied t e =
        part-joined (records morning) (records noon) 2 c (omega arith) (omega arith) h
        ∙ ap (λ (x : Bool). prompts_of c (cond x (records noon) (records morning))) e

    are : records (joined_prompts morning noon c) ≡ prompts_of c (account_of morning noon)
    are = go (listed c (records noon)) refl (listed c (records morning)) refl
      where
        go : (t : Bool) → listed c (records noon) ≡ t → (u : Bool) → listed c (records morning) ≡ u
            → records (joined_prompts morning noon c) ≡ prompts_of c (account_of morning noon)
        go true e u f =
            ap records (from_noon_lem e)
            ∙ part_stands noon (noon_accepted morning noon o) 2 c (omega arith) h
            ∙ sym (supplied true e)
        go false e true f =
            ap records (from_morning_lem e f)
            ∙ part_stands morning (morning_accepted morning noon o) 2 c (omega arith) h
            ∙ sym (supplied false e)
        go false e false f =
            ap records (none_either e f)
            ∙ sym (none-listed (prompts_of c (records morning)) (listed c (records morning))
            ((recorded morning (morning_accepted morning noon o)).named.prompts c) f)
            ∙ sym (supplied false e)

  no_place : clear (joined_verdict morning noon) && ltb c most_contracts ≡ false → joined_prompts morning noon c ≡ []
  unfolding handed there
  no_place e = placed_at false (listed c (records noon)) (listed c (records morning)) e refl refl

  pub prompts_handed : PromptsHanded morning noon c
  unfolding handed there
  prompts_handed =
      record {
        joined = are;
        from_noon = from_noon_lem;
        from_morning = from_morning_lem;
        unlisted = λ l k. neither (clear (joined_verdict morning noon) && ltb c most_contracts) refl l k;
        refused = λ e. no_place (ap (λ (x : Bool). x && ltb c most_contracts) e);
        beyond = λ h. no_place (late (clear (joined_verdict morning noon)) h);
      }
    where
      late : (t : Bool) → most_contract < c → t && ltb c most_contracts ≡ false
      late true h = le-ltb c most_contracts (omega arith)
      late false h = refl

      neither : (t : Bool) → clear (joined_verdict morning noon) && ltb c most_contracts ≡ t → listed c (records noon) ≡ false
          → listed c (records morning) ≡ false → joined_prompts morning noon c ≡ []
      neither true e l k = placed_at true false false e l k
      neither false e l k = no_place e

pub pair_claimed : (morning noon : List ℕ) → PairClaims morning noon
pair_claimed morning noon =
    record { exactly = pair_exactly morning noon; saying = pair_saying morning noon; prompts = prompts_handed morning noon }
