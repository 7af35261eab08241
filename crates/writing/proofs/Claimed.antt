-- The claims of the writer.
-- Assumes nothing.
use Rattle.std.specs.Prelude.{Ok, Err}
use Prim.Native.Nat.{ℕ, zero, suc, ◌+◌, ◌*◌, ◌≤◌, ◌<◌}
use mathlib.Core.Logic.{◌⊎◌, ⊎_elim}
use mathlib.Core.Path.{◌≡◌, refl, sym, ap, subst⁻¹, ◌∙◌}
use mathlib.Core.Bool.{Bool, true, false, cond, ◌&&◌, ◌||◌, false≢true}
use mathlib.Core.List.{List}
use lib.Dec.{ltb}
use lib.ListN.{length, get_or, drop}
use lib.Seq.{get_or-take, get_or-drop}
use native.Mathlib.Decide.{ℕ_discrete}
use native.Mathlib.Omega.{arith}
use borrow.Author.Tests.{eq-eqb, ne_eqb, lt-ltb, le-ltb, ltb-true, ltb-false}
use Rattle.record.specs.Bytes.{byte_at, record_bytes}
use Rattle.record.specs.Layout.{kind}
use Rattle.record.specs.Ranges.{unknown_kind}
use Rattle.account.specs.Answers.{number_of, record_of, refusal}
use Rattle.account.specs.Check.{kind_falls, the_one_before}
use Rattle.account.specs.Checked.{checked}
use Rattle.account.specs.Claims.{Gives, First, Exactly}
use Rattle.account.specs.Records.{record_at, record_count, earlier}
use Rattle.account.specs.Answers.{Answer}
use Rattle.account.specs.declared.answers.Refusal.TheVariants.{TooFewBytes}
use Rattle.account.proofs.Claimed as account
use Rattle.account.proofs.Firsts.{number_refusal, record_refusal}
use Rattle.account.proofs.NoonLaws.{accepted_only}
use Rattle.account.proofs.RatesExactly.{by_two}
use Rattle.writing.specs.Claims.{Bytes, Answers, FirstEntered, RateEntered, Refuses, Never, RoundTrips, Claims}
use Rattle.writing.specs.Order.{of_its_kind, places}
use Rattle.writing.specs.Written.{written, verdict_on, writing_answer}
use Rattle.writing.proofs.Placed.{written_long, long_same, cut_same, count_same, record_is, read_back, through, places_long, places_all, all_at}
use Rattle.writing.proofs.Same.{same_bytes, its_small}
use Rattle.writing.proofs.Stable.{sorts}

pub round_trips_lem : (entries : List ℕ) → RoundTrips entries
round_trips_lem entries =
    record { read_back_lem = read_back entries ∙ sym (through entries); size = written_long entries; same_bytes_lem = same_bytes entries }

-- the refusal of a record by its number, 14 and 15 too
number_named : (n k : ℕ) → 3 ≤ n → (n ≤ 9) ⊎ ((14 ≤ n) × (n ≤ 15)) → number_of (refusal n k) ≡ n
number_named n k h s = ⊎_elim (number_refusal n k h) (λ b. by_two (λ m. number_of (refusal m k) ≡ m) refl refl n b.0 b.1) s

record_named : (n k : ℕ) → 3 ≤ n → (n ≤ 9) ⊎ ((14 ≤ n) × (n ≤ 15)) → record_of (refusal n k) ≡ k
record_named n k h s = ⊎_elim (record_refusal n k h) (λ b. by_two (λ m. record_of (refusal m k) ≡ k) refl refl n b.0 b.1) s

module _ (entries : List ℕ) where
  abbrev W : List ℕ
  W = written entries

  abbrev told : Answer
  told = checked W

  abbrev exactly : Exactly W
  exactly = (account.claimed W).exactly

  -- ---- the verdict at the entry's place
  early : number_of told < 3 → verdict_on entries ≡ told
  early h = ap (λ (b : Bool). cond b told (refusal (number_of told) (get_or (places entries) (record_of told) 0))) (lt-ltb (number_of told) 3 h)

  late : 3 ≤ number_of told → verdict_on entries ≡ refusal (number_of told) (get_or (places entries) (record_of told) 0)
  late h = ap (λ (b : Bool). cond b told (refusal (number_of told) (get_or (places entries) (record_of told) 0))) (le-ltb (number_of told) 3 h)

  same_number : number_of (verdict_on entries) ≡ number_of told
  same_number = go (ltb (number_of told) 3) refl
    where
      go : (t : Bool) → ltb (number_of told) 3 ≡ t → number_of (verdict_on entries) ≡ number_of told
      go true e = ap number_of (early (ltb-true (number_of told) 3 e))
      go false e =
          let h = ltb-false (number_of told) 3 e in
          ap number_of (late h) ∙ number_named (number_of told) (get_or (places entries) (record_of told) 0) h exactly.numbers

  late_record : 3 ≤ number_of told → record_of (verdict_on entries) ≡ get_or (places entries) (record_of told) 0
  late_record h = ap record_of (late h) ∙ record_named (number_of told) (get_or (places entries) (record_of told) 0) h exactly.numbers

  module _ (lent : ℕ) where
    refused : (number_of told ≡ 0 → ⊥) → writing_answer entries lent ≡ verdict_on entries
    refused nz =
        ap (λ (b : Bool). cond (b && ltb lent (length W)) (Err TooFewBytes) (verdict_on entries))
        (ne_eqb (number_of (verdict_on entries)) 0 (λ z. nz (sym same_number ∙ z)))

    passes : number_of told ≡ 0 → writing_answer entries lent ≡ cond (ltb lent (length W)) (Err TooFewBytes) (verdict_on entries)
    passes z =
        ap (λ (b : Bool). cond (b && ltb lent (length W)) (Err TooFewBytes) (verdict_on entries))
        (eq-eqb (number_of (verdict_on entries)) 0 (same_number ∙ z))

    short : number_of told ≡ 0 → lent < length entries → writing_answer entries lent ≡ Err TooFewBytes
    short z h =
        passes z ∙ ap (λ (b : Bool). cond b (Err TooFewBytes) (verdict_on entries)) (lt-ltb lent (length W) (omega (arith, written_long entries)))

    enough : number_of told ≡ 0 → length entries ≤ lent → writing_answer entries lent ≡ Ok tt
    enough z h =
        passes z ∙ ap (λ (b : Bool). cond b (Err TooFewBytes) (verdict_on entries)) (le-ltb lent (length W) (omega (arith, written_long entries)))
        ∙ early (omega arith) ∙ accepted_only told z

    -- which of the three it is
    which :
        {P : Type 0} → (number_of told ≡ 0 → lent < length entries → P) → (number_of told ≡ 0 → length entries ≤ lent → P)
        → ((number_of told ≡ 0 → ⊥) → P) → P
    which {P} a b c = go (ℕ_discrete (number_of told) 0) (ltb lent (length entries)) refl
      where
        go : Dec (number_of told ≡ 0) → (t : Bool) → ltb lent (length entries) ≡ t → P
        go (yes z) true e = a z (ltb-true lent (length entries) e)
        go (yes z) false e = b z (ltb-false lent (length entries) e)
        go (no z) t e = c z

    -- a number that is no 0 and no 16 is the written file's
    by_file :
        (n : ℕ) → (n ≡ 0 → ⊥) → (n ≡ 16 → ⊥) → number_of (writing_answer entries lent) ≡ n
        → (writing_answer entries lent ≡ verdict_on entries) × (number_of told ≡ n)
    by_file n nz ns e =
        which (λ z l. absurd (ns (sym e ∙ ap number_of (short z l)))) (λ z l. absurd (nz (sym e ∙ ap number_of (enough z l))))
        (λ z. (refused z, sym same_number ∙ sym (ap number_of (refused z)) ∙ e))

    early_gives : (n : ℕ) → (n ≡ 0 → ⊥) → n < 3 → Answers entries lent n 0 → Gives W n 0
    early_gives n nz h a =
        let f = by_file n nz (λ z. omega arith) a.number in
        let g = f.1 in
        record { number = f.1; place = ap record_of (sym (early (omega arith)) ∙ sym f.0) ∙ a.place }

    early_answers : (n : ℕ) → (n ≡ 0 → ⊥) → n < 3 → Gives W n 0 → Answers entries lent n 0
    early_answers n nz h g =
        let num = g.number in
        let same : writing_answer entries lent ≡ told = refused (λ z. nz (sym num ∙ z)) ∙ early (omega arith) in
        record { number = ap number_of same ∙ num; place = ap record_of same ∙ g.place }

    pub refuses : Refuses entries lent
    refuses =
        record {
          one =
              record {
                forth = λ a. sym (long_same entries) ∙ exactly.one.forth (early_gives 1 (λ z. omega arith) (omega arith) a);
                back = λ e. early_answers 1 (λ z. omega arith) (omega arith) (exactly.one.back (long_same entries ∙ e));
              };
          two =
              record {
                forth =
                    λ a.
                    let t = exactly.two.forth (early_gives 2 (λ z. omega arith) (omega arith) a) in
                    (sym (long_same entries) ∙ t.0, sym (cut_same entries) ∙ t.1);
                back = λ e. early_answers 2 (λ z. omega arith) (omega arith) (exactly.two.back (long_same entries ∙ e.0, cut_same entries ∙ e.1));
              };
          others = λ n p l u. record { forth = other_forth n p l u; back = other_back n p l u };
          rates = λ n p l u. record { forth = rate_forth n p l u; back = rate_back n p l u };
          sixteen =
              record {
                forth =
                    λ a.
                    which (λ z l. (accepted_only told z, l)) (λ z l. absurd (differs 0 16 (ap number_of (enough z l)) a.number (λ e. omega arith)))
                    (λ z. absurd (too_high (sym same_number ∙ sym (ap number_of (refused z)) ∙ a.number)));
                back =
                    λ e.
                    let s = short (ap number_of e.0) e.1 in
                    record { number = ap number_of s; place = ap record_of s };
              };
          accepted =
              record {
                forth =
                    λ a.
                    which (λ z l. absurd (differs 16 0 (ap number_of (short z l)) a.number (λ e. omega arith))) (λ z l. (accepted_only told z, l))
                    (λ z. absurd (z (sym same_number ∙ sym (ap number_of (refused z)) ∙ a.number)));
                back =
                    λ e.
                    let s = enough (ap number_of e.0) e.1 in
                    record { number = ap number_of s; place = ap record_of s };
              };
        }
      where
        differs : (n m : ℕ) → number_of (writing_answer entries lent) ≡ n → number_of (writing_answer entries lent) ≡ m → (n ≡ m → ⊥) → ⊥
        differs n m a b d = d (sym a ∙ b)

        too_high : number_of told ≡ 16 → ⊥
        too_high e = ⊎_elim (λ l. omega (arith, l)) (λ b. omega (arith, b.1)) exactly.numbers

        other_forth : (n p : ℕ) → 3 ≤ n → n ≤ 9 → Answers entries lent n p → FirstEntered entries n p
        other_forth n p l u a =
            let f = by_file n (λ z. omega arith) (λ z. omega arith) a.number in
            let g = f.1 in
            record {
              at = record_of told;
              first = (exactly.others n (record_of told) l u).forth (record { number = f.1; place = refl });
              entered = sym (late_record (omega arith)) ∙ sym (ap record_of f.0) ∙ a.place;
            }

        rate_forth : (n p : ℕ) → 14 ≤ n → n ≤ 15 → Answers entries lent n p → RateEntered entries n p
        rate_forth n p l u a =
            let f = by_file n (λ z. omega arith) (λ z. omega arith) a.number in
            let g = f.1 in
            let r = (exactly.rates n (record_of told) l u).forth (record { number = f.1; place = refl }) in
            record {
              at = record_of told;
              clean = r.0;
              first = r.1;
              entered = sym (late_record (omega arith)) ∙ sym (ap record_of f.0) ∙ a.place;
            }

        rate_back : (n p : ℕ) → 14 ≤ n → n ≤ 15 → RateEntered entries n p → Answers entries lent n p
        rate_back n p l u f =
            let g = (exactly.rates n f.at l u).back (f.clean, f.first) in
            let num = g.number in
            let same = refused (λ z. omega arith) in
            record {
              number = ap number_of same ∙ same_number ∙ num;
              place = ap record_of same ∙ late_record (omega arith) ∙ ap (λ (k : ℕ). get_or (places entries) k 0) g.place ∙ f.entered;
            }

        other_back : (n p : ℕ) → 3 ≤ n → n ≤ 9 → FirstEntered entries n p → Answers entries lent n p
        other_back n p l u f =
            let g = (exactly.others n f.at l u).back f.first in
            let num = g.number in
            let same = refused (λ z. omega arith) in
            record {
              number = ap number_of same ∙ same_number ∙ num;
              place = ap record_of same ∙ late_record (omega arith) ∙ ap (λ (k : ℕ). get_or (places entries) k 0) g.place ∙ f.entered;
            }

  place_in : (k : ℕ) → k < record_count entries → get_or (places entries) k 0 < record_count entries
  place_in k h = all_at (λ (j : ℕ). j < record_count entries) 0 (places entries) (places_all entries) k (omega (arith, places_long entries))

  -- ---- 3 and 4
  third : (a b c d e f g : Bool) → (a || (false || (false || (false || (false || (false || (false || false))))))) ≡ true → a ≡ true
  third true b c d e f g h = refl
  third false b c d e f g h = h

  three_not : ((k : ℕ) → k < record_count entries → unknown_kind (record_at entries k) ≡ false) → (k : ℕ) → First W 3 k → ⊥
  three_not known k f =
      let h : k < record_count entries = omega (arith, count_same entries, f.there) in
      let u : unknown_kind (record_at W k) ≡ true = third _ true true true true true true f.holds in
      false≢true (sym (known (get_or (places entries) k 0) (place_in k h)) ∙ ap unknown_kind (sym (record_is entries k h)) ∙ u)

  -- bytes of a record
  byte_small : Bytes entries → (p i : ℕ) → i < record_bytes → byte_at (record_at entries p) i < 256
  byte_small b p i h =
      subst⁻¹ (λ (x : ℕ). x < 256) (get_or-take (1 * record_bytes) (drop (p * record_bytes) entries) i 0 (omega arith) ∙ get_or-drop (p * record_bytes) entries i 0)
      (b (p * record_bytes + i))

  kinds_rise :
      Bytes entries → (i j : ℕ) → i < j → j < record_count entries
      → kind (record_at entries (get_or (places entries) i 0)) ≤ kind (record_at entries (get_or (places entries) j 0))
  kinds_rise b i j l h =
      let p = get_or (places entries) i 0 in
      let q = get_or (places entries) j 0 in
      let up = (sorts entries).sort.ordered i j l (omega (arith, places_long entries)) in
      let s = small p in
      let t = small q in
      omega (arith, up, s, t)
    where
      small : (p : ℕ) → of_its_kind (record_at entries p) < 1099511627776
      small p =
          let d0 = byte_small b p 4 (omega arith) in
          let d1 = byte_small b p 5 (omega arith) in
          let d2 = byte_small b p 6 (omega arith) in
          let d3 = byte_small b p 7 (omega arith) in
          its_small (record_at entries p) (byte_small b p 1 (omega arith)) (λ e. omega (arith, d0, d1, d2, d3))

  fourth : (b : Bool) → (false || (b || (false || (false || (false || (false || (false || false))))))) ≡ true → b ≡ true
  fourth true h = refl
  fourth false h = h

  four-not : Bytes entries → (k : ℕ) → First W 4 k → ⊥
  four-not b zero f =
      let u : kind_falls (the_one_before (earlier W 0)) (record_at W 0) ≡ true = fourth _ f.holds in
      omega (arith, ltb-true (kind (record_at W 0)) 0 u)
  four-not b (suc k) f =
      let h : suc k < record_count entries = omega (arith, count_same entries, f.there) in
      let u : kind_falls (the_one_before (earlier W (suc k))) (record_at W (suc k)) ≡ true = fourth _ f.holds in
      let l = ltb-true (kind (record_at W (suc k))) (kind (record_at W k)) u in
      let a = ap kind (record_is entries k (omega arith)) in
      let c = ap kind (record_is entries (suc k) h) in
      omega (arith, l, a, c, kinds_rise b k (suc k) (omega arith) h)

  pub never : (lent : ℕ) → Never entries lent
  never lent =
      record {
        two = λ w a. false≢true (sym w ∙ ((refuses lent).two.forth a).1);
        three =
            λ known e.
            three_not known (record_of told)
            ((exactly.others 3 (record_of told) (omega arith) (omega arith)).forth
            (record { number = (by_file lent 3 (λ z. omega arith) (λ z. omega arith) e).1; place = refl }));
        four =
            λ b e.
            four-not b (record_of told)
            ((exactly.others 4 (record_of told) (omega arith) (omega arith)).forth
            (record { number = (by_file lent 4 (λ z. omega arith) (λ z. omega arith) e).1; place = refl }));
      }

pub claimed : Claims
claimed = record { sorts = sorts; round_trips = round_trips_lem; refuses = refuses; never = never }
