-- Runs of sound records: a record that passes its test gets no fault, and the check goes on past all of them at once.
-- Assumes nothing.
use Prim.Native.Nat.{ℕ, ◌+◌, ◌-◌, ◌*◌, ◌≤◌, ◌<◌, min}
use mathlib.Core.Path.{◌≡◌, refl, sym, ap, subst, ◌∙◌}
use mathlib.Core.Bool.{Bool, true, false, not, cond, ◌&&◌, ◌||◌, or-false, or-true}
use mathlib.Core.List.{List, [], ◌∷◌, map}
use lib.ListN.{length, get_or, set, length-set, replicate, length-replicate, get_or-replicate, length-map}
use lib.Seq.{get_or-set_same, get_or-set_other}
use lib.Dec.{eqb, leb, ltb}
use native.Mathlib.Omega.{arith}
use native.Mathlib.Numerals.{add-one}
use borrow.Author.Tests.{ltb-true, ltb-false, eqb-true, eqb-false, eq-eqb, ne_eqb, le-ltb, le-leb, lt-leb, not-true}
use Rattle.exact.specs.Lists.{any, one_if}
use Rattle.exact.proofs.Lists.{any_at, any_true, get_d_map, any_append}
use Rattle.record.specs.Bytes.{count_from}
use Rattle.record.specs.Layout.{Record, kind, contract, currency, tier, day, leg_count, two_legs, legs_of, leg_tier, second_contract, most_tier}
use Rattle.record.specs.Ranges.{unknown_kind, unused_byte, field_outside, sound_record}
use Rattle.record.specs.Within.{SpreadWithin}
use Rattle.record.proofs.Reading.{byte_past}
use Rattle.record.proofs.Sound.{Sound, sound_known}
use Rattle.record.proofs.Tests.{both}
use Rattle.record.proofs.Within.{never, both_true, neither, row_within, spread_within, entry_within, contract_known}
use Rattle.account.specs.Check.{kind_falls, number_not_above, day_not_above, tier_falls, contract_falls, out_of_order, most_contracts, most_prompts, most_rows}
use Rattle.account.specs.Check.{with_itself, most_spreads, most_entries}
use Rattle.account.specs.Conversions.{in_another, other_row}
use Rattle.account.specs.PartNumbers.{part, parts, entry_part}
use Rattle.account.specs.code.Notes.{part_of, one_more, start_noted, no_contract, no_day, no_tier, unlisted_by, over_limit_by, fault_by, prompts_noted, before_at}
use Rattle.account.specs.code.Notes.{fault_at}
use Rattle.account.specs.Parts.{of_kind, on_day, on_tier}
use Rattle.account.specs.code.Passing.{DaysListed, has_day, TiersListed, leg_unlisted_in, legs_meet, prompt_passes, row_passes, spread_passes, entry_passes}
use Rattle.account.specs.code.Passing.{contract_passes, RunTo, part_at_record, counted_to, PassesAt, Passes, After, Begins, Runs, NotedTo, Advances}
use Rattle.account.specs.Records.{cut, record_at, record_count, records, stretch}
use Rattle.account.proofs.Dispatch.{order_1, order_2, order_3, order_4, order_5, listed_2, listed_3, listed_4, listed_5, listed-none}
use Rattle.account.proofs.Dispatch.{limit_2, limit_3, limit_4, limit_5, limit_none}
use Rattle.account.proofs.Earlier.{cut_more}
use Rattle.account.proofs.Firsts.{is_0}
use Rattle.account.proofs.Legs.{or_off, legs_apart}
use Rattle.account.proofs.Orders.{cut_at}
use Rattle.account.proofs.Passed.{part_entry, part_other}
use Rattle.account.proofs.Walk.{before_is, length_cut}

-- ---- the days of prompts, the first j of them so far
pub record DaysTo (prompts days : List ℕ) (j : ℕ) : Type 0 where
  pub long : length days ≡ most_prompts
  pub noted : (i : ℕ) → i < j → get_or days i 0 ≡ day (record_at prompts i)
  pub zeros : (i : ℕ) → j ≤ i → get_or days i 0 ≡ 0

pub days_start : (prompts : List ℕ) → DaysTo prompts (replicate most_prompts 0) 0
days_start prompts =
    record {
      long = length-replicate {A = ℕ} most_prompts 0;
      noted = λ i h. absurd (omega arith);
      zeros = λ i h. go i (ltb i most_prompts) refl;
    }
  where
    go : (i : ℕ) (t : Bool) → ltb i most_prompts ≡ t → ◌≡◌ {A = ℕ} (get_or (replicate most_prompts 0) i 0) 0
    go i true e = get_or-replicate {A = ℕ} most_prompts i 0 0 (ltb-true i most_prompts e)
    go i false e =
        let l : length (replicate {A = ℕ} most_prompts 0) ≤ i = omega (arith, ltb-false i most_prompts e, length-replicate {A = ℕ} most_prompts 0) in
        byte_past (replicate most_prompts 0) i l

module _ {prompts days : List ℕ} {j : ℕ} (t : DaysTo prompts days j) where
  pub days_next : (d : ℕ) → d ≡ day (record_at prompts j) → j < most_prompts → DaysTo prompts (set days j d) (j + 1)
  days_next d e h =
      record {
        long = length-set days j d ∙ t.long;
        noted = λ i l. here i l (eqb i j) refl;
        zeros = λ i l. get_or-set_other days j i d 0 (λ z. omega arith) ∙ t.zeros i (omega arith);
      }
    where
      here : (i : ℕ) → i < j + 1 → (b : Bool) → eqb i j ≡ b → get_or (set days j d) i 0 ≡ day (record_at prompts i)
      here i l true b =
          let s = eqb-true i j b in
          ap (λ (n : ℕ). get_or (set days j d) n 0) s ∙ get_or-set_same days j d 0 (omega (arith, t.long)) ∙ e
          ∙ ap (λ (n : ℕ). day (record_at prompts n)) (sym s)
      here i l false b =
          let n = eqb-false i j b in
          get_or-set_other days j i d 0 n ∙ t.noted i (omega arith)

  pub days_end : j ≡ min (record_count prompts) most_prompts → DaysListed (records prompts) days
  days_end e = record { long = t.long; each = λ i h. go i h (ltb i j) refl }
    where
      many : length (records prompts) ≡ record_count prompts
      many = length_cut (record_count prompts) prompts

      go : (i : ℕ) → i < most_prompts → (b : Bool) → ltb i j ≡ b → get_or days i 0 ≡ get_or (map day (records prompts)) i 0
      go i h true b =
          let l = ltb-true i j b in
          let m : i < record_count prompts = omega arith in
          t.noted i l ∙ ap day (sym (cut_at (record_count prompts) i prompts m))
          ∙ sym (get_d_map day (records prompts) i [] 0 (omega (arith, many)))
      go i h false b =
          let l = ltb-false i j b in
          let m : length (map day (records prompts)) ≤ i = omega (arith, length-map (records prompts) day, many) in
          t.zeros i l ∙ sym (byte_past (map day (records prompts)) i m)

-- a day above 0 that is noted is the day of a prompt
pub day-listed : (prompts : List Record) (days : List ℕ) (d : ℕ) → DaysListed prompts days → 1 ≤ d → has_day days d ≡ true → no_day prompts d ≡ false
day-listed prompts days d t low h =
    let p = any_true (λ j. eqb (get_or days j 0) d) (count_from 0 most_prompts) 0 h in
    let j = get_or (count_from 0 most_prompts) p.place 0 in
    let e : get_or days j 0 ≡ d = eqb-true _ _ p.passes in
    found j e (ltb j most_prompts) refl (ltb j (length prompts)) refl
  where
    found :
        (j : ℕ) → get_or days j 0 ≡ d → (b : Bool) → ltb j most_prompts ≡ b → (l : Bool) → ltb j (length prompts) ≡ l
        → no_day prompts d ≡ false
    found j e true b true l =
        let m = ltb-true j (length prompts) l in
        let s : day (get_or prompts j []) ≡ d = sym (get_d_map day prompts j [] 0 m) ∙ sym (t.each j (ltb-true j most_prompts b)) ∙ e in
        ap not (any_at (on_day d) prompts j [] m (eq-eqb _ _ s))
    found j e true b false l =
        let m = ltb-false j (length prompts) l in
        let z = byte_past (map day prompts) j (omega (arith, length-map prompts day)) in
        let s = t.each j (ltb-true j most_prompts b) in
        absurd (omega arith)
    found j e false b w l =
        let z = byte_past days j (omega (arith, ltb-false j most_prompts b, t.long)) in
        absurd (omega arith)

-- ---- the tiers of prompts, of the first j so far
pub record TiersTo (prompts : List ℕ) (listed : List Bool) (j : ℕ) : Type 0 where
  pub long : length listed ≡ 256
  pub each : (t : ℕ) → t < 256 → get_or listed t false ≡ any (on_tier t) (cut j prompts)

pub tiers_start : (prompts : List ℕ) → TiersTo prompts (replicate 256 false) 0
tiers_start prompts =
    record { long = length-replicate {A = Bool} 256 false; each = λ t h. get_or-replicate {A = Bool} 256 t false false h }

pub tiers_next :
    {prompts : List ℕ} {listed : List Bool} {j : ℕ} → TiersTo prompts listed j → (u : ℕ) → u ≡ tier (record_at prompts j)
    → u < 256 → TiersTo prompts (set listed u true) (j + 1)
tiers_next {prompts} {listed} {j} s u e h =
    record { long = length-set listed u true ∙ s.long; each = λ t l. here t l (eqb u t) refl }
  where
    r : Record
    r = record_at prompts j

    grown : (t : ℕ) → any (on_tier t) (cut (j + 1) prompts) ≡ any (on_tier t) (cut j prompts) || on_tier t r
    grown t =
        ap (λ (n : ℕ). any (on_tier t) (cut n prompts)) (add-one j) ∙ ap (any (on_tier t)) (cut_more j prompts)
        ∙ any_append (on_tier t) (cut j prompts) (r ∷ [])
        ∙ ap (λ (b : Bool). any (on_tier t) (cut j prompts) || b) (or-false (on_tier t r))

    here : (t : ℕ) → t < 256 → (b : Bool) → eqb u t ≡ b → get_or (set listed u true) t false ≡ any (on_tier t) (cut (j + 1) prompts)
    here t l true b =
        let m = eqb-true u t b in
        ap (λ (n : ℕ). get_or (set listed n true) t false) m ∙ get_or-set_same listed t true false (omega (arith, s.long))
        ∙ sym (grown t ∙ ap (λ (x : Bool). any (on_tier t) (cut j prompts) || x) (eq-eqb _ _ (sym e ∙ m))
        ∙ or-true (any (on_tier t) (cut j prompts)))
    here t l false b =
        let m = eqb-false u t b in
        get_or-set_other listed u t true false (λ z. m (sym z)) ∙ s.each t l
        ∙ sym (grown t ∙ ap (λ (x : Bool). any (on_tier t) (cut j prompts) || x) (ne_eqb _ _ (λ z. m (e ∙ z)))
        ∙ or-false (any (on_tier t) (cut j prompts)))

pub tiers_end :
    {prompts : List ℕ} {listed : List Bool} {j : ℕ} → TiersTo prompts listed j → j ≡ record_count prompts
    → TiersListed (records prompts) listed
tiers_end {prompts} {listed} s e =
    record { long = s.long; each = λ t h. s.each t h ∙ ap (λ (n : ℕ). any (on_tier t) (cut n prompts)) e }

-- ---- a run
pub run_start : (passes : ℕ → Bool) {k end : ℕ} → k ≤ end → RunTo passes k end k
run_start passes h = record { low = omega arith; high = h; each = λ j l m. absurd (omega arith) }

pub run_next : (passes : ℕ → Bool) {k end i : ℕ} → RunTo passes k end i → i < end → passes i ≡ true → RunTo passes k end (i + 1)
run_next passes {k} {end} {i} s h e =
    record { low = omega (arith, s.low); high = omega arith; each = λ j l m. go j l m (eqb j i) refl }
  where
    go : (j : ℕ) → k ≤ j → j < i + 1 → (b : Bool) → eqb j i ≡ b → passes j ≡ true
    go j l m true b = ap passes (eqb-true j i b) ∙ e
    go j l m false b =
        let n = eqb-false j i b in
        s.each j l (omega arith)

-- ---- a record that passes gets no fault
and_off : (a : Bool) {b : Bool} → b ≡ false → a && b ≡ false
and_off true q = q
and_off false q = refl

part_of-sound : (n c : ℕ) (r : Record) → 2 ≤ n → n ≤ 4 → kind r ≡ n → contract r ≡ c → part_of r ≡ part n c
part_of-sound n c r low high k e =
    part_other r (λ z. omega arith) (λ z. omega arith) ∙ (λ i. most_contracts * k i + e i)

known_kind : (n : ℕ) (r : Record) → 1 ≤ n → n ≤ 5 → kind r ≡ n → unknown_kind r ≡ false
known_kind n r low high k = rw (le-leb 1 (kind r) (omega arith), le-leb (kind r) 6 (omega arith))

-- no row in another currency: a record of another kind, and a row that has to be in the margin currency
no_row : (n : ℕ) (r : Record) → kind r ≡ n → (n ≡ 3 → ⊥) → other_row r ≡ false
no_row n r k d = and_off (in_another r) (ne_eqb (kind r) 3 (λ z. d (sym k ∙ z)))

in_margin : (other : Bool) (r : Record) → other ≡ false → other || eqb (currency r) 0 ≡ true → other_row r ≡ false
in_margin true r e h = absurd (never (sym e))
in_margin false r e h = ap (λ (b : Bool). not b && of_kind 3 r) h

-- a sound record of a kind, in a part
pub record SoundIn (n p : ℕ) (r : Record) : Type 0 where
  pub kinds : kind r ≡ n
  pub unused : unused_byte r ≡ false
  pub within : field_outside r ≡ false
  pub part_is : part_of r ≡ p
  pub bound : p < parts

sound_in : (n c : ℕ) (r : Record) → 2 ≤ n → n ≤ 4 → Sound n c r → SoundIn n (part n c) r
sound_in n c r low high s =
    let h = contract_known r (known_kind n r (omega arith) (omega arith) s.kinds) s.within in
    let x = s.contracts in
    record {
      kinds = s.kinds;
      unused = s.unused;
      within = s.within;
      part_is = part_of-sound n c r low high s.kinds s.contracts;
      bound = omega arith;
    }

no_fault :
    (n p : ℕ) (counts : List ℕ) (prompts : List Record) (before r : Record) → 2 ≤ n → n ≤ 5 → SoundIn n p r
    → kind_falls before r ≡ false → unlisted_by counts prompts r ≡ false → out_of_order before r ≡ false → over_limit_by counts r ≡ false
    → fault_by counts prompts before r ≡ 0
no_fault n p counts prompts before r low high s b l o m =
    let u = known_kind n r (omega arith) high s.kinds in
    sym
    (is_0 (unknown_kind r) (kind_falls before r) (unused_byte r) (field_outside r) (unlisted_by counts prompts r) (out_of_order before r)
    (over_limit_by counts r) u b s.unused s.within l o m)

-- the records after record k, of its kind and part, as far as each is sound
pub record Alike (n most p : ℕ) (file counts : List ℕ) (k : ℕ) (passes : ℕ → Bool) (i : ℕ) : Type 0 where
  pub low : 2 ≤ n
  pub high : n ≤ 5
  pub sizes : length counts ≡ parts
  pub kinds : kind (record_at file k) ≡ n
  pub here : part_at_record file k ≡ p
  pub sound_at : (j : ℕ) → passes j ≡ true → SoundIn n p (record_at file j)
  pub run : RunTo passes (k + 1) (min (k + 1 + (most - get_or counts p 0)) (record_count file)) i

module _ {n most p : ℕ} {file counts : List ℕ} {k : ℕ} {passes : ℕ → Bool} {i : ℕ} (f : Alike n most p file counts k passes i)
    (first : List ℕ) where
  abbrev counts_at : ℕ → List ℕ
  counts_at j = counted_to file counts k j

  abbrev prompts_at : ℕ → List Record
  prompts_at j = prompts_noted file first (counts_at j) (contract (record_at file j))

  counts_are : (j : ℕ) → counts_at j ≡ set counts p (get_or counts p 0 + (j - (k + 1)))
  counts_are j = ap (λ (v : ℕ). set counts v (get_or counts v 0 + (j - (k + 1)))) f.here

  -- the notes of the other parts stand
  pub kept : (j u : ℕ) → (u ≡ p → ⊥) → get_or (counts_at j) u 0 ≡ get_or counts u 0
  kept j u d =
      ap (λ (l : List ℕ). get_or l u 0) (counts_are j) ∙ get_or-set_other counts p u (get_or counts p 0 + (j - (k + 1))) 0 d

  module _ (j : ℕ) (after : k < j) (before : j < i) where
    its : SoundIn n p (record_at file j)
    its = f.sound_at j (f.run.each j (omega arith) before)

    counted : get_or (counts_at j) p 0 ≡ get_or counts p 0 + (j - (k + 1))
    counted =
        ap (λ (l : List ℕ). get_or l p 0) (counts_are j)
        ∙ get_or-set_same counts p (get_or counts p 0 + (j - (k + 1))) 0 (omega (arith, f.sizes, its.bound))

    below : get_or (counts_at j) (part_of (record_at file j)) 0 < most
    below =
        let e = ap (λ (v : ℕ). get_or (counts_at j) v 0) its.part_is in
        let h = f.run.high in
        omega (arith, counted)

    pub unfilled : leb most (get_or (counts_at j) (part_of (record_at file j)) 0) ≡ false
    unfilled = lt-leb most _ below

    pub before_is_at : record_at file (j - 1) ≡ before_at file j
    before_is_at = before_is file j (λ z. omega arith)

    kind_before : kind (before_at file j) ≡ n
    kind_before = ap kind (sym before_is_at) ∙ go (eqb (j - 1) k) refl
      where
        go : (b : Bool) → eqb (j - 1) k ≡ b → kind (record_at file (j - 1)) ≡ n
        go true b = ap (λ (m : ℕ). kind (record_at file m)) (eqb-true (j - 1) k b) ∙ f.kinds
        go false b =
            let d = eqb-false (j - 1) k b in
            (f.sound_at (j - 1) (f.run.each (j - 1) (omega arith) (omega arith))).kinds

    rises : kind_falls (before_at file j) (record_at file j) ≡ false
    rises =
        let x = its.kinds in
        let y = kind_before in
        le-ltb (kind (record_at file j)) (kind (before_at file j)) (omega arith)

    pub passes_at :
        unlisted_by (counts_at j) (prompts_at j) (record_at file j) ≡ false → out_of_order (before_at file j) (record_at file j) ≡ false
        → over_limit_by (counts_at j) (record_at file j) ≡ false → (other_row (record_at file k) ≡ false → other_row (record_at file j) ≡ false)
        → PassesAt file first counts k j
    passes_at l o m u =
        record {
          fine = no_fault n p (counts_at j) (prompts_at j) (before_at file j) (record_at file j) f.low f.high its rises l o m;
          alike = its.part_is ∙ sym f.here;
          other =
              let e = its.kinds in
              let lo = f.low in
              ne_eqb (kind (record_at file j)) 1 (λ z. omega arith);
          unconverted = u;
        }

  pub run_passes : ((j : ℕ) → k < j → j < i → PassesAt file first counts k j) → Passes file first counts k i
  run_passes each =
      let l = f.run.low in
      let h = f.run.high in
      record { low = omega arith; high = omega arith; each = each }

-- the same of one contract
pub record Following (n most : ℕ) (file counts : List ℕ) (k c : ℕ) (passes : ℕ → Bool) (i : ℕ) : Type 0 where
  pub low : 2 ≤ n
  pub high : n ≤ 4
  pub after : After n file counts k c
  pub sound_at : (j : ℕ) → passes j ≡ true → Sound n c (record_at file j)
  pub run : RunTo passes (k + 1) (min (k + 1 + (most - get_or counts (part n c) 0)) (record_count file)) i

module _ {n most : ℕ} {file counts : List ℕ} {k c : ℕ} {passes : ℕ → Bool} {i : ℕ} (f : Following n most file counts k c passes i) where
  pub alike : Alike n most (part n c) file counts k passes i
  alike =
      record {
        low = f.low;
        high = omega (arith, f.high);
        sizes = f.after.sizes;
        kinds = f.after.kinds;
        here = part_of-sound n c (record_at file k) f.low f.high f.after.kinds f.after.contracts;
        sound_at = λ j e. sound_in n c (record_at file j) f.low f.high (f.sound_at j e);
        run = f.run;
      }

  module _ (first : List ℕ) (j : ℕ) (after : k < j) (before : j < i) where
    own : contract (record_at file j) ≡ c
    own = (f.sound_at j (f.run.each j (omega arith) before)).contracts

    kept_of : (m : ℕ) → m < n → get_or (counted_to file counts k j) (part m c) 0 ≡ get_or counts (part m c) 0
    kept_of m h = kept alike first j (part m c) (λ z. omega arith)

    pub contract-listed : no_contract (counted_to file counts k j) (contract (record_at file j)) ≡ false
    contract-listed =
        ap (no_contract (counted_to file counts k j)) own ∙ ap (λ (m : ℕ). eqb m 0) (kept_of 1 (omega (arith, f.low))) ∙ f.after.listed

    pub prompts_kept : 2 < n → prompts_noted file first (counted_to file counts k j) (contract (record_at file j)) ≡ prompts_noted file first counts c
    prompts_kept h =
        ap (prompts_noted file first (counted_to file counts k j)) own
        ∙ ap (λ (m : ℕ). records (stretch file (get_or first (part 2 c) 0) m)) (kept_of 2 h)

    own_before : contract (before_at file j) ≡ c
    own_before = ap contract (sym (before_is_at alike first j after before)) ∙ go (eqb (j - 1) k) refl
      where
        go : (b : Bool) → eqb (j - 1) k ≡ b → contract (record_at file (j - 1)) ≡ c
        go true b = ap (λ (m : ℕ). contract (record_at file m)) (eqb-true (j - 1) k b) ∙ f.after.contracts
        go false b =
            let d = eqb-false (j - 1) k b in
            (f.sound_at (j - 1) (f.run.each (j - 1) (omega arith) (omega arith))).contracts

    -- a row or an interprompt spread is not below the one before
    pub contract_stays : contract_falls (before_at file j) (record_at file j) ≡ false
    contract_stays =
        let x = own in
        let y = own_before in
        and_off (of_kind (kind (record_at file j)) (before_at file j))
        (le-ltb (contract (record_at file j)) (contract (before_at file j)) (omega arith))

-- the legs whose tier has no prompt, by the prompts and by the tiers noted of them
module _ (prompts : List Record) (listed : List Bool) (t : TiersListed prompts listed) (r : Record) where
  leg_same : (leg : ℕ) → leg_tier r leg ≤ most_tier → no_tier prompts (leg_tier r leg) ≡ leg_unlisted_in listed r leg
  leg_same leg h = ap not (sym (t.each (leg_tier r leg) (omega arith)))

  legs_same :
      kind r ≡ 4 → field_outside r ≡ false
      → any (λ leg. no_tier prompts (leg_tier r leg)) (legs_of r) ≡ any (leg_unlisted_in listed r) (legs_of r)
  legs_same e w = go (two_legs r) refl
    where
      s : SpreadWithin r
      s = spread_within r e w

      go : (b : Bool) → two_legs r ≡ b → any (λ leg. no_tier prompts (leg_tier r leg)) (legs_of r) ≡ any (leg_unlisted_in listed r) (legs_of r)
      go true b = rw b (both (leg_same 0 s.first_leg.tiers.most) (both (leg_same 1 s.second_leg.tiers.most) refl))
      go false b =
          let d = eqb-false (leg_count r) 2 b in
          let m = s.leg_counts.least in
          let n = s.leg_counts.most in
          let third = s.third_leg (omega arith) in
          rw b
          (both (leg_same 0 s.first_leg.tiers.most)
          (both (leg_same 1 s.second_leg.tiers.most) (both (leg_same 2 third.tiers.most) refl)))

-- ---- prompts, rows and interprompt spreads
module _ (file first counts : List ℕ) (k c : ℕ) {i : ℕ} where
  pub prompts_pass :
      After 2 file counts k c
      → RunTo (λ j. prompt_passes c (record_at file (j - 1)) (record_at file j)) (k + 1)
      (min (k + 1 + (most_prompts - get_or counts (part 2 c) 0)) (record_count file)) i
      → Passes file first counts k i
  prompts_pass a run = run_passes (alike following) first each
    where
      passes : ℕ → Bool
      passes j = prompt_passes c (record_at file (j - 1)) (record_at file j)

      sound_at : (j : ℕ) → passes j ≡ true → Sound 2 c (record_at file j)
      sound_at j e = sound_known 2 c (record_at file j) (both_true (sound_record 2 c (record_at file j)) _ e).0

      following : Following 2 most_prompts file counts k c passes i
      following = record { low = omega arith; high = omega arith; after = a; sound_at = sound_at; run = run }

      each : (j : ℕ) → k < j → j < i → PassesAt file first counts k j
      each j l h =
          let r = record_at file j in
          let e = (sound_at j (run.each j (omega arith) h)).kinds in
          let o = not-true _ (both_true (sound_record 2 c r) _ (run.each j (omega arith) h)).1 in
          passes_at (alike following) first j l h
          (listed_2 (counted_to file counts k j) (prompts_noted file first (counted_to file counts k j) (contract r)) r e ∙ contract-listed following first j l h)
          (order_2 (before_at file j) r e
          ∙ ap (λ (b : Record). day_not_above b r || tier_falls b r)
          (sym (before_is_at (alike following) first j l h))
          ∙ o)
          (limit_2 (counted_to file counts k j) r e ∙ unfilled (alike following) first j l h)
          (λ z. no_row 2 r e (λ y. omega arith))

  pub rows_pass :
      After 3 file counts k c → (days : List ℕ) → DaysListed (prompts_noted file first counts c) days
      → (other : Bool) → other ≡ other_row (record_at file k)
      → RunTo (λ j. row_passes c days other (record_at file j)) (k + 1) (min (k + 1 + (most_rows - get_or counts (part 3 c) 0)) (record_count file)) i
      → Passes file first counts k i
  rows_pass a days t other o run = run_passes (alike following) first each
    where
      passes : ℕ → Bool
      passes j = row_passes c days other (record_at file j)

      sound_at : (j : ℕ) → passes j ≡ true → Sound 3 c (record_at file j)
      sound_at j e =
          let r = record_at file j in
          sound_known 3 c r (both_true (sound_record 3 c r) _ (both_true (sound_record 3 c r && (other || eqb (currency r) 0)) _ e).0).0

      following : Following 3 most_rows file counts k c passes i
      following = record { low = omega arith; high = omega arith; after = a; sound_at = sound_at; run = run }

      each : (j : ℕ) → k < j → j < i → PassesAt file first counts k j
      each j l h =
          let r = record_at file j in
          let s = sound_at j (run.each j (omega arith) h) in
          let e = s.kinds in
          let d = both_true (sound_record 3 c r && (other || eqb (currency r) 0)) _ (run.each j (omega arith) h) in
          passes_at (alike following) first j l h
          (listed_3 (counted_to file counts k j) (prompts_noted file first (counted_to file counts k j) (contract r)) r e
          ∙ or_off (contract-listed following first j l h)
          (ap (λ (ps : List Record). no_day ps (day r))
          (prompts_kept following first j l h (omega arith))
          ∙ day-listed (prompts_noted file first counts c) days (day r) t (row_within r e s.within).days.least d.1))
          (order_3 (before_at file j) r e ∙ contract_stays following first j l h)
          (limit_3 (counted_to file counts k j) r e ∙ unfilled (alike following) first j l h)
          (λ z. in_margin other r (o ∙ z) (both_true (sound_record 3 c r) _ d.0).1)

  pub spreads_pass :
      After 4 file counts k c → (listed : List Bool) → TiersListed (prompts_noted file first counts c) listed
      → RunTo (λ j. spread_passes c listed (record_at file j)) (k + 1) (min (k + 1 + (most_spreads - get_or counts (part 4 c) 0)) (record_count file)) i
      → Passes file first counts k i
  spreads_pass a listed t run = run_passes (alike following) first each
    where
      passes : ℕ → Bool
      passes j = spread_passes c listed (record_at file j)

      sound_at : (j : ℕ) → passes j ≡ true → Sound 4 c (record_at file j)
      sound_at j e = sound_known 4 c (record_at file j) (both_true (sound_record 4 c (record_at file j)) _ e).0

      following : Following 4 most_spreads file counts k c passes i
      following = record { low = omega arith; high = omega arith; after = a; sound_at = sound_at; run = run }

      each : (j : ℕ) → k < j → j < i → PassesAt file first counts k j
      each j l h =
          let r = record_at file j in
          let s = sound_at j (run.each j (omega arith) h) in
          let e = s.kinds in
          let o = neither (legs_meet r) _ (not-true _ (both_true (sound_record 4 c r) _ (run.each j (omega arith) h)).1) in
          passes_at (alike following) first j l h
          (listed_4 (counted_to file counts k j) (prompts_noted file first (counted_to file counts k j) (contract r)) r e
          ∙ or_off (contract-listed following first j l h)
          (ap (λ (ps : List Record). any (λ leg. no_tier ps (leg_tier r leg)) (legs_of r))
          (prompts_kept following first j l h (omega arith))
          ∙ legs_same (prompts_noted file first counts c) listed t r e s.within ∙ o.1))
          (order_4 (before_at file j) r e
          ∙ or_off (contract_stays following first j l h) (legs_apart r (spread_within r e s.within) o.0))
          (limit_4 (counted_to file counts k j) r e ∙ unfilled (alike following) first j l h)
          (λ z. no_row 4 r e (λ y. omega arith))

-- ---- a run from record k on: the first by itself, then those after it
pub record Starting (n most p : ℕ) (file counts : List ℕ) (k : ℕ) (passes : ℕ → Bool) (i : ℕ) : Type 0 where
  pub low : 2 ≤ n
  pub high : n ≤ 5
  pub sizes : length counts ≡ parts
  pub rises : kind_falls (before_at file k) (record_at file k) ≡ false
  pub sound_at : (j : ℕ) → passes j ≡ true → SoundIn n p (record_at file j)
  pub run : RunTo passes k (min (k + (most - get_or counts p 0)) (record_count file)) i
  pub some : k < i

module _ {n most p : ℕ} {file counts : List ℕ} {k : ℕ} {passes : ℕ → Bool} {i : ℕ} (f : Starting n most p file counts k passes i)
    (first : List ℕ) where
  abbrev v : ℕ
  v = part_at_record file k

  abbrev first₁ : List ℕ
  first₁ = start_noted first counts v k

  abbrev counts₁ : List ℕ
  counts₁ = one_more counts v

  it : SoundIn n p (record_at file k)
  it =
      let h = f.some in
      f.sound_at k (f.run.each k (omega arith) h)

  room_it : get_or counts p 0 < most
  room_it =
      let h = f.run.high in
      let s = f.some in
      omega arith

  one_more_lem : get_or counts₁ p 0 ≡ get_or counts p 0 + 1
  one_more_lem =
      ap (λ (u : ℕ). get_or (one_more counts u) p 0) it.part_is
      ∙ get_or-set_same counts p (get_or counts p 0 + 1) 0 (omega (arith, f.sizes, it.bound))

  -- the notes of the other parts stand
  pub others : (u : ℕ) → (u ≡ p → ⊥) → get_or counts₁ u 0 ≡ get_or counts u 0
  others u d =
      ap (λ (w : ℕ). get_or (one_more counts w) u 0) it.part_is ∙ get_or-set_other counts p u (get_or counts p 0 + 1) 0 d

  pub first_kept : (u : ℕ) → (u ≡ p → ⊥) → get_or first₁ u 0 ≡ get_or first u 0
  first_kept u d = go (eqb (get_or counts v 0) 0)
    where
      go : (b : Bool) → get_or (cond b (set first v k) first) u 0 ≡ get_or first u 0
      go true = get_or-set_other first v u k 0 (λ z. d (z ∙ it.part_is))
      go false = refl

  pub sizes_after_lem : length counts₁ ≡ parts
  sizes_after_lem = length-set counts v (get_or counts v 0 + 1) ∙ f.sizes

  pub run_after : RunTo passes (k + 1) (min (k + 1 + (most - get_or counts₁ p 0)) (record_count file)) i
  run_after =
      let s = f.some in
      let h = f.run.high in
      let r = room_it in
      let e = one_more_lem in
      record { low = omega arith; high = omega arith; each = λ j l m. f.run.each j (omega arith) m }

  pub unfilled_here : leb most (get_or counts (part_of (record_at file k)) 0) ≡ false
  unfilled_here = lt-leb most _ (subst (λ (u : ℕ). get_or counts u 0 < most) (sym it.part_is) room_it)

  pub runs_from :
      unlisted_by counts (prompts_noted file first counts (contract (record_at file k))) (record_at file k) ≡ false
      → out_of_order (before_at file k) (record_at file k) ≡ false → over_limit_by counts (record_at file k) ≡ false
      → Passes file first₁ counts₁ k i → Runs file first counts k i
  runs_from l o m p' =
      let h = f.run.high in
      let s = f.some in
      record {
        low = omega arith;
        high = omega arith;
        fine = λ z.
            no_fault n p counts (prompts_noted file first counts (contract (record_at file k))) (before_at file k) (record_at file k) f.low
            f.high it f.rises l o m;
        later = λ z. p';
      }

-- the same of one contract
pub record Beginning (n most : ℕ) (file counts : List ℕ) (k c : ℕ) (passes : ℕ → Bool) (i : ℕ) : Type 0 where
  pub low : 2 ≤ n
  pub high : n ≤ 4
  pub begins : Begins n file counts k c
  pub sound_at : (j : ℕ) → passes j ≡ true → Sound n c (record_at file j)
  pub run : RunTo passes k (min (k + (most - get_or counts (part n c) 0)) (record_count file)) i
  pub some : k < i

module _ {n most : ℕ} {file counts : List ℕ} {k c : ℕ} {passes : ℕ → Bool} {i : ℕ} (f : Beginning n most file counts k c passes i) where
  pub starting : Starting n most (part n c) file counts k passes i
  starting =
      record {
        low = f.low;
        high = omega (arith, f.high);
        sizes = f.begins.after.sizes;
        rises = f.begins.rises;
        sound_at = λ j e. sound_in n c (record_at file j) f.low f.high (f.sound_at j e);
        run = f.run;
        some = f.some;
      }

  module _ (first : List ℕ) where
    apart : (m : ℕ) → m < n → part m c ≡ part n c → ⊥
    apart m h z = omega arith

    pub prompts_same : 2 < n
        → prompts_noted file (start_noted first counts (part_at_record file k) k) (one_more counts (part_at_record file k)) c ≡ prompts_noted file first counts c
    prompts_same h =
        (λ i. records (stretch file (first_kept starting first (part 2 c) (apart 2 h) i) (others starting first (part 2 c) (apart 2 h) i)))

    pub after_it : After n file (one_more counts (part_at_record file k)) k c
    after_it =
        let a = f.begins.after in
        record {
          inside = a.inside;
          sizes = sizes_after_lem starting first;
          kinds = a.kinds;
          contracts = a.contracts;
          listed = ap (λ (m : ℕ). eqb m 0) (others starting first (part 1 c) (apart 1 (omega (arith, f.low)))) ∙ a.listed;
        }

    pub contract_here : no_contract counts (contract (record_at file k)) ≡ false
    contract_here = ap (no_contract counts) f.begins.after.contracts ∙ f.begins.after.listed

    pub prompts_here : prompts_noted file first counts (contract (record_at file k)) ≡ prompts_noted file first counts c
    prompts_here = ap (prompts_noted file first counts) f.begins.after.contracts

-- nothing is passed over
pub none_run : (file first counts : List ℕ) (k : ℕ) → k ≤ record_count file → Runs file first counts k k
none_run file first counts k h =
    record {
      low = omega arith;
      high = h;
      fine = λ z. absurd (omega arith);
      later = λ z. absurd (omega arith);
    }

or_none : {k i : ℕ} {file first counts : List ℕ} → k ≤ record_count file → k ≤ i → (k < i → Runs file first counts k i) → Runs file first counts k i
or_none {k} {i} {file} {first} {counts} h l some = go (ltb k i) refl
  where
    go : (b : Bool) → ltb k i ≡ b → Runs file first counts k i
    go true e = some (ltb-true k i e)
    go false e =
        let g = ltb-false k i e in
        let s : k ≡ i = omega arith in
        subst (Runs file first counts k) s (none_run file first counts k h)

module _ (file first counts : List ℕ) (k c : ℕ) {i : ℕ} where
  pub prompts_run :
      Begins 2 file counts k c
      → RunTo (λ j. prompt_passes c (record_at file (j - 1)) (record_at file j)) k
      (min (k + (most_prompts - get_or counts (part 2 c) 0)) (record_count file)) i
      → Runs file first counts k i
  prompts_run b run = or_none (omega (arith, b.after.inside)) run.low go
    where
      passes : ℕ → Bool
      passes j = prompt_passes c (record_at file (j - 1)) (record_at file j)

      sound_at : (j : ℕ) → passes j ≡ true → Sound 2 c (record_at file j)
      sound_at j e = sound_known 2 c (record_at file j) (both_true (sound_record 2 c (record_at file j)) _ e).0

      go : k < i → Runs file first counts k i
      go h =
          let f : Beginning 2 most_prompts file counts k c passes i =
          record { low = omega arith; high = omega arith; begins = b; sound_at = sound_at; run = run; some = h } in
          let r = record_at file k in
          let e = b.after.kinds in
          let o = not-true _ (both_true (sound_record 2 c r) _ (run.each k (omega arith) h)).1 in
          runs_from (starting f) first
          (listed_2 counts (prompts_noted file first counts (contract r)) r e ∙ contract_here f first)
          (order_2 (before_at file k) r e
          ∙ ap (λ (q : Record). day_not_above q r || tier_falls q r) (sym (before_is file k (λ z. omega (arith, b.later)))) ∙ o)
          (limit_2 counts r e ∙ unfilled_here (starting f) first)
          (prompts_pass file (start_noted first counts (part_at_record file k) k) (one_more counts (part_at_record file k)) k c
          (after_it f first) (run_after (starting f) first))

  pub rows_run :
      Begins 3 file counts k c → (days : List ℕ) → DaysListed (prompts_noted file first counts c) days
      → (other : Bool) → other ≡ other_row (record_at file k)
      → RunTo (λ j. row_passes c days other (record_at file j)) k (min (k + (most_rows - get_or counts (part 3 c) 0)) (record_count file)) i
      → Runs file first counts k i
  rows_run b days t other o run = or_none (omega (arith, b.after.inside)) run.low go
    where
      passes : ℕ → Bool
      passes j = row_passes c days other (record_at file j)

      sound_at : (j : ℕ) → passes j ≡ true → Sound 3 c (record_at file j)
      sound_at j e =
          let r = record_at file j in
          sound_known 3 c r (both_true (sound_record 3 c r) _ (both_true (sound_record 3 c r && (other || eqb (currency r) 0)) _ e).0).0

      go : k < i → Runs file first counts k i
      go h =
          let f : Beginning 3 most_rows file counts k c passes i =
          record { low = omega arith; high = omega arith; begins = b; sound_at = sound_at; run = run; some = h } in
          let r = record_at file k in
          let e = b.after.kinds in
          let s = sound_at k (run.each k (omega arith) h) in
          let d = both_true (sound_record 3 c r && (other || eqb (currency r) 0)) _ (run.each k (omega arith) h) in
          runs_from (starting f) first
          (listed_3 counts (prompts_noted file first counts (contract r)) r e
          ∙ or_off (contract_here f first)
          (ap (λ (ps : List Record). no_day ps (day r)) (prompts_here f first)
          ∙ day-listed (prompts_noted file first counts c) days (day r) t (row_within r e s.within).days.least d.1))
          (order_3 (before_at file k) r e ∙ b.stays)
          (limit_3 counts r e ∙ unfilled_here (starting f) first)
          (rows_pass file (start_noted first counts (part_at_record file k) k) (one_more counts (part_at_record file k)) k c
          (after_it f first) days
          (subst (λ (ps : List Record). DaysListed ps days) (sym (prompts_same f first (omega arith))) t) other o (run_after (starting f) first))

  pub spreads_run :
      Begins 4 file counts k c → (listed : List Bool) → TiersListed (prompts_noted file first counts c) listed
      → RunTo (λ j. spread_passes c listed (record_at file j)) k (min (k + (most_spreads - get_or counts (part 4 c) 0)) (record_count file)) i
      → Runs file first counts k i
  spreads_run b listed t run = or_none (omega (arith, b.after.inside)) run.low go
    where
      passes : ℕ → Bool
      passes j = spread_passes c listed (record_at file j)

      sound_at : (j : ℕ) → passes j ≡ true → Sound 4 c (record_at file j)
      sound_at j e = sound_known 4 c (record_at file j) (both_true (sound_record 4 c (record_at file j)) _ e).0

      go : k < i → Runs file first counts k i
      go h =
          let f : Beginning 4 most_spreads file counts k c passes i =
          record { low = omega arith; high = omega arith; begins = b; sound_at = sound_at; run = run; some = h } in
          let r = record_at file k in
          let e = b.after.kinds in
          let s = sound_at k (run.each k (omega arith) h) in
          let o = neither (legs_meet r) _ (not-true _ (both_true (sound_record 4 c r) _ (run.each k (omega arith) h)).1) in
          runs_from (starting f) first
          (listed_4 counts (prompts_noted file first counts (contract r)) r e
          ∙ or_off (contract_here f first)
          (ap (λ (ps : List Record). any (λ leg. no_tier ps (leg_tier r leg)) (legs_of r)) (prompts_here f first)
          ∙ legs_same (prompts_noted file first counts c) listed t r e s.within ∙ o.1))
          (order_4 (before_at file k) r e ∙ or_off b.stays (legs_apart r (spread_within r e s.within) o.0))
          (limit_4 counts r e ∙ unfilled_here (starting f) first)
          (spreads_pass file (start_noted first counts (part_at_record file k) k) (one_more counts (part_at_record file k)) k c
          (after_it f first) listed
          (subst (λ (ps : List Record). TiersListed ps listed) (sym (prompts_same f first (omega arith))) t) (run_after (starting f) first))

-- ---- a contract's own record, a run of one
pub contract_run :
    (file first counts : List ℕ) (k : ℕ) {before r : Record} → k < record_count file → before ≡ before_at file k → r ≡ record_at file k
    → contract_passes before r ≡ true → Runs file first counts k (k + 1)
contract_run file first counts k inside eb er h =
    let own = record_at file k in
    let before = before_at file k in
    let p : contract_passes before own ≡ true = sym (λ i. contract_passes (eb i) (er i)) ∙ h in
    let t = both_true (not (kind_falls before own || number_not_above before own)) _ p in
    let o = neither (kind_falls before own) _ (not-true _ t.0) in
    let s = sound_known 1 (contract own) own t.1 in
    let e = s.kinds in
    let prompts = prompts_noted file first counts (contract own) in
    record {
      low = omega arith;
      high = omega arith;
      fine = λ z.
          sym
          (is_0 (unknown_kind own) (kind_falls before own) (unused_byte own) (field_outside own) (unlisted_by counts prompts own)
          (out_of_order before own) (over_limit_by counts own) (known_kind 1 own (omega arith) (omega arith) e) o.0 s.unused s.within
          (listed-none counts prompts own (λ y. omega arith) (λ y. omega arith) (λ y. omega arith) (λ y. omega arith))
          (order_1 before own e ∙ o.1)
          (limit_none counts own (λ y. omega arith) (λ y. omega arith) (λ y. omega arith) (λ y. omega arith)));
      later = λ z. record { low = omega arith; high = omega arith; each = λ j l m. absurd (omega arith) };
    }

-- ---- intercontract spreads: one part, of whichever contracts
pub record EntryPassed (own : List ℕ) (r : Record) : Type 0 where
  pub its_sound : SoundIn 5 entry_part r
  pub names : (counts : List ℕ) → ((u : ℕ) → u < part 2 0 → get_or counts u 0 ≡ get_or own u 0)
      → no_contract counts (contract r) || no_contract counts (second_contract r) ≡ false
  pub two : with_itself r ≡ false

entry_passed : (own : List ℕ) (r : Record) → entry_passes own r ≡ true → EntryPassed own r
entry_passed own r h =
    let e = both_true (sound_record 5 (contract r) r) _ h in
    let s = sound_known 5 (contract r) r e.0 in
    let o = neither (no_contract own (contract r)) _ (not-true _ e.1) in
    let q = neither (no_contract own (second_contract r)) _ o.1 in
    let w = entry_within r s.kinds s.within in
    record {
      its_sound = record { kinds = s.kinds; unused = s.unused; within = s.within; part_is = part_entry r s.kinds; bound = omega arith };
      names = λ counts same.
          or_off
          (ap (λ (m : ℕ). eqb m 0) (same (part 1 (contract r)) (omega (arith, w.contracts))) ∙ o.0)
          (ap (λ (m : ℕ). eqb m 0) (same (part 1 (second_contract r)) (omega (arith, w.seconds))) ∙ q.0);
      two = q.1;
    }

-- `own` are the notes at the beginning of the run
module _ (file first counts own : List ℕ) (k : ℕ) (same : (u : ℕ) → u < part 2 0 → get_or counts u 0 ≡ get_or own u 0) where
  abbrev entry_at : ℕ → Bool
  entry_at j = entry_passes own (record_at file j)

  pub entries_pass :
      {i : ℕ} → length counts ≡ parts → kind (record_at file k) ≡ 5
      → RunTo entry_at (k + 1) (min (k + 1 + (most_entries - get_or counts entry_part 0)) (record_count file)) i
      → Passes file first counts k i
  entries_pass {i} sizes e run = run_passes all first each
    where
      all : Alike 5 most_entries entry_part file counts k entry_at i
      all =
          record {
            low = omega arith;
            high = omega arith;
            sizes = sizes;
            kinds = e;
            here = part_entry (record_at file k) e;
            sound_at = λ j h. (entry_passed own (record_at file j) h).its_sound;
            run = run;
          }

      each : (j : ℕ) → k < j → j < i → PassesAt file first counts k j
      each j l h =
          let r = record_at file j in
          let p = entry_passed own r (run.each j (omega arith) h) in
          let n = p.its_sound.kinds in
          passes_at all first j l h
          (listed_5 (counted_to file counts k j) (prompts_noted file first (counted_to file counts k j) (contract r)) r n
          ∙ p.names (counted_to file counts k j) (λ u b. kept all first j u (λ z. omega arith) ∙ same u b))
          (order_5 (before_at file j) r n ∙ p.two)
          (limit_5 (counted_to file counts k j) r n ∙ unfilled all first j l h)
          (λ z. no_row 5 r n (λ y. omega arith))

pub entries_run :
    (file first counts : List ℕ) (k : ℕ) {i : ℕ} → k < record_count file → length counts ≡ parts
    → kind_falls (before_at file k) (record_at file k) ≡ false
    → RunTo (λ j. entry_passes counts (record_at file j)) k (min (k + (most_entries - get_or counts entry_part 0)) (record_count file)) i
    → Runs file first counts k i
entries_run file first counts k {i} inside sizes rises run = or_none (omega arith) run.low go
  where
    passes : ℕ → Bool
    passes j = entry_passes counts (record_at file j)

    go : k < i → Runs file first counts k i
    go h =
        let f : Starting 5 most_entries entry_part file counts k passes i =
        record {
          low = omega arith;
          high = omega arith;
          sizes = sizes;
          rises = rises;
          sound_at = λ j e. (entry_passed counts (record_at file j) e).its_sound;
          run = run;
          some = h;
        } in
        let r = record_at file k in
        let p = entry_passed counts r (run.each k (omega arith) h) in
        let e = p.its_sound.kinds in
        runs_from f first
        (listed_5 counts (prompts_noted file first counts (contract r)) r e ∙ p.names counts (λ u b. refl))
        (order_5 (before_at file k) r e ∙ p.two)
        (limit_5 counts r e ∙ unfilled_here f first)
        (entries_pass file (start_noted first counts (part_at_record file k) k) (one_more counts (part_at_record file k)) counts k
        (λ u b. others f first u (λ z. omega arith)) (sizes_after_lem f first) e (run_after f first))

-- a run may begin at record k, from what is read of it
pub begins_read :
    {file counts : List ℕ} {k : ℕ} {r before : Record} (n m c : ℕ) → k < record_count file → length counts ≡ parts → (k ≡ 0 → ⊥)
    → r ≡ record_at file k → before ≡ record_at file (k - 1) → m ≡ kind r → c ≡ contract r → c < 256
    → not (no_contract counts c || (kind_falls before r || contract_falls before r)) ≡ true → m ≡ n → Begins n file counts k c
begins_read {file} {counts} {k} {r} {before} n m c inside sizes nz e eb km cc byte may mn =
    let x = neither (no_contract counts c) _ (not-true _ may) in
    let y = neither (kind_falls before r) _ x.1 in
    let b : before ≡ before_at file k = eb ∙ before_is file k nz in
    record {
      after =
          record {
            inside = inside;
            sizes = sizes;
            kinds = ap kind (sym e) ∙ sym km ∙ mn;
            contracts = ap contract (sym e) ∙ sym cc;
            listed = x.0;
          };
      rises = sym (λ i. kind_falls (b i) (e i)) ∙ y.0;
      stays = sym (λ i. contract_falls (b i) (e i)) ∙ y.1;
      later = omega (arith, nz);
      byte = byte;
    }

-- record k noted with those after it
pub noted_to :
    {file first counts first' counts₁ counts' : List ℕ} {k next v : ℕ} → v ≡ part_at_record file k → first' ≡ start_noted first counts v k
    → counts₁ ≡ one_more counts v → counts' ≡ set counts₁ v (get_or counts₁ v 0 + (next - (k + 1)))
    → NotedTo file first counts k next first' counts'
noted_to {file} {first} {counts} {first'} {counts₁} {counts'} {k} {next} {v} hv hf hc hm =
    let one = hc ∙ ap (one_more counts) hv in
    record {
      started = hf ∙ ap (λ (u : ℕ). start_noted first counts u k) hv;
      counted =
          hm ∙ ap (λ (u : ℕ). set counts₁ u (get_or counts₁ u 0 + (next - (k + 1)))) hv
          ∙ ap (λ (l : List ℕ). counted_to file l k next) one;
    }

-- ---- one step
module _ {file first counts first' counts' : List ℕ} {k : ℕ} where
  pub step_runs :
      {next contracts : ℕ} {own : Record} → Runs file first counts k next → k < next → NotedTo file first counts k next first' counts'
      → contracts ≡ one_if (of_kind 1 own) → own ≡ record_at file k → Advances file first counts k next contracts first' counts'
  step_runs {next} r h n o eo =
      record {
        fine = r.fine h;
        noted = n;
        later = subst (λ (l : List ℕ). Passes file l (one_more counts (part_at_record file k)) k next) (sym n.started) (r.later h);
        own = o ∙ ap (λ (x : Record). one_if (of_kind 1 x)) eo;
      }

  pub step_alone :
      {contracts : ℕ} {r : Record} → fault_at file first counts k ≡ 0 → k < record_count file
      → NotedTo file first counts k (k + 1) first' counts' → contracts ≡ one_if (of_kind 1 r) → r ≡ record_at file k
      → Advances file first counts k (k + 1) contracts first' counts'
  step_alone z h n o er =
      record {
        fine = z;
        noted = n;
        later = record { low = omega arith; high = omega arith; each = λ j l m. absurd (omega arith) };
        own = o ∙ ap (λ (x : Record). one_if (of_kind 1 x)) er;
      }
