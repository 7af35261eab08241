-- The joined account: what its parts are, that its records are as the check leaves them where those of both files are, and that with no noon file it is the
-- morning's.
-- Assumes nothing.
use Rattle.std.specs.Prelude.{Ok}
use Prim.Native.Nat.{ℕ, zero, suc, ◌+◌, ◌*◌, ◌/◌, ◌%◌, ◌≤◌, ◌<◌}
use mathlib.Core.Path.{◌≡◌, refl, sym, ap, ap₂, subst, subst⁻¹, subst₂, ◌∙◌}
use mathlib.Core.Bool.{Bool, true, false, cond}
use mathlib.Core.List.{List, [], ◌∷◌, ◌++◌, map, append-nil, append_assoc}
use lib.ListN.{length, length-append}
use lib.Dec.{eqb, leb}
use native.Mathlib.Omega.{arith}
use borrow.Author.Tests.{eq-eqb, ne_eqb, eqb-true, eqb-false, leb-true, leb-false}
use Rattle.exact.specs.Lists.{keep, any, one_if, count, sum}
use Rattle.exact.proofs.Lists.{sum-map_add, keep_append}
use Rattle.record.specs.Bytes.{count_from}
use Rattle.record.specs.Layout.{Record, kind, contract, day, second_contract, most_contract}
use Rattle.record.specs.Within.{ContractWithin, PromptWithin, RowWithin, SpreadWithin, EntryWithin, RateWithin}
use Rattle.record.proofs.Within.{by_kind}
use Rattle.account.specs.Accepted.{Each, OnePrompt, listed, EntryNamed}
use Rattle.account.specs.Check.{records_checked, most_records, legs_clash, with_itself, most_contracts, most_prompts, most_rows, most_spreads, most_entries}
use Rattle.account.specs.Joined.{supplier, in_turn, joined_of, from_morning, joined}
use Rattle.account.specs.Lawful.{Recorded}
use Rattle.account.specs.PartNumbers.{parts, in_part, entry_part, rate_part, part}
use Rattle.account.specs.code.Notes.{part_of}
use Rattle.account.specs.Orders.{Rising, Later, RatesRise}
use Rattle.account.specs.Parts.{of_kind, of_contract, on_day, contracts_of, prompts_of, rows_of, entries_of, rates_of}
use Rattle.account.specs.Records.{cut, record_at, records, record_count}
use Rattle.account.proofs.Days.{none_kept}
use Rattle.account.proofs.Earlier.{cut_more}
use Rattle.account.proofs.Every.{every_append, every_weaker, every_of_kept, length_kept}
use Rattle.account.proofs.Laid.{Faultless, laid, passed_at}
use Rattle.account.proofs.Lists.{any_kept, keeps_not, keeps_one, every_both, kept_pass, keep_all, keep-none, every_stricter}
use Rattle.account.proofs.Named.{kind_of}
use Rattle.account.proofs.Noted.{part_is}
use Rattle.account.proofs.Orders.{every_at, fine}
use Rattle.account.proofs.Passed.{Known, known_of, part_cases, part_bound, mine}

-- ---- lists one after the other
module _ (f : ℕ → List Record) where
  pub every_turn :
      (P : Record → Type 0) (a n : ℕ) → ((v : ℕ) → a ≤ v → v < a + n → Each P (f v)) → Each P (in_turn f a n)
  every_turn P a zero h = tt
  every_turn P a (suc n) h =
      every_append P (f a) (in_turn f (a + 1) n) (h a (omega arith) (omega arith))
      (every_turn P (a + 1) n (λ v l m. h v (omega arith) (omega arith)))

  keep_turn : (p : Record → Bool) (a n : ℕ) → keep p (in_turn f a n) ≡ in_turn (λ v. keep p (f v)) a n
  keep_turn p a zero = refl
  keep_turn p a (suc n) =
      keep_append p (f a) (in_turn f (a + 1) n)
      ∙ ap (λ (rs : List Record). keep p (f a) ++ rs) (keep_turn p (a + 1) n)

  pub none_turn : (a n : ℕ) → ((v : ℕ) → a ≤ v → v < a + n → f v ≡ []) → in_turn f a n ≡ []
  none_turn a zero h = refl
  none_turn a (suc n) h =
      rw (h a (omega arith) (omega arith)) (none_turn (a + 1) n (λ v l m. h v (omega arith) (omega arith)))

  only_turn :
      (t a n : ℕ) → a ≤ t → t < a + n → ((v : ℕ) → (v ≡ t → ⊥) → f v ≡ []) → in_turn f a n ≡ f t
  only_turn t a zero l m h = absurd (omega arith)
  only_turn t a (suc n) l m h = go (eqb a t) refl (λ i. only_turn t (a + 1) n i (omega arith) h)
    where
      go : (b : Bool) → eqb a t ≡ b → (a + 1 ≤ t → in_turn f (a + 1) n ≡ f t) → f a ++ in_turn f (a + 1) n ≡ f t
      go true e rest =
          let i = eqb-true a t e in
          ap (λ (rs : List Record). f a ++ rs) (none_turn (a + 1) n (λ v j k. h v (λ z. omega arith)))
          ∙ append-nil (f a) ∙ ap f i
      go false e rest =
          let d = eqb-false a t e in
          ap (λ (rs : List Record). rs ++ in_turn f (a + 1) n) (h a d) ∙ rest (omega arith)

-- of five lists one after the other, where all but one are empty
module _ (a b c d e : List Record) where
  abbrev five : List Record
  five = a ++ (b ++ (c ++ (d ++ e)))

  only_1 : b ≡ [] → c ≡ [] → d ≡ [] → e ≡ [] → five ≡ a
  only_1 w x y z = rw (w, x, y, z) (append-nil a)

  only_2 : a ≡ [] → c ≡ [] → d ≡ [] → e ≡ [] → five ≡ b
  only_2 w x y z = rw (w, x, y, z) (append-nil b)

  only_3 : a ≡ [] → b ≡ [] → d ≡ [] → e ≡ [] → five ≡ c
  only_3 w x y z = rw (w, x, y, z) (append-nil c)

  only_4 : a ≡ [] → b ≡ [] → c ≡ [] → e ≡ [] → five ≡ d
  only_4 w x y z = rw (w, x, y, z) (append-nil d)

  pub only_5 : a ≡ [] → b ≡ [] → c ≡ [] → d ≡ [] → five ≡ e
  only_5 w x y z = rw (w, x, y, z)

  keep_five : (p : Record → Bool) → keep p five ≡ keep p a ++ (keep p b ++ (keep p c ++ (keep p d ++ keep p e)))
  keep_five p =
      rw (
        keep_append p a (b ++ (c ++ (d ++ e))),
        keep_append p b (c ++ (d ++ e)),
        keep_append p c (d ++ e),
        keep_append p d e,
      )

every_five :
    (P : Record → Type 0) (a b c d e : List Record) → Each P a → Each P b → Each P c → Each P d → Each P e
    → Each P (five a b c d e)
every_five P a b c d e u v w x y =
    every_append P a (b ++ (c ++ (d ++ e))) u
    (every_append P b (c ++ (d ++ e)) v (every_append P c (d ++ e) w (every_append P d e x y)))

-- ---- a record's kind and contract
pub other_kind : (k c : ℕ) (r : Record) → (kind r ≡ k → ⊥) → of_contract k c r ≡ false
other_kind k c r d = rw (ne_eqb (kind r) k d)

other_contract : (k c d : ℕ) (r : Record) → (d ≡ c → ⊥) → of_contract k d r ≡ true → of_contract k c r ≡ false
other_contract k c d r h e =
    let i = kind_of k d r e in
    rw (eq-eqb (kind r) k i.0) (ne_eqb (contract r) c (λ z. h (sym i.1 ∙ z)))

-- ---- the parts of the joined account
module _ (m n : List Record) where
  pub joined-kind : (k : ℕ) → Each (λ r. kind r ≡ k) (joined_of m n k)
  joined-kind k =
      every_turn (λ c. keep (of_contract k c) (supplier m n c)) (λ r. kind r ≡ k) 0 most_contracts
      (λ c l h. every_weaker (keep (of_contract k c) (supplier m n c)) (λ r e. (kind_of k c r e).0)
      (kept_pass (of_contract k c) (supplier m n c)))

  pub entries_kind : Each (λ r. kind r ≡ 5) (entries_of m)
  entries_kind = every_weaker (entries_of m) (λ r e. eqb-true (kind r) 5 e) (kept_pass (of_kind 5) m)

  pub rates_kind : Each (λ r. kind r ≡ 6) (rates_of m)
  rates_kind = every_weaker (rates_of m) (λ r e. eqb-true (kind r) 6 e) (kept_pass (of_kind 6) m)

  -- what holds of the records of both files
  pub every-joined : (P : Record → Type 0) → Each P m → Each P n → Each P (joined m n)
  every-joined P a b =
      every_five P (joined_of m n 1) (joined_of m n 2) (joined_of m n 3) (joined_of m n 4) (from_morning m) (of 1) (of 2) (of 3) (of 4)
      (every_append P (entries_of m) (rates_of m) (every_of_kept P (of_kind 5) m a) (every_of_kept P (of_kind 6) m a))
    where
      either : (t : Bool) → Each P (cond t n m)
      either true = b
      either false = a

      of : (k : ℕ) → Each P (joined_of m n k)
      of k =
          every_turn (λ c. keep (of_contract k c) (supplier m n c)) P 0 most_contracts
          (λ c l h. every_of_kept P (of_contract k c) (supplier m n c) (either (listed c n)))

  -- a test that records of one kind alone pass
  module _ (p : Record → Bool) where
    abbrev Alone : ℕ → Type 0
    Alone k = (r : Record) → (kind r ≡ k → ⊥) → p r ≡ false

    pub others : (k j : ℕ) → Alone k → (j ≡ k → ⊥) → keep p (joined_of m n j) ≡ []
    others k j only h =
        keep-none p (joined_of m n j)
        (every_weaker (joined_of m n j) (λ r e. only r (λ z. h (sym e ∙ z))) (joined-kind j))

    no_entries : (k : ℕ) → Alone k → (5 ≡ k → ⊥) → keep p (entries_of m) ≡ []
    no_entries k only h =
        keep-none p (entries_of m) (every_weaker (entries_of m) (λ r e. only r (λ z. h (sym e ∙ z))) entries_kind)

    no_rates : (k : ℕ) → Alone k → (6 ≡ k → ⊥) → keep p (rates_of m) ≡ []
    no_rates k only h =
        keep-none p (rates_of m) (every_weaker (rates_of m) (λ r e. only r (λ z. h (sym e ∙ z))) rates_kind)

    pub none_mornings : (k : ℕ) → Alone k → (5 ≡ k → ⊥) → (6 ≡ k → ⊥) → keep p (from_morning m) ≡ []
    none_mornings k only h i =
        keep_append p (entries_of m) (rates_of m) ∙ ap₂ (λ (a b : List Record). a ++ b) (no_entries k only h) (no_rates k only i)

    abbrev kept : ℕ → List Record
    kept k = keep p (joined_of m n k)

    pub by_parts : keep p (joined m n) ≡ five (kept 1) (kept 2) (kept 3) (kept 4) (keep p (from_morning m))
    by_parts = keep_five (joined_of m n 1) (joined_of m n 2) (joined_of m n 3) (joined_of m n 4) (from_morning m) p

    of_kind_lem : (k : ℕ) → 1 ≤ k → k ≤ 6 → k ≤ 4 → Alone k → keep p (joined m n) ≡ kept k
    of_kind_lem =
        by_kind (λ k. k ≤ 4 → Alone k → keep p (joined m n) ≡ kept k)
        (λ h only. by_parts ∙ only_1 (kept 1) (kept 2) (kept 3) (kept 4) (keep p (from_morning m))
        (others 1 2 only (λ z. omega arith)) (others 1 3 only (λ z. omega arith)) (others 1 4 only (λ z. omega arith))
        (none_mornings 1 only (λ z. omega arith) (λ z. omega arith)))
        (λ h only. by_parts ∙ only_2 (kept 1) (kept 2) (kept 3) (kept 4) (keep p (from_morning m))
        (others 2 1 only (λ z. omega arith)) (others 2 3 only (λ z. omega arith)) (others 2 4 only (λ z. omega arith))
        (none_mornings 2 only (λ z. omega arith) (λ z. omega arith)))
        (λ h only. by_parts ∙ only_3 (kept 1) (kept 2) (kept 3) (kept 4) (keep p (from_morning m))
        (others 3 1 only (λ z. omega arith)) (others 3 2 only (λ z. omega arith)) (others 3 4 only (λ z. omega arith))
        (none_mornings 3 only (λ z. omega arith) (λ z. omega arith)))
        (λ h only. by_parts ∙ only_4 (kept 1) (kept 2) (kept 3) (kept 4) (keep p (from_morning m))
        (others 4 1 only (λ z. omega arith)) (others 4 2 only (λ z. omega arith)) (others 4 3 only (λ z. omega arith))
        (none_mornings 4 only (λ z. omega arith) (λ z. omega arith)))
        (λ h only. absurd (omega arith)) (λ h only. absurd (omega arith))

  kept_turn :
      (k c : ℕ) → 1 ≤ k → k ≤ 4
      → keep (of_contract k c) (joined m n)
      ≡ in_turn (λ d. keep (of_contract k c) (keep (of_contract k d) (supplier m n d))) 0 most_contracts
  kept_turn k c l h =
      of_kind_lem (of_contract k c) k l (omega arith) h (λ r d. other_kind k c r d)
      ∙ keep_turn (λ d. keep (of_contract k d) (supplier m n d)) (of_contract k c) 0 most_contracts

  apart :
      (k c d : ℕ) → (d ≡ c → ⊥) → keep (of_contract k c) (keep (of_contract k d) (supplier m n d)) ≡ []
  apart k c d h =
      keep-none (of_contract k c) (keep (of_contract k d) (supplier m n d))
      (every_weaker (keep (of_contract k d) (supplier m n d)) (λ r e. other_contract k c d r h e)
      (kept_pass (of_contract k d) (supplier m n d)))

  pub part-joined :
      (k c : ℕ) → 1 ≤ k → k ≤ 4 → c ≤ most_contract
      → keep (of_contract k c) (joined m n) ≡ keep (of_contract k c) (supplier m n c)
  part-joined k c l h most =
      kept_turn k c l h
      ∙ only_turn (λ d. keep (of_contract k c) (keep (of_contract k d) (supplier m n d))) c 0 most_contracts (omega arith)
      (omega arith) (λ d e. apart k c d e)
      ∙ keep_all (of_contract k c) (keep (of_contract k c) (supplier m n c)) (kept_pass (of_contract k c) (supplier m n c))

  -- no contract has a number above 15
  part-beyond : (k c : ℕ) → 1 ≤ k → k ≤ 4 → most_contract < c → keep (of_contract k c) (joined m n) ≡ []
  part-beyond k c l h beyond =
      kept_turn k c l h
      ∙ none_turn (λ d. keep (of_contract k c) (keep (of_contract k d) (supplier m n d))) 0 most_contracts
      (λ d i j. apart k c d (λ e. omega arith))

  pub contracts-joined : contracts_of (joined m n) ≡ joined_of m n 1
  contracts-joined =
      of_kind_lem (of_kind 1) 1 (omega arith) (omega arith) (omega arith) (λ r d. ne_eqb (kind r) 1 d)
      ∙ keep_all (of_kind 1) (joined_of m n 1)
      (every_weaker (joined_of m n 1) (λ r e. eq-eqb (kind r) 1 e) (joined-kind 1))

  pub entries_joined : entries_of (joined m n) ≡ entries_of m
  entries_joined =
      let no : (j : ℕ) → (j ≡ 5 → ⊥) → keep (of_kind 5) (joined_of m n j) ≡ [] =
      λ j h. others (of_kind 5) 5 j (λ r d. ne_eqb (kind r) 5 d) h in
      by_parts (of_kind 5)
      ∙ only_5 (keep (of_kind 5) (joined_of m n 1)) (keep (of_kind 5) (joined_of m n 2)) (keep (of_kind 5) (joined_of m n 3))
      (keep (of_kind 5) (joined_of m n 4)) (keep (of_kind 5) (from_morning m)) (no 1 (λ z. omega arith))
      (no 2 (λ z. omega arith)) (no 3 (λ z. omega arith)) (no 4 (λ z. omega arith))
      ∙ keep_append (of_kind 5) (entries_of m) (rates_of m)
      ∙ ap₂ (λ (a b : List Record). a ++ b) (keep_all (of_kind 5) (entries_of m) (kept_pass (of_kind 5) m))
      (no_rates (of_kind 5) 5 (λ r d. ne_eqb (kind r) 5 d) (λ z. omega arith))
      ∙ append-nil (entries_of m)

  pub rates_joined : rates_of (joined m n) ≡ rates_of m
  rates_joined =
      let no : (j : ℕ) → (j ≡ 6 → ⊥) → keep (of_kind 6) (joined_of m n j) ≡ [] =
      λ j h. others (of_kind 6) 6 j (λ r d. ne_eqb (kind r) 6 d) h in
      by_parts (of_kind 6)
      ∙ only_5 (keep (of_kind 6) (joined_of m n 1)) (keep (of_kind 6) (joined_of m n 2)) (keep (of_kind 6) (joined_of m n 3))
      (keep (of_kind 6) (joined_of m n 4)) (keep (of_kind 6) (from_morning m)) (no 1 (λ z. omega arith))
      (no 2 (λ z. omega arith)) (no 3 (λ z. omega arith)) (no 4 (λ z. omega arith))
      ∙ keep_append (of_kind 6) (entries_of m) (rates_of m)
      ∙ ap₂ (λ (a b : List Record). a ++ b) (no_entries (of_kind 6) 6 (λ r d. ne_eqb (kind r) 6 d) (λ z. omega arith))
      (keep_all (of_kind 6) (rates_of m) (kept_pass (of_kind 6) m))

-- ---- each record of the joined account is of one part
counted_none : (f : ℕ → Bool) (a n : ℕ) → ((v : ℕ) → a ≤ v → v < a + n → f v ≡ false) → count f (count_from a n) ≡ 0
counted_none f a zero h = refl
counted_none f a (suc n) h =
    rw (h a (omega arith) (omega arith), counted_none f (a + 1) n (λ v l m. h v (omega arith) (omega arith)))

counted_once :
    (f : ℕ → Bool) (t a n : ℕ) → a ≤ t → t < a + n → ((v : ℕ) → v < a + n → f v ≡ eqb t v) → count f (count_from a n) ≡ 1
counted_once f t a zero l h is = absurd (omega arith)
counted_once f t a (suc n) l h is =
    go (eqb t a) refl (λ i. counted_once f t (a + 1) n i (omega arith) (λ v m. is v (omega arith)))
  where
    go : (b : Bool) → eqb t a ≡ b → (a + 1 ≤ t → count f (count_from (a + 1) n) ≡ 1) → count f (count_from a (suc n)) ≡ 1
    go true e rest =
        let i = eqb-true t a e in
        rw (
          is a (omega arith) ∙ e,
          counted_none f (a + 1) n (λ v j m. is v (omega arith) ∙ ne_eqb t v (λ z. omega arith)),
        )
    go false e rest =
        let d = eqb-false t a e in
        rw (is a (omega arith) ∙ e) (omega (arith, rest (omega arith)))

abbrev OnePart : Record → Type 0
OnePart r = count (λ v. in_part v r) (count_from 0 parts) ≡ 1

one_part_lem : (r : Record) → Known r → OnePart r
one_part_lem r known =
    counted_once (λ v. in_part v r) (part_of r) 0 parts (omega arith) (part_bound r known) (λ v h. mine r known v h)

entry_part_lem : (r : Record) → kind r ≡ 5 → OnePart r
entry_part_lem r k = counted_once (λ v. in_part v r) entry_part 0 parts (omega arith) (omega arith) (λ v h. go v h (eqb v entry_part) refl (eqb v rate_part) refl)
  where
    go : (v : ℕ) → v < parts → (s : Bool) → eqb v entry_part ≡ s → (t : Bool) → eqb v rate_part ≡ t → in_part v r ≡ eqb entry_part v
    go v h true e t f = rw e (eq-eqb (kind r) 5 k ∙ sym (eq-eqb entry_part v (sym (eqb-true v entry_part e))))
    go v h false e true f =
        let d = eqb-false v entry_part e in
        rw (e, f) (ne_eqb (kind r) 6 (λ z. omega arith) ∙ sym (ne_eqb entry_part v (λ z. d (sym z))))
    go v h false e false f =
        let d = eqb-false v entry_part e in
        let i = eqb-false v rate_part f in
        rw (e, f) (other_kind (v / most_contracts) (v % most_contracts) r (λ z. omega arith) ∙ sym (ne_eqb entry_part v (λ z. d (sym z))))

rate_part_lem : (r : Record) → kind r ≡ 6 → OnePart r
rate_part_lem r k = counted_once (λ v. in_part v r) rate_part 0 parts (omega arith) (omega arith) (λ v h. go v h (eqb v entry_part) refl (eqb v rate_part) refl)
  where
    go : (v : ℕ) → v < parts → (s : Bool) → eqb v entry_part ≡ s → (t : Bool) → eqb v rate_part ≡ t → in_part v r ≡ eqb rate_part v
    go v h true e t f =
        let d = eqb-true v entry_part e in
        rw e (ne_eqb (kind r) 5 (λ z. omega arith) ∙ sym (ne_eqb rate_part v (λ z. omega arith)))
    go v h false e true f = rw (e, f) (eq-eqb (kind r) 6 k ∙ sym (eq-eqb rate_part v (sym (eqb-true v rate_part f))))
    go v h false e false f =
        let d = eqb-false v entry_part e in
        let i = eqb-false v rate_part f in
        rw (e, f) (other_kind (v / most_contracts) (v % most_contracts) r (λ z. omega arith) ∙ sym (ne_eqb rate_part v (λ z. i (sym z))))

length-parts :
    (xs : List Record) → Each OnePart xs → length xs ≡ sum (map (λ v. count (in_part v) xs) (count_from 0 parts))
length-parts xs one = go (count_from 0 parts) xs one
  where
    counts : (p : ℕ → Bool) (vs : List ℕ) → sum (map (λ v. one_if (p v)) vs) ≡ count p vs
    counts p [] = refl
    counts p (v ∷ vs) = omega (arith, counts p vs)

    none : (vs : List ℕ) → sum (map (λ v. 0) vs) ≡ 0
    none [] = refl
    none (v ∷ vs) = omega (arith, none vs)

    go :
        (vs : List ℕ) (xs : List Record) → Each (λ r. count (λ v. in_part v r) vs ≡ 1) xs
        → length xs ≡ sum (map (λ v. count (in_part v) xs) vs)
    go vs [] h = sym (none vs)
    go vs (x ∷ xs) h =
        omega (
          arith,
          h.0,
          counts (λ v. in_part v x) vs,
          go vs xs h.1,
          sum-map_add (λ v. one_if (in_part v x)) (λ v. count (in_part v) xs) vs,
        )

module _ (m n : List Record) where
  kind_one : (k : ℕ) → 1 ≤ k → k ≤ 4 → Each OnePart (joined_of m n k)
  kind_one k l h =
      every_turn (λ c. keep (of_contract k c) (supplier m n c)) OnePart 0 most_contracts
      (λ c i j. every_weaker (keep (of_contract k c) (supplier m n c))
      (λ r e.
      let is = kind_of k c r e in
      one_part_lem r (record { low = omega (arith, is.0); high = omega (arith, is.0); contracts = omega (arith, is.1) }))
      (kept_pass (of_contract k c) (supplier m n c)))

  pub joined_length : length (joined m n) ≡ sum (map (λ v. count (in_part v) (joined m n)) (count_from 0 parts))
  joined_length =
      length-parts (joined m n)
      (every_five OnePart (joined_of m n 1) (joined_of m n 2) (joined_of m n 3) (joined_of m n 4) (from_morning m)
      (kind_one 1 (omega arith) (omega arith)) (kind_one 2 (omega arith) (omega arith))
      (kind_one 3 (omega arith) (omega arith)) (kind_one 4 (omega arith) (omega arith))
      (every_append OnePart (entries_of m) (rates_of m) (every_weaker (entries_of m) entry_part_lem (entries_kind m n))
      (every_weaker (rates_of m) rate_part_lem (rates_kind m n))))

-- ---- numbers that rise, list after list
rising_cons :
    (r : Record) (rs : List Record) → Each (λ x. contract r < contract x) rs → Rising rs → Rising (r ∷ rs)
rising_cons r rs above up zero h = every_at (λ x. contract r < contract x) rs above 0 (omega arith)
rising_cons r rs above up (suc k) h = up k (omega arith)

rising_append :
    (c : ℕ) (xs ys : List Record) → length xs ≤ 1 → Each (λ r. contract r ≡ c) xs → Each (λ r. c < contract r) ys
    → Rising ys → Rising (xs ++ ys)
rising_append c [] ys l at above up = up
rising_append c (x ∷ []) ys l at above up =
    rising_cons x ys (every_weaker ys (λ r h. omega (arith, at.0)) above) up
rising_append c (x ∷ y ∷ xs) ys l at above up = absurd (omega arith)

-- one record at most with each number
module _
    (f : ℕ → List Record) (few : (c : ℕ) → length (f c) ≤ 1) (at : (c : ℕ) → Each (λ r. contract r ≡ c) (f c)) where
  above_turn : (a n : ℕ) → Each (λ r. a ≤ contract r) (in_turn f a n)
  above_turn a n =
      every_turn f (λ r. a ≤ contract r) a n (λ c l h. every_weaker (f c) (λ r e. omega arith) (at c))

  rising_turn : (a n : ℕ) → Rising (in_turn f a n)
  rising_turn a zero = λ k h. absurd (omega arith)
  rising_turn a (suc n) =
      rising_append a (f a) (in_turn f (a + 1) n) (few a) (at a)
      (every_weaker (in_turn f (a + 1) n) (λ r h. omega arith) (above_turn (a + 1) n)) (rising_turn (a + 1) n)

  short_turn : (a n : ℕ) → length (in_turn f a n) ≤ n
  short_turn a zero = omega arith
  short_turn a (suc n) =
      omega (arith, length-append (f a) (in_turn f (a + 1) n), few a, short_turn (a + 1) n)

-- ---- the joined account is lawful
module _ (m n : List Record) (morning : Recorded m) (noon : Recorded n) where
  supplied : (c : ℕ) → Recorded (supplier m n c)
  supplied c = go (listed c n)
    where
      go : (t : Bool) → Recorded (cond t n m)
      go true = noon
      go false = morning

  -- what holds where there is nothing, and of the part of the account that supplies it
  by_part :
      (Q : List Record → Type 0) (k c : ℕ) → 1 ≤ k → k ≤ 4 → Q [] → Q (keep (of_contract k c) (supplier m n c))
      → Q (keep (of_contract k c) (joined m n))
  by_part Q k c l h none some = go (leb c most_contract) refl
    where
      go : (t : Bool) → leb c most_contract ≡ t → Q (keep (of_contract k c) (joined m n))
      go true e = subst⁻¹ Q (part-joined m n k c l h (leb-true c most_contract e)) some
      go false e = subst⁻¹ Q (part-beyond m n k c l h (leb-false c most_contract e)) none

  listed-joined : (c : ℕ) → c ≤ most_contract → listed c (joined m n) ≡ listed c (supplier m n c)
  listed-joined c h =
      any_kept (of_contract 1 c) (joined m n)
      ∙ ap (any (λ r. true)) (part-joined m n 1 c (omega arith) (omega arith) h)
      ∙ sym (any_kept (of_contract 1 c) (supplier m n c))

  still_listed : (c : ℕ) → c ≤ most_contract → listed c m ≡ true → listed c (joined m n) ≡ true
  still_listed c h old = listed-joined c h ∙ go (listed c n) refl
    where
      go : (t : Bool) → listed c n ≡ t → listed c (cond t n m) ≡ true
      go true e = e
      go false e = old

  named-part :
      (k c : ℕ) → 1 ≤ k → k ≤ 4 → Each (λ r. listed c (supplier m n c) ≡ true) (keep (of_contract k c) (supplier m n c))
      → Each (λ r. listed c (joined m n) ≡ true) (keep (of_contract k c) (joined m n))
  named-part k c l h old = go (leb c most_contract) refl
    where
      go : (t : Bool) → leb c most_contract ≡ t → Each (λ r. listed c (joined m n) ≡ true) (keep (of_contract k c) (joined m n))
      go true e =
          let most = leb-true c most_contract e in
          subst₂ (λ (b : Bool) (rs : List Record). Each (λ r. b ≡ true) rs) (sym (listed-joined c most))
          (sym (part-joined m n k c l h most)) old
      go false e =
          subst⁻¹ (Each (λ r. listed c (joined m n) ≡ true)) (part-beyond m n k c l h (leb-false c most_contract e)) tt

  one_prompt_lem : OnePrompt (joined m n)
  one_prompt_lem c = go (leb c most_contract) refl
    where
      go :
          (t : Bool) → leb c most_contract ≡ t
          → Each (λ r. count (on_day (day r)) (prompts_of c (joined m n)) ≡ 1) (rows_of c (joined m n))
      go true e =
          let most = leb-true c most_contract e in
          subst₂ (λ (ps rs : List Record). Each (λ r. count (on_day (day r)) ps ≡ 1) rs)
          (sym (part-joined m n 2 c (omega arith) (omega arith) most))
          (sym (part-joined m n 3 c (omega arith) (omega arith) most)) ((supplied c).one_prompt c)
      go false e =
          subst⁻¹ (Each (λ r. count (on_day (day r)) (prompts_of c (joined m n)) ≡ 1))
          (part-beyond m n 3 c (omega arith) (omega arith) (leb-false c most_contract e)) tt

  once : (c : ℕ) → length (keep (of_contract 1 c) (supplier m n c)) ≤ 1
  once c = omega (arith, length_kept (of_contract 1 c) (supplier m n c), (supplied c).named.once c)

  numbered_so : (c : ℕ) → Each (λ r. contract r ≡ c) (keep (of_contract 1 c) (supplier m n c))
  numbered_so c =
      every_weaker (keep (of_contract 1 c) (supplier m n c)) (λ r e. (kind_of 1 c r e).1)
      (kept_pass (of_contract 1 c) (supplier m n c))

  pub joined_recorded : length (joined m n) ≤ most_records → Recorded (joined m n)
  joined_recorded short =
      record {
        ranges =
            record {
              contracts =
                  subst⁻¹ (Each ContractWithin) (contracts-joined m n)
                  (every_turn (λ c. keep (of_contract 1 c) (supplier m n c)) ContractWithin 0 most_contracts
                  (λ c l h. every_stricter (of_kind 1) ContractWithin (of_contract 1 c)
                  (λ r e. eq-eqb (kind r) 1 (kind_of 1 c r e).0) (supplier m n c) (supplied c).ranges.contracts));
              prompts = λ c. by_part (Each PromptWithin) 2 c (omega arith) (omega arith) tt ((supplied c).ranges.prompts c);
              rows = λ c. by_part (Each RowWithin) 3 c (omega arith) (omega arith) tt ((supplied c).ranges.rows c);
              spreads = λ c. by_part (Each SpreadWithin) 4 c (omega arith) (omega arith) tt ((supplied c).ranges.spreads c);
              entries = subst⁻¹ (Each EntryWithin) (entries_joined m n) morning.ranges.entries;
              rates = subst⁻¹ (Each RateWithin) (rates_joined m n) morning.ranges.rates;
            };
        limits =
            record {
              all = short;
              contracts =
                  subst⁻¹ (λ (rs : List Record). length rs ≤ most_contracts) (contracts-joined m n)
                  (short_turn (λ c. keep (of_contract 1 c) (supplier m n c)) once numbered_so 0 most_contracts);
              prompts =
                  λ c. by_part (λ rs. length rs ≤ most_prompts) 2 c (omega arith) (omega arith) (omega arith)
                  ((supplied c).limits.prompts c);
              rows =
                  λ c. by_part (λ rs. length rs ≤ most_rows) 3 c (omega arith) (omega arith) (omega arith)
                  ((supplied c).limits.rows c);
              spreads =
                  λ c. by_part (λ rs. length rs ≤ most_spreads) 4 c (omega arith) (omega arith) (omega arith)
                  ((supplied c).limits.spreads c);
              entries =
                  subst⁻¹ (λ (rs : List Record). length rs ≤ most_entries) (entries_joined m n) morning.limits.entries;
              rates = subst⁻¹ (λ (rs : List Record). length rs ≤ 7) (rates_joined m n) morning.limits.rates;
            };
        one_prompt = one_prompt_lem;
        named =
            record {
              once =
                  λ c. subst (λ (i : ℕ). i ≤ 1) (length_kept (of_contract 1 c) (joined m n))
                  (by_part (λ rs. length rs ≤ 1) 1 c (omega arith) (omega arith) (omega arith) (once c));
              prompts = λ c. named-part 2 c (omega arith) (omega arith) ((supplied c).named.prompts c);
              rows = λ c. named-part 3 c (omega arith) (omega arith) ((supplied c).named.rows c);
              spreads = λ c. named-part 4 c (omega arith) (omega arith) ((supplied c).named.spreads c);
              entries =
                  subst⁻¹ (Each (EntryNamed (joined m n))) (entries_joined m n)
                  (every_weaker (entries_of m)
                  (λ e both.
                  record {
                    first = still_listed (contract e) both.0.contracts both.1.first;
                    second = still_listed (second_contract e) both.0.seconds both.1.second;
                    apart = both.1.apart;
                  })
                  (every_both EntryWithin (EntryNamed m) (entries_of m) morning.ranges.entries morning.named.entries));
            };
        orders =
            record {
              contracts =
                  subst⁻¹ Rising (contracts-joined m n)
                  (rising_turn (λ c. keep (of_contract 1 c) (supplier m n c)) once numbered_so 0 most_contracts);
              prompts =
                  λ c h. subst⁻¹ Later (part-joined m n 2 c (omega arith) (omega arith) h) ((supplied c).orders.prompts c h);
              spreads =
                  λ c. by_part (Each (λ s. legs_clash s ≡ false)) 4 c (omega arith) (omega arith) tt
                  ((supplied c).orders.spreads c);
              entries = subst⁻¹ (Each (λ e. with_itself e ≡ false)) (entries_joined m n) morning.orders.entries;
              rates = subst⁻¹ RatesRise (rates_joined m n) morning.orders.rates;
            };
      }

-- ---- an account alone
pub turn_join : (f : ℕ → List Record) (a i j : ℕ) → in_turn f a i ++ in_turn f (a + i) j ≡ in_turn f a (i + j)
turn_join f a zero j =
    let e : a + 0 ≡ a = omega arith in
    let d : 0 + j ≡ j = omega arith in
    ap (λ (b : ℕ). in_turn f b j) e ∙ ap (in_turn f a) (sym d)
turn_join f a (suc i) j =
    let e : a + suc i ≡ a + 1 + i = omega arith in
    let d : suc i + j ≡ suc (i + j) = omega arith in
    append_assoc (f a) (in_turn f (a + 1) i) (in_turn f (a + suc i) j)
    ∙ ap (λ (b : ℕ). f a ++ (in_turn f (a + 1) i ++ in_turn f b j)) e
    ∙ ap (λ (rs : List Record). f a ++ rs) (turn_join f (a + 1) i j)
    ∙ ap (in_turn f a) (sym d)

turn_shift :
    (f g : ℕ → List Record) (b a n : ℕ) → ((v : ℕ) → v < a + n → f v ≡ g (b + v)) → in_turn f a n ≡ in_turn g (b + a) n
turn_shift f g b a zero h = refl
turn_shift f g b a (suc n) h =
    let e : b + (a + 1) ≡ b + a + 1 = omega arith in
    ap (λ (rs : List Record). rs ++ in_turn f (a + 1) n) (h a (omega arith))
    ∙ ap (λ (rs : List Record). g (b + a) ++ rs)
    (turn_shift f g b (a + 1) n (λ v l. h v (omega arith)) ∙ ap (λ (x : ℕ). in_turn g x n) e)

-- one record more, in the last list that has any
module _
    (f g : ℕ → List Record) (r : Record) (t top : ℕ) (here : g t ≡ f t ++ r ∷ [])
    (same : (v : ℕ) → v < top → (v ≡ t → ⊥) → g v ≡ f v) (after : (v : ℕ) → v < top → t < v → g v ≡ []) where
  turn_more : (a n : ℕ) → a ≤ t → t < a + n → a + n ≤ top → in_turn g a n ≡ in_turn f a n ++ r ∷ []
  turn_more a zero l h m = absurd (omega arith)
  turn_more a (suc n) l h m = go (eqb a t) refl (λ i. turn_more (a + 1) n i (omega arith) (omega arith))
    where
      go :
          (b : Bool) → eqb a t ≡ b → (a + 1 ≤ t → in_turn g (a + 1) n ≡ in_turn f (a + 1) n ++ r ∷ [])
          → g a ++ in_turn g (a + 1) n ≡ f a ++ in_turn f (a + 1) n ++ r ∷ []
      go true e rest =
          let i = eqb-true a t e in
          let none : in_turn g (a + 1) n ≡ [] = none_turn g (a + 1) n (λ v j k. after v (omega arith) (omega arith)) in
          let empty : in_turn f (a + 1) n ≡ [] =
          none_turn f (a + 1) n
          (λ v j k. sym (same v (omega arith) (λ z. omega arith)) ∙ after v (omega arith) (omega arith)) in
          ap (λ (rs : List Record). g a ++ rs) none ∙ append-nil (g a)
          ∙ subst⁻¹ (λ (v : ℕ). g v ≡ f v ++ r ∷ []) i here
          ∙ ap (λ (rs : List Record). rs ++ r ∷ []) (sym (append-nil (f a)))
          ∙ ap (λ (rs : List Record). f a ++ rs ++ r ∷ []) (sym empty)
      go false e rest =
          let d = eqb-false a t e in
          ap (λ (rs : List Record). rs ++ in_turn g (a + 1) n) (same a (omega arith) d)
          ∙ ap (λ (rs : List Record). f a ++ rs) (rest (omega arith))
          ∙ sym (append_assoc (f a) (in_turn f (a + 1) n) (r ∷ []))

none-some : (n : ℕ) → (0 < n → ⊥) → n ≡ 0
none-some zero h = refl
none-some (suc n) h = absurd (h (omega arith))

-- the parts of records, in the order of their numbers
abbrev pub parts_of : List Record → ℕ → List Record
parts_of rs v = keep (in_part v) rs

in_parts : (file : List ℕ) (k : ℕ) → Faultless file k → in_turn (parts_of (cut k file)) most_contracts 66 ≡ cut k file
in_parts file zero fine = none_turn (parts_of []) most_contracts 66 (λ v l h. refl)
in_parts file (suc k) fine =
    more (in_parts file k (λ j h. fine j (omega arith)))
    (known_of (record_at file k) (passed_at file (suc k) fine k (omega arith)))
  where
    more :
        in_turn (parts_of (cut k file)) most_contracts 66 ≡ cut k file → Known (record_at file k)
        → in_turn (parts_of (cut (suc k) file)) most_contracts 66 ≡ cut (suc k) file
    more old known =
        let r = record_at file k in
        let t = part_of r in
        let bound = part_bound r known in
        let above : most_contracts ≤ t =
        part_cases r known (most_contracts ≤ t) (λ e i. omega arith) (λ e i. omega arith) (λ l i. omega (arith, known.low)) in
        let grown : (v : ℕ) → keep (in_part v) (cut (suc k) file) ≡ keep (in_part v) (cut k file ++ r ∷ []) =
        λ v. ap (keep (in_part v)) (cut_more k file) in
        turn_more (parts_of (cut k file)) (parts_of (cut (suc k) file)) r t parts
        (grown t ∙ keeps_one (in_part t) (cut k file) r (mine r known t bound ∙ eq-eqb t t refl))
        (λ v h d. grown v ∙ keeps_not (in_part v) (cut k file) r (mine r known v h ∙ ne_eqb t v (λ e. d (sym e))))
        (λ v h l.
        none_kept (in_part v) (cut (suc k) file)
        (none-some (count (in_part v) (cut (suc k) file)) (λ some. omega (arith, (laid file (suc k) fine).upto v h some))))
        most_contracts 66 above (omega arith) (omega arith)
        ∙ ap (λ (rs : List Record). rs ++ r ∷ []) old
        ∙ sym (cut_more k file)

module _ (m : List Record) where
  kind_turn : (k : ℕ) → k ≤ 4 → joined_of m [] k ≡ in_turn (parts_of m) (most_contracts * k + 0) most_contracts
  kind_turn k h =
      turn_shift (λ c. keep (of_contract k c) m) (parts_of m) (most_contracts * k) 0 most_contracts
      (λ c l. ap (λ (p : Record → Bool). keep p m) (sym (part_is k c h (omega arith))))

  abbrev turn : ℕ → ℕ → List Record
  turn = in_turn (parts_of m)

  all_turn : five (turn (part 1 0) most_contracts) (turn (part 2 0) most_contracts) (turn (part 3 0) most_contracts) (turn (part 4 0) most_contracts)
      (from_morning m) ≡ turn (part 1 0) 66
  all_turn =
      ap (λ (rs : List Record). five (turn (part 1 0) most_contracts) (turn (part 2 0) most_contracts) (turn (part 3 0) most_contracts)
      (turn (part 4 0) most_contracts) (entries_of m ++ rs)) (sym (append-nil (rates_of m)))
      ∙ ap (λ (rs : List Record). turn (part 1 0) most_contracts ++ (turn (part 2 0) most_contracts ++ (turn (part 3 0) most_contracts ++ rs)))
      (turn_join (parts_of m) (part 4 0) most_contracts 2)
      ∙ ap (λ (rs : List Record). turn (part 1 0) most_contracts ++ (turn (part 2 0) most_contracts ++ rs)) (turn_join (parts_of m) (part 3 0) most_contracts 18)
      ∙ ap (λ (rs : List Record). turn (part 1 0) most_contracts ++ rs) (turn_join (parts_of m) (part 2 0) most_contracts 34)
      ∙ turn_join (parts_of m) (part 1 0) most_contracts 50

  alone_turn : joined m [] ≡ in_turn (parts_of m) most_contracts 66
  alone_turn =
      rw (
        kind_turn 1 (omega arith),
        kind_turn 2 (omega arith),
        kind_turn 3 (omega arith),
        kind_turn 4 (omega arith),
      ) all_turn

-- a joined account is its own parts in the order of their numbers
module _ (m n : List Record) where
  own_turn : (k : ℕ) → 1 ≤ k → k ≤ 4 → joined_of m n k ≡ in_turn (parts_of (joined m n)) (most_contracts * k + 0) most_contracts
  own_turn k l h =
      turn_shift (λ c. keep (of_contract k c) (supplier m n c)) (parts_of (joined m n)) (most_contracts * k) 0 most_contracts
      (λ c i.
      sym (part-joined m n k c l h (omega arith))
      ∙ ap (λ (p : Record → Bool). keep p (joined m n)) (sym (part_is k c h (omega arith))))

  mornings : from_morning m ≡ from_morning (joined m n)
  mornings = ap₂ (λ (a b : List Record). a ++ b) (sym (entries_joined m n)) (sym (rates_joined m n))

  pub joined_turn : joined m n ≡ in_turn (parts_of (joined m n)) most_contracts 66
  joined_turn =
      let one = own_turn 1 (omega arith) (omega arith) in
      let two = own_turn 2 (omega arith) (omega arith) in
      let three = own_turn 3 (omega arith) (omega arith) in
      let four = own_turn 4 (omega arith) (omega arith) in
      (λ i. five (one i) (two i) (three i) (four i) (mornings i)) ∙ all_turn (joined m n)

-- an account alone is the joined account with an empty noon file
pub joined_alone : (file : List ℕ) → records_checked file ≡ Ok tt → joined (records file) [] ≡ records file
joined_alone file ok = alone_turn (records file) ∙ in_parts file (record_count file) (fine file ok)
