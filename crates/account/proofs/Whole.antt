-- Each record of an account is in exactly one of its parts: of a joined account, and so of one file, which is joined with none.
-- Assumes nothing.
use Rattle.std.specs.Prelude.{Ok}
use Prim.Native.Nat.{ℕ, ◌+◌, ◌≤◌, ◌<◌}
use mathlib.Core.Path.{◌≡◌, refl, sym, ap, ap₂, subst, ◌∙◌}
use mathlib.Core.Bool.{Bool, true, false, not, ◌&&◌, ◌||◌, or-true}
use mathlib.Core.List.{List, [], ◌∷◌, map}
use lib.ListN.{length}
use lib.Dec.{eqb, leb}
use native.Mathlib.Omega.{arith}
use borrow.Author.Tests.{eq-eqb, ne_eqb, eqb-true, eqb-false, leb-true, leb-false}
use Rattle.exact.specs.Lists.{cons_if, keep, one_if, count, sum}
use Rattle.exact.proofs.Lists.{sum-map_add}
use Rattle.exact.proofs.Tests.{eqb_turned}
use Rattle.record.specs.Layout.{Record, kind, contract}
use Rattle.record.specs.Within.{Between}
use Rattle.record.proofs.Within.{by_kind}
use Rattle.account.specs.Accepted.{Each, listed}
use Rattle.account.specs.Checked.{checked}
use Rattle.account.specs.Joined.{joined, joined_of, from_morning, account_of}
use Rattle.account.specs.Lawful.{Recorded}
use Rattle.account.specs.Noon.{clear, joined_verdict}
use Rattle.account.specs.Parts.{of_kind, of_contract, contracts_of, entries_of, rates_of}
use Rattle.account.specs.Records.{records}
use Rattle.account.specs.Whole.{parts_by, in_how_many, Whole}
use Rattle.account.proofs.Alone.{passes}
use Rattle.account.proofs.Every.{every_append, every_weaker}
use Rattle.account.proofs.JoinedLaws.{other_kind, joined-kind, entries_kind, rates_kind, joined_alone}
use Rattle.account.proofs.Lawful.{recorded}
use Rattle.account.proofs.Lists.{every_both, none_counted}
use Rattle.account.proofs.NoonLaws.{pair_recorded, pair_passed}

-- ---- the kinds of a joined account's records
abbrev pub KindWithin : Record → Type 0
KindWithin r = Between 1 (kind r) 6

kinds : (m n : List Record) → Each KindWithin (joined m n)
kinds m n =
    let part : (k : ℕ) → 1 ≤ k → k ≤ 6 → Each KindWithin (joined_of m n k) =
    λ k l h. every_weaker (joined_of m n k) (λ r e. record { least = omega (arith, e, l); most = omega (arith, e, h) }) (joined-kind m n k) in
    every_append KindWithin (joined_of m n 1) _ (part 1 (omega arith) (omega arith))
    (every_append KindWithin (joined_of m n 2) _ (part 2 (omega arith) (omega arith))
    (every_append KindWithin (joined_of m n 3) _ (part 3 (omega arith) (omega arith))
    (every_append KindWithin (joined_of m n 4) (from_morning m) (part 4 (omega arith) (omega arith))
    (every_append KindWithin (entries_of m) (rates_of m)
    (every_weaker (entries_of m) (λ r e. record { least = omega (arith, e); most = omega (arith, e) }) (entries_kind m n))
    (every_weaker (rates_of m) (λ r e. record { least = omega (arith, e); most = omega (arith, e) }) (rates_kind m n))))))

-- ---- what holds of the records of a kind, contract by contract, holds of each record of that kind
first_kept : (P : Record → Type 0) (t : Bool) (x : Record) (xs : List Record) → Each P (cons_if t x xs) → Each P xs
first_kept P true x xs h = h.1
first_kept P false x xs h = h

by_contract : (k : ℕ) (P : ℕ → Type 0) (xs : List Record) → ((c : ℕ) → Each (λ r. P c) (keep (of_contract k c) xs))
    → Each (λ r. kind r ≡ k → P (contract r)) xs
by_contract k P [] h = tt
by_contract k P (x ∷ xs) h = (own, by_contract k P xs (λ c. first_kept (λ r. P c) (of_contract k c x) x (keep (of_contract k c) xs) (h c)))
  where
    own : kind x ≡ k → P (contract x)
    own e =
        let t : of_contract k (contract x) x ≡ true =
        ap (λ (b : Bool). b && eqb (contract x) (contract x)) (eq-eqb (kind x) k e) ∙ eq-eqb (contract x) (contract x) refl in
        (subst (λ (b : Bool). Each (λ r. P (contract x)) (cons_if b x (keep (of_contract k (contract x)) xs))) t (h (contract x))).0

-- a contract's own record lists it
own_listed : (xs : List Record) → Each (λ r. kind r ≡ 1 → listed (contract r) xs ≡ true) xs
own_listed [] = tt
own_listed (x ∷ xs) = (
  λ e.
      ap (λ (b : Bool). (b && eqb (contract x) (contract x)) || listed (contract x) xs) (eq-eqb (kind x) 1 e)
      ∙ ap (λ (b : Bool). b || listed (contract x) xs) (eq-eqb (contract x) (contract x) refl),
  every_weaker xs (λ r f e. ap (λ (b : Bool). of_contract 1 (contract r) x || b) (f e) ∙ or-true (of_contract 1 (contract r) x)) (own_listed xs),
)

-- ---- in how many parts a record is
-- of kinds 5 and 6, which name no contract of their own
in_last : (owns : List Record) (r : Record) → 5 ≤ kind r → kind r ≤ 6 → in_how_many owns r ≡ 1
in_last [] r l h = go (eqb (kind r) 5) refl
  where
    go : (t : Bool) → eqb (kind r) 5 ≡ t → one_if (of_kind 5 r) + (one_if (of_kind 6 r) + 0) ≡ 1
    go true e =
        let k = eqb-true (kind r) 5 e in
        ap₂ (λ (x y : Bool). one_if x + (one_if y + 0)) e (ne_eqb (kind r) 6 (λ z. omega arith))
    go false e =
        let d = eqb-false (kind r) 5 e in
        ap₂ (λ (x y : Bool). one_if x + (one_if y + 0)) e (eq-eqb (kind r) 6 (omega arith))
in_last (own ∷ owns) r l h =
    let no : (k : ℕ) → k ≤ 4 → one_if (of_contract k (contract own) r) ≡ 0 = λ k h. ap one_if (other_kind k (contract own) r (λ z. omega arith)) in
    omega (arith, no 1 (omega arith), no 2 (omega arith), no 3 (omega arith), no 4 (omega arith), in_last owns r l h)

-- the listed contracts that have its number
abbrev pub owners : Record → List Record → ℕ
owners r owns = count (λ own. eqb (contract own) (contract r)) owns

module _ (r : Record) where
  abbrev here : Record → ℕ → ℕ
  here own k = one_if (of_contract k (contract own) r)

  mine : (own : Record) (k : ℕ) → kind r ≡ k → here own k ≡ one_if (eqb (contract own) (contract r))
  mine own k e =
      ap (λ (b : Bool). one_if (b && eqb (contract r) (contract own))) (eq-eqb (kind r) k e)
      ∙ ap one_if (eqb_turned (contract r) (contract own))

  other : (own : Record) (k : ℕ) → (kind r ≡ k → ⊥) → here own k ≡ 0
  other own k d = ap one_if (other_kind k (contract own) r d)

  of_four : (own : Record) → (k : ℕ) → 1 ≤ k → k ≤ 6 → (kind r ≡ k → k ≤ 4
      → here own 1 + (here own 2 + (here own 3 + here own 4)) ≡ one_if (eqb (contract own) (contract r)))
  of_four own =
      by_kind (λ k. kind r ≡ k → k ≤ 4 → here own 1 + (here own 2 + (here own 3 + here own 4)) ≡ one_if (eqb (contract own) (contract r)))
      (λ e d. omega (arith, mine own 1 e, other own 2 (λ z. omega arith), other own 3 (λ z. omega arith), other own 4 (λ z. omega arith)))
      (λ e d. omega (arith, mine own 2 e, other own 1 (λ z. omega arith), other own 3 (λ z. omega arith), other own 4 (λ z. omega arith)))
      (λ e d. omega (arith, mine own 3 e, other own 1 (λ z. omega arith), other own 2 (λ z. omega arith), other own 4 (λ z. omega arith)))
      (λ e d. omega (arith, mine own 4 e, other own 1 (λ z. omega arith), other own 2 (λ z. omega arith), other own 3 (λ z. omega arith)))
      (λ e d. absurd (omega arith)) (λ e d. absurd (omega arith))

  in_owners : KindWithin r → kind r ≤ 4 → (owns : List Record) → in_how_many owns r ≡ owners r owns
  in_owners w d [] =
      ap₂ (λ (x y : Bool). one_if x + (one_if y + 0)) (ne_eqb (kind r) 5 (λ z. omega arith)) (ne_eqb (kind r) 6 (λ z. omega arith))
  in_owners w d (own ∷ owns) =
      omega (arith, of_four own (kind r) w.least w.most refl d, in_owners w d owns)

-- ---- one contract has its number
module _ (account : List Record) (law : Recorded account) where
  one_owner : (r : Record) → listed (contract r) account ≡ true → owners r (contracts_of account) ≡ 1
  one_owner r l = omega (arith, count_kept, law.named.once (contract r), some)
    where
      count_kept : owners r (contracts_of account) ≡ count (of_contract 1 (contract r)) account
      count_kept = kept account
        where
          kept : (xs : List Record) → owners r (contracts_of xs) ≡ count (of_contract 1 (contract r)) xs
          kept [] = refl
          kept (x ∷ xs) = go (of_kind 1 x) (kept xs)
            where
              go : (t : Bool) → owners r (contracts_of xs) ≡ count (of_contract 1 (contract r)) xs
                  → owners r (cons_if t x (contracts_of xs)) ≡ one_if (t && eqb (contract x) (contract r)) + count (of_contract 1 (contract r)) xs
              go true h = ap (λ (n : ℕ). one_if (eqb (contract x) (contract r)) + n) h
              go false h = omega (arith, h)

      some : 0 < count (of_contract 1 (contract r)) account
      some =
          let d = eqb-false (count (of_contract 1 (contract r)) account) 0 (none_counted (of_contract 1 (contract r)) account ∙ ap not l) in
          omega (arith, d)

  -- a record of a kind names a listed contract
  abbrev Names : ℕ → Record → Type 0
  Names k r = kind r ≡ k → listed (contract r) account ≡ true

  names : (k : ℕ) → 1 ≤ k → k ≤ 6 → k ≤ 4 → Each (Names k) account
  names =
      by_kind (λ k. k ≤ 4 → Each (Names k) account) (λ d. own_listed account)
      (λ d. by_contract 2 (λ c. listed c account ≡ true) account law.named.prompts)
      (λ d. by_contract 3 (λ c. listed c account ≡ true) account law.named.rows)
      (λ d. by_contract 4 (λ c. listed c account ≡ true) account law.named.spreads)
      (λ d. absurd (omega arith)) (λ d. absurd (omega arith))

  named : (k : ℕ) → 1 ≤ k → k ≤ 4 → Each (Names k) account
  named k l h = names k l (omega arith) h

  all_named : Each (λ r. (Names 1 r × Names 2 r) × (Names 3 r × Names 4 r)) account
  all_named =
      every_both (λ r. Names 1 r × Names 2 r) (λ r. Names 3 r × Names 4 r) account
      (every_both (Names 1) (Names 2) account (named 1 (omega arith) (omega arith)) (named 2 (omega arith) (omega arith)))
      (every_both (Names 3) (Names 4) account (named 3 (omega arith) (omega arith)) (named 4 (omega arith) (omega arith)))

  -- a record of kinds 1 to 4 belongs to one listed contract
  pub owned_once : Each KindWithin account → Each (λ r. kind r ≤ 4 → owners r (contracts_of account) ≡ 1) account
  owned_once within =
      every_weaker account
      (λ r f d.
      let n = f.1 in
      one_owner r
      (by_kind (λ k. Names k r) n.0.0 n.0.1 n.1.0 n.1.1 (λ e. absurd (omega arith)) (λ e. absurd (omega arith)) (kind r) f.0.least
      f.0.most refl))
      (every_both KindWithin (λ r. (Names 1 r × Names 2 r) × (Names 3 r × Names 4 r)) account within all_named)

  one_part_lem : Each KindWithin account → Each (λ r. in_how_many (contracts_of account) r ≡ 1) account
  one_part_lem within =
      every_weaker account (λ r f. go r f.0 f.1 (leb (kind r) 4) refl)
      (every_both KindWithin (λ r. kind r ≤ 4 → owners r (contracts_of account) ≡ 1) account within (owned_once within))
    where
      go : (r : Record) → KindWithin r → (kind r ≤ 4 → owners r (contracts_of account) ≡ 1) → (t : Bool) → leb (kind r) 4 ≡ t
          → in_how_many (contracts_of account) r ≡ 1
      go r w f true e = let d = leb-true (kind r) 4 e in in_owners r w d (contracts_of account) ∙ f d
      go r w f false e = in_last (contracts_of account) r (omega (arith, leb-false (kind r) 4 e)) w.most

-- ---- counted part by part
module _ (parts : List (Record → Bool)) where
  counts : (r : Record) (ps : List (Record → Bool)) → sum (map (λ part. one_if (part r)) ps) ≡ count (λ part. part r) ps
  counts r [] = refl
  counts r (p ∷ ps) = omega (arith, counts r ps)

  none : (ps : List (Record → Bool)) → sum (map (λ part. count part []) ps) ≡ 0
  none [] = refl
  none (p ∷ ps) = omega (arith, none ps)

  all_counted : (xs : List Record) → Each (λ r. count (λ part. part r) parts ≡ 1) xs → length xs ≡ sum (map (λ part. count part xs) parts)
  all_counted [] h = sym (none parts)
  all_counted (x ∷ xs) h =
      omega (
        arith,
        h.0,
        counts x parts,
        all_counted xs h.1,
        sum-map_add (λ part. one_if (part x)) (λ part. count part xs) parts,
      )

whole : (account : List Record) → Recorded account → Each KindWithin account → Whole account
whole account law within =
    let one = one_part_lem account law within in
    record { one_part = one; together = all_counted (parts_by (contracts_of account)) account one }

-- of an accepted file, and of a pair of files that is not refused
pub file_kinds : (file : List ℕ) → checked file ≡ Ok tt → Each KindWithin (records file)
file_kinds file ok = subst (Each KindWithin) (joined_alone file (passes file ok).recorded) (kinds (records file) [])

pub whole_file : (file : List ℕ) → checked file ≡ Ok tt → Whole (records file)
whole_file file ok = whole (records file) (recorded file (passes file ok).recorded) (file_kinds file ok)

pub pair_kinds : (morning noon : List ℕ) → Each KindWithin (account_of morning noon)
pair_kinds morning noon = kinds (records morning) (records noon)

pub whole_pair : (morning noon : List ℕ) → clear (joined_verdict morning noon) ≡ true → Whole (account_of morning noon)
whole_pair morning noon c = whole (account_of morning noon) (pair_recorded morning noon (pair_passed morning noon c)) (pair_kinds morning noon)
