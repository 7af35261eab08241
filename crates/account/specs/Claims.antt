-- What document 01 demands of the check, as claims about the definition `checked`: each refusal is given exactly when the
-- table says, the first in its order, and a file is accepted exactly when nothing is wrong with it.
-- Assumes nothing.
use Rattle.std.specs.Prelude.{ℕ, ◌≤◌, ◌<◌, ◌≡◌, Bool, true, false, ◌&&◌, ◌||◌, cond, List, [], ◌∷◌, ◌⊎◌, length, get_or, eqb, Ok}
use Rattle.exact.specs.Iff.{Iff}
use Rattle.exact.specs.Lists.{any}
use Rattle.record.specs.Layout.{Record, ◌has◌, by_kind, kind, contract}
use Rattle.record.specs.Ranges.{unknown_kind, field_outside}
use Rattle.account.specs.Accepted.{Accepts}
use Rattle.account.specs.Answers.{number_of, record_of}
use Rattle.account.specs.Check.{Refusal, refusals, too_long, cut_record, records_checked, the_one_before, kind_falls, number_not_above, day_not_above, tier_falls}
use Rattle.account.specs.Check.{contract_falls, legs_clash, with_itself, currency_not_above, out_of_order, fault_of}
use Rattle.account.specs.Checked.{rate_refusals, rates_checked, checked}
use Rattle.account.specs.Lawful.{Lawful}
use Rattle.account.specs.Orders.{Orders}
use Rattle.account.specs.Parts.{of_kind, of_contract, rates_of}
use Rattle.account.specs.Records.{records, record_at, record_count, earlier}
use Rattle.account.specs.Answers.{Answer}

-- whether the table gives refusal n
abbrev pub given_in : List Refusal → ℕ → Bool
given_in rows n = any (λ x. eqb x.number n && x.given) rows

-- whether what refusal n, 3 to 9, is given for is so at record k
abbrev pub holds_at : List ℕ → ℕ → ℕ → Bool
holds_at file k n = given_in (refusals (earlier file k) (record_at file k)) n

-- an answer is refusal n and names record k
pub record Comes (answer : Answer) (n k : ℕ) : Type 0 where
  pub number : number_of answer ≡ n
  pub place : record_of answer ≡ k

-- the file comes back with it: by its records alone, and in all
abbrev pub RecordsGive : List ℕ → ℕ → ℕ → Type 0
RecordsGive file n k = Comes (records_checked file) n k

abbrev pub Gives : List ℕ → ℕ → ℕ → Type 0
Gives file n k = Comes (checked file) n k

-- refusal n holds at record k, none before it in the table holds there, none holds at a record before, and neither 1 nor 2
pub record First (file : List ℕ) (n k : ℕ) : Type 0 where
  pub long : too_long file ≡ false
  pub whole : cut_record file ≡ false
  pub there : k < record_count file
  pub holds : holds_at file k n ≡ true
  pub first : (m : ℕ) → m < n → holds_at file k m ≡ false
  pub before : (j : ℕ) → j < k → (m : ℕ) → holds_at file j m ≡ false

-- nothing holds anywhere
pub record Clean (file : List ℕ) : Type 0 where
  pub long : too_long file ≡ false
  pub whole : cut_record file ≡ false
  pub none : (j : ℕ) → j < record_count file → (m : ℕ) → holds_at file j m ≡ false

-- "Given exactly when": of the records
pub record RecordsExactly (file : List ℕ) : Type 0 where
  pub one : Iff (RecordsGive file 1 0) (too_long file ≡ true)
  pub two : Iff (RecordsGive file 2 0) ((too_long file ≡ false) × (cut_record file ≡ true))
  pub others : (n k : ℕ) → 3 ≤ n → n ≤ 9 → Iff (RecordsGive file n k) (First file n k)
  pub accepted : Iff (RecordsGive file 0 0) (Clean file)
  pub most : number_of (records_checked file) ≤ 9

-- 2026-05: whether 14 or 15 is so at record k of an account
abbrev pub rate_holds_at : List Record → ℕ → ℕ → Bool
rate_holds_at account k n = given_in (rate_refusals (rates_of account) (get_or account k [])) n

-- it is so at record k, 14 is not where it is 15, and neither is at a record before
pub record FirstRate (account : List Record) (n k : ℕ) : Type 0 where
  pub there : k < length account
  pub holds : rate_holds_at account k n ≡ true
  pub first : (m : ℕ) → m < n → rate_holds_at account k m ≡ false
  pub before : (j : ℕ) → j < k → (m : ℕ) → rate_holds_at account j m ≡ false

-- it is so nowhere
pub record Rated (account : List Record) : Type 0 where
  pub none : (j : ℕ) → j < length account → (m : ℕ) → rate_holds_at account j m ≡ false

pub record RatesExactly (account : List Record) : Type 0 where
  pub refused : (n k : ℕ) → 14 ≤ n → n ≤ 15 → Iff (Comes (rates_checked account) n k) (FirstRate account n k)
  pub accepted : Iff (Comes (rates_checked account) 0 0) (Rated account)
  pub numbers : (number_of (rates_checked account) ≡ 0) ⊎ ((14 ≤ number_of (rates_checked account)) × (number_of (rates_checked account) ≤ 15))

-- of a file, "after all records"
pub record Exactly (file : List ℕ) : Type 0 where
  pub one : Iff (Gives file 1 0) (too_long file ≡ true)
  pub two : Iff (Gives file 2 0) ((too_long file ≡ false) × (cut_record file ≡ true))
  pub others : (n k : ℕ) → 3 ≤ n → n ≤ 9 → Iff (Gives file n k) (First file n k)
  pub rates : (n k : ℕ) → 14 ≤ n → n ≤ 15 → Iff (Gives file n k) (Clean file × FirstRate (records file) n k)
  pub accepted : Iff (Gives file 0 0) (Clean file × Rated (records file))
  pub numbers : (number_of (checked file) ≤ 9) ⊎ ((14 ≤ number_of (checked file)) × (number_of (checked file) ≤ 15))

-- "the one before of its kind", "the prompt before it in its contract": the latest earlier record that passes a test, and
-- where none does one of no bytes
abbrev pub latest : (Record → Bool) → List Record → Record
latest p [] = []
latest p (e ∷ es) = cond (p e) e (latest p es)

-- refusal 8 in these words
abbrev pub out_of_order_by_kind : List Record → Record → Bool
out_of_order_by_kind es r =
    by_kind (kind r)
    (1 has number_not_above (latest (of_kind 1) es) r
    ∷ 2 has (day_not_above (latest (of_kind 2) es) r || tier_falls (latest (of_contract 2 (contract r)) es) r)
    ∷ 3 has contract_falls (latest (of_kind 3) es) r
    ∷ 4 has (contract_falls (latest (of_kind 4) es) r || legs_clash r)
    ∷ 5 has with_itself r
    ∷ 6 has currency_not_above (latest (of_kind 6) es) r ∷ [])
    false

-- it comes to the same at every record that the check comes to and that has no 3, 4 or 6
abbrev pub ByKind : List ℕ → Type 0
ByKind file =
    (k : ℕ) → ((j : ℕ) → j < k → fault_of (earlier file j) (record_at file j) ≡ 0)
    → unknown_kind (record_at file k) ≡ false → kind_falls (the_one_before (earlier file k)) (record_at file k) ≡ false
    → field_outside (record_at file k) ≡ false
    → out_of_order (the_one_before (earlier file k)) (record_at file k) ≡ out_of_order_by_kind (earlier file k)
    (record_at file k)

-- all that is claimed of the check of a file
pub record Claims (file : List ℕ) : Type 0 where
  pub exactly : Exactly file
  pub by_kind : ByKind file
  pub accepts : records_checked file ≡ Ok tt → Accepts file
  pub orders : records_checked file ≡ Ok tt → Orders (records file)
  -- what is accepted in all is lawful: every row has its rate, and its conversions are within the most
  pub lawful : checked file ≡ Ok tt → Lawful (records file)
