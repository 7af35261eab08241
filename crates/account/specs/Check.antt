-- The check of an account file: the table of refusals of document 01, "What comes back", and its order, with request 2026-05.
-- `earlier` are the records before the one looked at, the latest first.
-- Assumes nothing.
use Rattle.std.specs.Prelude.{ℕ, ◌+◌, ◌*◌, ◌%◌, Bool, false, not, ◌&&◌, ◌||◌, cond, List, [], ◌∷◌, length, eqb, leb, ltb, Ok, Err}
use Rattle.exact.specs.Lists.{any, count}
use Rattle.record.specs.Layout.{Record, record_bytes, ◌has◌, by_kind, kind, rate_currency, contract, tier, day, legs_of, leg_tier, leg_side, second_contract}
use Rattle.record.specs.Ranges.{unknown_kind, unused_byte, field_outside}
use Rattle.account.specs.Answers.{refusal}
use Rattle.account.specs.Parts.{of_kind, of_contract}
use Rattle.account.specs.Records.{records}
use Rattle.account.specs.Answers.{Answer}
use Rattle.account.specs.declared.answers.Refusal.TheVariants.{TooLong, CutRecord}

-- The record before; where there is none, one of no bytes, so that its kind is 0.
abbrev pub the_one_before : List Record → Record
the_one_before [] = []
the_one_before (e ∷ earlier) = e

-- 4: "kind below the kind before it"
abbrev pub kind_falls : Record → Record → Bool
kind_falls before r = ltb (kind r) (kind before)

-- 7: "kinds 2 to 5 only: it names a contract, a prompt day of its contract, or a tier with a prompt of its contract, that no
-- earlier record lists (a prompt's own day and tier are listed by it, not named)"
abbrev pub lists_contract : ℕ → Record → Bool
lists_contract c e = of_contract 1 c e

abbrev pub lists_day : ℕ → ℕ → Record → Bool
lists_day c d e = of_contract 2 c e && eqb (day e) d

abbrev pub lists_tier : ℕ → ℕ → Record → Bool
lists_tier c t e = of_contract 2 c e && eqb (tier e) t

abbrev pub none : (Record → Bool) → List Record → Bool
none lists earlier = not (any lists earlier)

abbrev pub leg_unlisted : List Record → Record → ℕ → Bool
leg_unlisted earlier r leg = none (lists_tier (contract r) (leg_tier r leg)) earlier

abbrev pub unlisted : List Record → Record → Bool
unlisted earlier r =
    by_kind (kind r)
    (2 has none (lists_contract (contract r)) earlier
    ∷ 3 has (none (lists_contract (contract r)) earlier || none (lists_day (contract r) (day r)) earlier)
    ∷ 4 has (none (lists_contract (contract r)) earlier || any (leg_unlisted earlier r) (legs_of r))
    ∷ 5 has (none (lists_contract (contract r)) earlier || none (lists_contract (second_contract r)) earlier) ∷ [])
    false

-- 8: "a contract number not above the one before; a prompt whose (contract, day) is not above the one before, or whose tier
-- is below that of the prompt before it in its contract; a row or an interprompt spread whose contract is below that of the
-- one before of its kind; .."
abbrev pub number_not_above : Record → Record → Bool
number_not_above before r = of_kind 1 before && leb (contract r) (contract before)

abbrev pub day_not_above : Record → Record → Bool
day_not_above before r =
    of_kind 2 before
    && (ltb (contract r) (contract before) || (eqb (contract r) (contract before) && leb (day r) (day before)))

abbrev pub tier_falls : Record → Record → Bool
tier_falls before r = of_contract 2 (contract r) before && ltb (tier r) (tier before)

abbrev pub contract_falls : Record → Record → Bool
contract_falls before r = of_kind (kind r) before && ltb (contract r) (contract before)

-- ".. two legs with the same tier and side; no leg A or no leg B; .."
abbrev pub same_leg : Record → ℕ → ℕ → Bool
same_leg r i j = eqb (leg_tier r i) (leg_tier r j) && eqb (leg_side r i) (leg_side r j)

abbrev pub alike_among : Record → List ℕ → Bool
alike_among r [] = false
alike_among r (leg ∷ legs) = any (same_leg r leg) legs || alike_among r legs

abbrev pub no_leg_on : ℕ → Record → Bool
no_leg_on side r = not (any (λ leg. eqb (leg_side r leg) side) (legs_of r))

abbrev pub legs_clash : Record → Bool
legs_clash r = alike_among r (legs_of r) || (no_leg_on 1 r || no_leg_on 2 r)

-- ".. an intercontract spread of a contract with itself"
abbrev pub with_itself : Record → Bool
with_itself r = eqb (contract r) (second_contract r)

-- 2026-05: "byte 1 currency 1..7, ascending"; "its order under 8"
abbrev pub currency_not_above : Record → Record → Bool
currency_not_above before r = of_kind 6 before && leb (rate_currency r) (rate_currency before)

abbrev pub out_of_order : Record → Record → Bool
out_of_order before r =
    by_kind (kind r)
    (1 has number_not_above before r
    ∷ 2 has (day_not_above before r || tier_falls before r)
    ∷ 3 has contract_falls before r
    ∷ 4 has (contract_falls before r || legs_clash r)
    ∷ 5 has with_itself r
    ∷ 6 has currency_not_above before r ∷ [])
    false

-- contracts are numbered 0 to 15, each once; "per contract 32 prompts, 128 rows, 32 interprompt spreads; 32 intercontract
-- spreads"
abbrev pub most_contracts : ℕ
most_contracts = 16

abbrev pub most_prompts : ℕ
most_prompts = 32

abbrev pub most_rows : ℕ
most_rows = 128

abbrev pub most_spreads : ℕ
most_spreads = 32

abbrev pub most_entries : ℕ
most_entries = 32

-- 9: "one record more than a per-contract or intercontract limit"
abbrev pub reached : ℕ → (Record → Bool) → List Record → Bool
reached most p earlier = leb most (count p earlier)

abbrev pub over_limit : List Record → Record → Bool
over_limit earlier r =
    by_kind (kind r)
    (2 has reached most_prompts (of_contract 2 (contract r)) earlier
    ∷ 3 has reached most_rows (of_contract 3 (contract r)) earlier
    ∷ 4 has reached most_spreads (of_contract 4 (contract r)) earlier
    ∷ 5 has reached most_entries (of_kind 5) earlier ∷ [])
    false

-- The table: a number, and whether what it is given for is so.
pub record Refusal : Type 0 where
  pub number : ℕ
  pub given : Bool

infixl 70 ◌when◌
abbrev pub ◌when◌ : ℕ → Bool → Refusal
n when b = record { number = n; given = b }

abbrev pub refusals : List Record → Record → List Refusal
refusals earlier r =
    3 when unknown_kind r ∷ 4 when kind_falls (the_one_before earlier) r ∷ 5 when unused_byte r ∷ 6 when field_outside r
    ∷ 7 when unlisted earlier r ∷ 8 when out_of_order (the_one_before earlier) r ∷ 9 when over_limit earlier r ∷ []

-- "each tested 3 to 9, the first fault answering"; 0 where there is none
abbrev pub first_of : List Refusal → ℕ
first_of [] = 0
first_of (x ∷ xs) = cond x.given x.number (first_of xs)

abbrev pub fault_of : List Record → Record → ℕ
fault_of earlier r = first_of (refusals earlier r)

-- "then records from 0 up": from record k on
abbrev pub or_else : ℕ → ℕ → Answer → Answer
or_else number k later = cond (eqb number 0) later (refusal number k)

abbrev pub first_fault : ℕ → List Record → List Record → Answer
first_fault k earlier [] = Ok tt
first_fault k earlier (r ∷ later) = or_else (fault_of earlier r) k (first_fault (k + 1) (r ∷ earlier) later)

-- "At most 640 records"; 1: "file longer than 61,440 bytes"
abbrev pub most_records : ℕ
most_records = 640

abbrev pub too_long : List ℕ → Bool
too_long file = ltb (most_records * record_bytes) (length file)

-- 2: "length no multiple of 96"
abbrev pub cut_record : List ℕ → Bool
cut_record file = not (eqb (length file % record_bytes) 0)

-- "Order: 1, 2; then records from 0 up"
abbrev pub records_checked : List ℕ → Answer
records_checked file =
    cond (too_long file) (Err TooLong) (cond (cut_record file) (Err CutRecord) (first_fault 0 [] (records file)))
