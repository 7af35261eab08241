-- Runs of sound records: a contract's own record, or the prompts, rows or interprompt spreads of a contract, or intercontract spreads, after one
-- that has passed, as far as they pass like it.
-- Assumes nothing.
use Rattle.std.specs.Prelude.{ℕ, ◌+◌, ◌-◌, ◌≤◌, ◌<◌, ◌≡◌, Bool, true, false, not, ◌&&◌, ◌||◌, List, map, length, get_or, set, eqb, Result, MatchResult}
use Rattle.exact.specs.Lists.{any, one_if}
use Rattle.record.specs.Bytes.{count_from}
use Rattle.record.specs.Layout.{Record, kind, contract, currency, day, two_legs, legs_of, leg_tier, leg_side, second_contract}
use Rattle.record.specs.Ranges.{sound_record}
use Rattle.account.specs.declared.check.Step.{Step}
use Rattle.account.specs.Check.{most_records, most_prompts, kind_falls, number_not_above, contract_falls, day_not_above, tier_falls, same_leg, with_itself}
use Rattle.account.specs.Conversions.{other_row}
use Rattle.account.specs.PartNumbers.{parts}
use Rattle.account.specs.code.Notes.{part_of, one_more, start_noted, no_contract, before_at, fault_at}
use Rattle.account.specs.Parts.{of_kind, on_tier}
use Rattle.account.specs.Records.{record_at, record_count}

-- the days of prompts, and 0 beyond them
pub record DaysListed (prompts : List Record) (days : List ℕ) : Type 0 where
  pub long : length days ≡ most_prompts
  pub each : (j : ℕ) → j < most_prompts → get_or days j 0 ≡ get_or (map day prompts) j 0

abbrev pub has_day : List ℕ → ℕ → Bool
has_day days d = any (λ j. eqb (get_or days j 0) d) (count_from 0 most_prompts)

-- which tiers have a prompt, by the tier's byte
abbrev pub tier_bytes : ℕ
tier_bytes = 256

pub record TiersListed (prompts : List Record) (listed : List Bool) : Type 0 where
  pub long : length listed ≡ tier_bytes
  pub each : (t : ℕ) → t < tier_bytes → get_or listed t false ≡ any (on_tier t) prompts

abbrev pub leg_unlisted_in : List Bool → Record → ℕ → Bool
leg_unlisted_in listed r leg = not (get_or listed (leg_tier r leg) false)

-- Two legs alike, or all legs on one side: where this fails, the legs of a sound spread do not clash (`legs_apart`, Legs). The third leg's
-- bytes are looked at where there is none, too: a sound spread has zeros there, which no tier of its legs is.
abbrev pub on_one_side : Record → ℕ → ℕ → Bool
on_one_side r i j = eqb (leg_side r i) (leg_side r j)

abbrev pub legs_meet : Record → Bool
legs_meet r =
    same_leg r 0 1 || (same_leg r 0 2 || (same_leg r 1 2 || (on_one_side r 0 1 && (two_legs r || on_one_side r 1 2))))

-- a contract's own record that passes, after whichever record
abbrev pub contract_passes : Record → Record → Bool
contract_passes before r = not (kind_falls before r || number_not_above before r) && sound_record 1 (contract r) r

-- a record that passes after one of its kind and contract
abbrev pub prompt_passes : ℕ → Record → Record → Bool
prompt_passes c before r = sound_record 2 c r && not (day_not_above before r || tier_falls before r)

-- in another currency than the margin's only where that is let
abbrev pub row_passes : ℕ → List ℕ → Bool → Record → Bool
row_passes c days other r = (sound_record 3 c r && (other || eqb (currency r) 0)) && has_day days (day r)

abbrev pub spread_passes : ℕ → List Bool → Record → Bool
spread_passes c listed r = sound_record 4 c r && not (legs_meet r || any (leg_unlisted_in listed r) (legs_of r))

-- an intercontract spread of two contracts that are listed
abbrev pub entry_passes : List ℕ → Record → Bool
entry_passes counts r =
    sound_record 5 (contract r) r && not (no_contract counts (contract r) || (no_contract counts (second_contract r) || with_itself r))

-- numbers from k on that pass a test, up to one at most at the end
pub record RunTo (passes : ℕ → Bool) (k end i : ℕ) : Type 0 where
  pub low : k ≤ i
  pub high : i ≤ end
  pub each : (j : ℕ) → k ≤ j → j < i → passes j ≡ true

-- the notes with the records after record k counted up to record j, all of record k's part
abbrev pub part_at_record : List ℕ → ℕ → ℕ
part_at_record file k = part_of (record_at file k)

abbrev pub counted_to : List ℕ → List ℕ → ℕ → ℕ → List ℕ
counted_to file counts k j =
    set counts (part_at_record file k) (get_or counts (part_at_record file k) 0 + (j - (k + 1)))

-- record j gets no fault, by the notes of the records before it, and is a row in another currency only where record k is one
pub record PassesAt (file first counts : List ℕ) (k j : ℕ) : Type 0 where
  pub fine : fault_at file first (counted_to file counts k j) j ≡ 0
  pub alike : part_at_record file j ≡ part_at_record file k
  pub other : of_kind 1 (record_at file j) ≡ false
  pub unconverted : other_row (record_at file k) ≡ false → other_row (record_at file j) ≡ false

pub record Passes (file first counts : List ℕ) (k next : ℕ) : Type 0 where
  pub low : k < next
  pub high : next ≤ record_count file
  pub each : (j : ℕ) → k < j → j < next → PassesAt file first counts k j

-- record k is of kind n and contract c, which is listed
pub record After (n : ℕ) (file counts : List ℕ) (k c : ℕ) : Type 0 where
  pub inside : k < record_count file
  pub sizes : length counts ≡ parts
  pub kinds : kind (record_at file k) ≡ n
  pub contracts : contract (record_at file k) ≡ c
  pub listed : no_contract counts c ≡ false

-- and stands in order after the record before it
pub record Begins (n : ℕ) (file counts : List ℕ) (k c : ℕ) : Type 0 where
  pub after : After n file counts k c
  pub rises : kind_falls (before_at file k) (record_at file k) ≡ false
  pub stays : contract_falls (before_at file k) (record_at file k) ≡ false
  pub later : 0 < k
  pub byte : c < 256

-- records from record k on that pass one after another, the first of them by the notes as they are
pub record Runs (file first counts : List ℕ) (k next : ℕ) : Type 0 where
  pub low : k ≤ next
  pub high : next ≤ record_count file
  pub fine : k < next → fault_at file first counts k ≡ 0
  pub later : k < next
      → Passes file (start_noted first counts (part_at_record file k) k) (one_more counts (part_at_record file k)) k next

-- what is asked where records are noted: a record without a fault has a part, and room in it
pub record Notable (file first counts : List ℕ) (k : ℕ) : Type 0 where
  pub inside : k < record_count file
  pub few : record_count file ≤ most_records
  pub firsts : length first ≡ parts
  pub sizes : length counts ≡ parts
  pub known : fault_at file first counts k ≡ 0 → part_at_record file k < parts
  pub room : fault_at file first counts k ≡ 0 → get_or counts (part_at_record file k) 0 ≤ k

-- the notes with record k and those after it up to another, all of its part
pub record NotedTo (file first counts : List ℕ) (k next : ℕ) (first' counts' : List ℕ) : Type 0 where
  pub started : first' ≡ start_noted first counts (part_at_record file k) k
  pub counted : counts' ≡ counted_to file (one_more counts (part_at_record file k)) k next

-- a step of the check: record k has a fault, or the check goes on past it
pub record Advances (file first counts : List ℕ) (k next contracts : ℕ) (first' counts' : List ℕ) : Type 0 where
  pub fine : fault_at file first counts k ≡ 0
  pub noted : NotedTo file first counts k next first' counts'
  pub later : Passes file first' (one_more counts (part_at_record file k)) k next
  pub own : contracts ≡ one_if (of_kind 1 (record_at file k))

-- what the step comes to: the notes go on, or a fault by its number
abbrev pub StepBy : List ℕ → List ℕ → List ℕ → ℕ → Result Step ℕ → List ℕ → List ℕ → Type 0
StepBy file first counts k r first' counts' =
    MatchResult r (λ (s : Step). Advances file first counts k s.next s.contracts first' counts')
    (λ (number : ℕ). (number ≡ fault_at file first counts k) × (number ≡ 0 → ⊥))
