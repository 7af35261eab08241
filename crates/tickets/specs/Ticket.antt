-- Request 2026-07, "One ticket more": a row that is put into an account file, and what it is refused for.
-- Assumes nothing.
use Rattle.std.specs.Prelude.{ℕ, ◌*◌, Bool, not, ◌&&◌, ◌||◌, cond, List, [], ◌∷◌, ◌++◌, eqb, leb, length, take, drop, Ok, Err}
use Rattle.exact.specs.Lists.{count}
use Rattle.record.specs.Layout.{Record, record_bytes, contract}
use Rattle.record.specs.Ranges.{unused_byte, field_outside}
use Rattle.account.specs.Check.{the_one_before, unlisted, out_of_order, over_limit, most_records, Refusal, ◌when◌, first_of, or_else}
use Rattle.account.specs.Checked.{rate_refusals}
use Rattle.account.specs.Parts.{of_kind, rates_of}
use Rattle.account.specs.Records.{records, record_count, earlier}
use Rattle.account.specs.Answers.{Answer}
use Rattle.account.specs.declared.answers.Refusal.TheVariants.{TooLong, CutRecord, UnknownKind}

-- "its would-be place, after kinds 1 and 2 and every row whose byte 1 is not above its own"
abbrev pub stands_before : Record → Record → Bool
stands_before ticket r = of_kind 1 r || (of_kind 2 r || (of_kind 3 r && leb (contract r) (contract ticket)))

abbrev pub place : Record → List Record → ℕ
place ticket account = count (stands_before ticket) account

-- "the file with that row put last among its contract's rows"
abbrev pub with_ticket : List ℕ → Record → List ℕ
with_ticket file ticket =
    let before = place ticket (records file) * record_bytes in take before file ++ (ticket ++ drop before file)

-- several tickets, one after the other
abbrev pub with_tickets : List ℕ → List Record → List ℕ
with_tickets file [] = file
with_tickets file (ticket ∷ tickets) = with_tickets (with_ticket file ticket) tickets

-- the records before its place, the latest first
abbrev pub ahead : List ℕ → Record → List Record
ahead file ticket = earlier file (place ticket (records file))

-- 2: "not 96 bytes"
abbrev pub cut_ticket : Record → Bool
cut_ticket ticket = not (eqb (length ticket) record_bytes)

-- 3: "not kind 3"
abbrev pub not_row : Record → Bool
not_row ticket = not (of_kind 3 ticket)

-- "5 to 9, then 14 and 15, for the new row"
abbrev pub row_refusals : List ℕ → Record → List Refusal
row_refusals file row =
    let earlier = ahead file row in
    5 when unused_byte row ∷ 6 when field_outside row ∷ 7 when unlisted earlier row
    ∷ 8 when out_of_order (the_one_before earlier) row ∷ 9 when over_limit earlier row ∷ rate_refusals (rates_of (records file)) row

abbrev pub row_fault : List ℕ → Record → ℕ
row_fault file row = first_of (row_refusals file row)

-- 1: "when the file would pass 640 records"
abbrev pub full_with : List ℕ → Bool
full_with file = leb most_records (record_count file)

-- "Refusals, changing nothing: 2 ..; 3 ..; 5 to 9 ..; 3 to 15 name its would-be place ..; then 1"
abbrev pub ticket_checked : List ℕ → Record → Answer
ticket_checked file ticket =
    let k = place ticket (records file) in
    cond (cut_ticket ticket) (Err CutRecord)
    (cond (not_row ticket) (Err (UnknownKind k))
    (or_else (row_fault file ticket) k
    (cond (full_with file) (Err TooLong) (Ok tt))))
