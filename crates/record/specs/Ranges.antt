-- The refusals of document 01 that a record gets by itself.
-- Assumes nothing.
use Rattle.std.specs.Prelude.{ℕ, ◌+◌, Bool, not, ◌&&◌, ◌||◌, List, length, eqb, leb, ltb}
use Rattle.std.specs.Int.Signed.{le_z}
use Rattle.exact.specs.Lists.{any}
use Rattle.record.specs.Bytes.{Record, record_bytes, byte_at, bytes_of, twos_complement, Range, plain, signed, Field, number_in, count_from}
use Rattle.record.specs.Layout.{kind, contract, fields_of}

-- 3: "kind not 1..5"; 2026-05: "kind 6 is now allowed in 3"
abbrev pub most_kind : ℕ
most_kind = 6

abbrev pub unknown_kind : Record → Bool
unknown_kind r = not (leb 1 (kind r) && leb (kind r) most_kind)

-- "Bytes not named are zero."
abbrev pub covers : ℕ → Field → Bool
covers o f = leb f.start o && ltb o (f.start + bytes_of f.width)

abbrev pub named : List Field → ℕ → Bool
named fs o = eqb o 0 || any (covers o) fs

abbrev pub not_zero : Record → ℕ → Bool
not_zero r o = not (eqb (byte_at r o) 0)

-- 5: "an unused byte is not zero"
abbrev pub unused_beside : List Field → Record → Bool
unused_beside fs r = any (λ o. not (named fs o) && not_zero r o) (count_from 0 record_bytes)

abbrev pub unused_byte : Record → Bool
unused_byte r = unused_beside (fields_of r) r

abbrev pub beyond : Range → ℕ → Bool
beyond (plain low high) x = not (leb low x && leb x high)
beyond (signed low high) x = not (le_z low (twos_complement x) && le_z (twos_complement x) high)

-- 6: "a field outside its range"
abbrev pub outside : Record → Field → Bool
outside r f = beyond f.range (number_in f r)

abbrev pub outside_among : List Field → Record → Bool
outside_among fs r = any (outside r) fs

abbrev pub field_outside : Record → Bool
field_outside r = outside_among (fields_of r) r

-- A whole record of a kind and a contract that gets neither 5 nor 6.
abbrev pub of_kind_and_contract : ℕ → ℕ → Record → Bool
of_kind_and_contract n c r = eqb (kind r) n && eqb (contract r) c

abbrev pub sound_record : ℕ → ℕ → Record → Bool
sound_record n c r =
    leb record_bytes (length r) && (of_kind_and_contract n c r && not (unused_byte r || field_outside r))
