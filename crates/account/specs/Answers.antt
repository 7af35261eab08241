-- The table of refusals of document 01, "What comes back", and of requests 2026-01, 2026-05, 2026-07, 2026-08, 2026-10, 2026-12 and
-- 2026-14: the number of each and the record that it names.
-- Assumes nothing.
use Rattle.std.specs.Prelude.{ℕ, cond, eqb, Result, Ok, Err}
use Rattle.account.specs.declared.answers.Refusal.{Refusal}
use Rattle.account.specs.declared.answers.Refusal.TheVariants.{TooLong, CutRecord, UnknownKind, KindFalls, UnusedByte, FieldOutside, Unlisted}
use Rattle.account.specs.declared.answers.Refusal.TheVariants.{OutOfOrder, OverLimit, TooFewNumbers, NoSuchQuestion, NoonSpread, TooManyJoined, NoRate}
use Rattle.account.specs.declared.answers.Refusal.TheVariants.{ConversionBeyond, TooFewBytes, LengthsDiffer, OtherCounts, TooManyAccounts, LimitBelowZero}
use Rattle.account.specs.declared.answers.Refusal.TheVariants.{AmountOutside, NoTicketLeft}

-- what comes back: nothing is refused, or what is
abbrev pub Answer : Type 0
Answer = Result Unit Refusal

-- "No."
abbrev pub refusal_number : Refusal → ℕ
refusal_number TooLong = 1
refusal_number CutRecord = 2
refusal_number (UnknownKind k) = 3
refusal_number (KindFalls k) = 4
refusal_number (UnusedByte k) = 5
refusal_number (FieldOutside k) = 6
refusal_number (Unlisted k) = 7
refusal_number (OutOfOrder k) = 8
refusal_number (OverLimit k) = 9
refusal_number (TooFewNumbers k) = 10
refusal_number (NoSuchQuestion k) = 11
refusal_number (NoonSpread k) = 12
refusal_number (TooManyJoined k) = 13
refusal_number (NoRate k) = 14
refusal_number (ConversionBeyond k) = 15
refusal_number TooFewBytes = 16
refusal_number LengthsDiffer = 17
refusal_number OtherCounts = 18
refusal_number TooManyAccounts = 19
refusal_number LimitBelowZero = 20
refusal_number (AmountOutside k) = 21
refusal_number NoTicketLeft = 22

-- "Record named"; 0 where none is
abbrev pub refusal_record : Refusal → ℕ
refusal_record TooLong = 0
refusal_record CutRecord = 0
refusal_record (UnknownKind k) = k
refusal_record (KindFalls k) = k
refusal_record (UnusedByte k) = k
refusal_record (FieldOutside k) = k
refusal_record (Unlisted k) = k
refusal_record (OutOfOrder k) = k
refusal_record (OverLimit k) = k
refusal_record (TooFewNumbers k) = k
refusal_record (NoSuchQuestion k) = k
refusal_record (NoonSpread k) = k
refusal_record (TooManyJoined k) = k
refusal_record (NoRate k) = k
refusal_record (ConversionBeyond k) = k
refusal_record TooFewBytes = 0
refusal_record LengthsDiffer = 0
refusal_record OtherCounts = 0
refusal_record TooManyAccounts = 0
refusal_record LimitBelowZero = 0
refusal_record (AmountOutside k) = k
refusal_record NoTicketLeft = 0

-- 0 where nothing is refused
abbrev pub number_of : Answer → ℕ
number_of (Ok u) = 0
number_of (Err r) = refusal_number r

abbrev pub record_of : Answer → ℕ
record_of (Ok u) = 0
record_of (Err r) = refusal_record r

-- of what comes back with a value: whether it is refused, and what for
abbrev pub answer_of : {A : Type 0} → Result A Refusal → Answer
answer_of (Ok a) = Ok tt
answer_of (Err r) = Err r

-- what comes next, where nothing is refused
abbrev pub and_then : {A : Type 0} → Answer → Result A Refusal → Result A Refusal
and_then (Ok u) next = next
and_then (Err r) next = Err r

-- the refusal of a record, by its number
abbrev pub refusal : ℕ → ℕ → Answer
refusal number k =
    cond (eqb number 3) (Err (UnknownKind k))
    (cond (eqb number 4) (Err (KindFalls k))
    (cond (eqb number 5) (Err (UnusedByte k))
    (cond (eqb number 6) (Err (FieldOutside k))
    (cond (eqb number 7) (Err (Unlisted k))
    (cond (eqb number 8) (Err (OutOfOrder k))
    (cond (eqb number 9) (Err (OverLimit k))
    (cond (eqb number 14) (Err (NoRate k))
    (cond (eqb number 15) (Err (ConversionBeyond k)) (Ok tt)))))))))
