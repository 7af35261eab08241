-- What is accepted, by its number.
-- Assumes nothing.
use Rattle.std.specs.Prelude.{List, true, false, Result, Ok, Err}
use Rattle.std.specs.Result.{is_err, result_and}
use Prim.Native.Nat.{ℕ, suc}
use native.Mathlib.Omega.{arith}
use mathlib.Core.Path.{◌≡◌, refl, ◌∙◌}
use Rattle.account.specs.Answers.{Answer, and_then, number_of}
use Rattle.account.specs.Check.{records_checked}
use Rattle.account.specs.code.Surveyed.{NotedBy}
use Rattle.account.specs.declared.answers.Refusal.{Refusal}
use Rattle.account.specs.declared.check.Noted.{Noted}
use Rattle.account.specs.declared.answers.Refusal.TheVariants.{TooLong, CutRecord, UnknownKind, KindFalls, UnusedByte, FieldOutside, Unlisted}
use Rattle.account.specs.declared.answers.Refusal.TheVariants.{OutOfOrder, OverLimit, TooFewNumbers, NoSuchQuestion, NoonSpread, TooManyJoined, NoRate}
use Rattle.account.specs.declared.answers.Refusal.TheVariants.{ConversionBeyond, TooFewBytes, LengthsDiffer, OtherCounts, TooManyAccounts, LimitBelowZero}
use Rattle.account.specs.declared.answers.Refusal.TheVariants.{AmountOutside, NoTicketLeft}

pub some : {n : ℕ} → suc n ≡ 0 → ⊥
some e = omega arith

-- number 0 is given to what is accepted alone
pub accepted_only : (a : Answer) → number_of a ≡ 0 → a ≡ Ok tt
accepted_only (Ok tt) e = refl
accepted_only (Err TooLong) e = absurd (some e)
accepted_only (Err CutRecord) e = absurd (some e)
accepted_only (Err (UnknownKind k)) e = absurd (some e)
accepted_only (Err (KindFalls k)) e = absurd (some e)
accepted_only (Err (UnusedByte k)) e = absurd (some e)
accepted_only (Err (FieldOutside k)) e = absurd (some e)
accepted_only (Err (Unlisted k)) e = absurd (some e)
accepted_only (Err (OutOfOrder k)) e = absurd (some e)
accepted_only (Err (OverLimit k)) e = absurd (some e)
accepted_only (Err (TooFewNumbers k)) e = absurd (some e)
accepted_only (Err (NoSuchQuestion k)) e = absurd (some e)
accepted_only (Err (NoonSpread k)) e = absurd (some e)
accepted_only (Err (TooManyJoined k)) e = absurd (some e)
accepted_only (Err (NoRate k)) e = absurd (some e)
accepted_only (Err (ConversionBeyond k)) e = absurd (some e)
accepted_only (Err TooFewBytes) e = absurd (some e)
accepted_only (Err LengthsDiffer) e = absurd (some e)
accepted_only (Err OtherCounts) e = absurd (some e)
accepted_only (Err TooManyAccounts) e = absurd (some e)
accepted_only (Err LimitBelowZero) e = absurd (some e)
accepted_only (Err (AmountOutside k)) e = absurd (some e)
accepted_only (Err NoTicketLeft) e = absurd (some e)

-- and to no refusal
pub refused_some : {a : Answer} {r : Refusal} → Err r ≡ a → number_of a ≡ 0 → ⊥
refused_some {a} e z = let f = e ∙ accepted_only a z in cc

-- what comes next does not come where something is refused
pub still_refused : {A B : Type 0} (a : Answer) (x : A) (y : B) {r : Refusal} → and_then a (Ok x) ≡ Err r → and_then a (Ok y) ≡ Err r
still_refused (Ok u) x y e = cc
still_refused (Err s) x y e = cc

pub given_refused : {A : Type 0} (a : Answer) (x : A) {r : Refusal} → and_then a (Ok x) ≡ Err r → a ≡ Err r
given_refused (Ok u) x e = absurd cc
given_refused (Err s) x e = cc

pub then_given : {A : Type 0} (a : Answer) {x z : A} → and_then a (Ok x) ≡ Ok z → (a ≡ Ok tt) × (z ≡ x)
then_given (Ok u) e = (refl, cc)
then_given (Err s) e = absurd cc

-- the library's test of an answer
pub err_some : (a : Answer) → is_err a ≡ true → number_of a ≡ 0 → ⊥
err_some (Ok u) e z = absurd cc
err_some (Err r) e z = refused_some {a = Err r} refl z

pub err_none : (a : Answer) → is_err a ≡ false → number_of a ≡ 0
err_none (Ok u) e = refl
err_none (Err r) e = absurd cc

-- what is refused is not noted
pub noted_refused :
    (file first counts : List ℕ) (a : Answer) (next : Result Noted Refusal) → (number_of a ≡ 0 → ⊥) → a ≡ records_checked file
    → NotedBy file (result_and a next) first counts
noted_refused file first counts (Ok u) next nz e = absurd (nz refl)
noted_refused file first counts (Err r) next nz e = e
