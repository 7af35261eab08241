-- The first of the refusals in their order.
-- Assumes nothing.
use Rattle.std.specs.Prelude.{Ok, Err}
use Prim.Native.Nat.{ℕ}
use mathlib.Core.Path.{◌≡◌, sym, ap, ◌∙◌}
use mathlib.Core.Bool.{Bool, cond}
use native.Mathlib.Omega.{arith}
use borrow.Author.Tests.{lt-ltb, le-ltb}
use Rattle.account.specs.Check.{most_records}
use Rattle.account.proofs.AcceptedOnly.{err_some, err_none}
use Rattle.account.specs.Answers.{number_of}
use Rattle.account.specs.Noon.{of_joined, of_morning, of_noon, few_joined}
use Rattle.account.specs.code.Pair.{noon_spread, verdict_by}
use Rattle.account.specs.declared.answers.Refusal.TheVariants.{TooManyJoined}
use Rattle.account.proofs.NoonLaws.{stops, goes}
use Rattle.account.specs.declared.check.Survey.{Survey}
use Rattle.account.proofs.noon.verdict_of.Goals as goal

-- nothing is refused but how many records are joined
joined : (m n : Survey) (k : ℕ) → number_of m.answer ≡ 0 → number_of n.answer ≡ 0 → number_of (noon_spread n) ≡ 0
    → verdict_by m n k ≡ of_joined (few_joined k)
joined m n k e f g = goes (of_morning m.answer) _ e ∙ goes (of_noon n.answer) _ f ∙ goes (of_noon (noon_spread n)) _ g

pub returns-then-is_err : goal.returns-then-is_err
returns-then-is_err c =
    sym (stops (of_morning c.args.morning.answer) _ (err_some _ (sym c.is_err.ensures.value ∙ c.if-is_err.true)))

pub returns-then-is_err-2 : goal.returns-then-is_err-2
returns-then-is_err-2 c =
    sym
    (goes (of_morning c.args.morning.answer) _ (err_none _ (sym c.is_err.ensures.value ∙ c.if-is_err.false))
    ∙ stops (of_noon c.args.noon.answer) _ (err_some _ (sym c.is_err-2.ensures.value ∙ c.if-is_err-2.true)))

pub returns-then-is_err-3 : goal.returns-then-is_err-3
returns-then-is_err-3 c =
    let a = c.args in
    let third = c.noon_spread-third.ensures in
    ap of_noon third
    ∙ sym
    (goes (of_morning a.morning.answer) _ (err_none _ (sym c.is_err.ensures.value ∙ c.if-is_err.false))
    ∙ goes (of_noon a.noon.answer) _ (err_none _ (sym c.is_err-2.ensures.value ∙ c.if-is_err-2.false))
    ∙ stops (of_noon (noon_spread a.noon)) _ (λ z. err_some _ (sym c.is_err-3.ensures.value ∙ c.if-is_err-3.true) (ap number_of third ∙ z)))

pub returns-then-records-gt-MOST_RECORDS : goal.returns-then-records-gt-MOST_RECORDS
returns-then-records-gt-MOST_RECORDS c =
    let a = c.args in
    let third = ap number_of (sym c.noon_spread-third.ensures) ∙ err_none _ (sym c.is_err-3.ensures.value ∙ c.if-is_err-3.false) in
    sym
    (joined a.morning a.noon a.records (err_none _ (sym c.is_err.ensures.value ∙ c.if-is_err.false))
    (err_none _ (sym c.is_err-2.ensures.value ∙ c.if-is_err-2.false)) third
    ∙ ap (λ (t : Bool). of_joined (cond t (Err (TooManyJoined a.records)) (Ok tt))) (lt-ltb most_records a.records c.if-records-gt-MOST_RECORDS.true))

pub returns : goal.returns
returns c =
    let a = c.args in
    let third = ap number_of (sym c.noon_spread-third.ensures) ∙ err_none _ (sym c.is_err-3.ensures.value ∙ c.if-is_err-3.false) in
    sym
    (joined a.morning a.noon a.records (err_none _ (sym c.is_err.ensures.value ∙ c.if-is_err.false))
    (err_none _ (sym c.is_err-2.ensures.value ∙ c.if-is_err-2.false)) third
    ∙ ap (λ (t : Bool). of_joined (cond t (Err (TooManyJoined a.records)) (Ok tt))) (le-ltb most_records a.records (omega (arith, c.if-records-gt-MOST_RECORDS.false))))
