-- The call for a joined account: refused, an amount outside its range, none, or what is not covered.
-- Assumes nothing.
use Prim.Native.Nat.{ℕ}
use mathlib.Core.Path.{◌≡◌, sym, ap₂, ◌∙◌}
use mathlib.Core.Bool.{false, ◌||◌}
use native.Mathlib.Omega.{arith}
use lib.IntN.{nat_abs}
use Rattle.exact.proofs.Integers.{seen}
use Rattle.record.proofs.Within.{neither}
use Rattle.account.proofs.AcceptedOnly.{err_some, err_none}
use Rattle.account.specs.Answers.{number_of}
use Rattle.account.specs.Joined.{account_of}
use Rattle.questions.specs.Noon.{beyond_amount, requirement, cover_call}
use Rattle.questions.proofs.NoonLaws.{pair_stands, amount_within, call_refused, call_outside, call_made}
use Rattle.questions.proofs.noon.cover_call.Goals as goal
use Rattle.questions.proofs.noon.cover_call.Goals.{After-beyond_amount-3, Else-beyond_amount, Else-is_err}

-- nothing is refused so far
clear : (c : Else-is_err) → number_of c.check_pair-checked.result.verdict.answer ≡ 0
clear c = err_none _ (sym c.is_err.ensures.value ∙ c.if-is_err.false)

-- the amounts are tested one after the other
tested : (c : After-beyond_amount-3) →
    let a = c.args in
    (c.beyond_amount.result || c.beyond_amount-2.result) || c.beyond_amount-3.result
    ≡ (beyond_amount a.last || beyond_amount a.threshold) || beyond_amount a.collateral
tested c =
    ap₂ ◌||◌
    (ap₂ ◌||◌
    (seen beyond_amount c.args.last c.ranges.last c.beyond_amount.ensures)
    (seen beyond_amount c.args.threshold c.ranges.threshold c.beyond_amount-2.ensures))
    (seen beyond_amount c.args.collateral c.ranges.collateral c.beyond_amount-3.ensures)

within : (c : Else-beyond_amount) →
    let a = c.args in
    (beyond_amount a.last || beyond_amount a.threshold) || beyond_amount a.collateral ≡ false
within c = sym (tested (goal.at.total_over-required-requires c).After-beyond_amount-3) ∙ c.if-beyond_amount.false

pub returns-then-is_err : goal.returns-then-is_err
returns-then-is_err c =
    let a = c.args in
    let o = c.check_pair-checked in
    call_refused a.morning.now a.noon.now o.result o.ensures a.last a.threshold a.collateral
    (err_some _ (sym c.is_err.ensures.value ∙ c.if-is_err.true))

pub returns-then-beyond_amount : goal.returns-then-beyond_amount
returns-then-beyond_amount c =
    let a = c.args in
    let o = c.check_pair-checked in
    let n = c.record_total in
    call_outside a.morning.now a.noon.now o.result o.ensures a.last a.threshold a.collateral (clear (goal.at.returns-then-beyond_amount c).Else-is_err)
    (sym (tested (goal.at.returns-then-beyond_amount c).After-beyond_amount-3) ∙ c.if-beyond_amount.true) n.result n.ensures c.of_joined.result c.of_joined.ensures

pub total_over-required-requires : goal.total_over-required-requires
total_over-required-requires c =
    let a = c.args in
    let o = c.check_pair-checked in
    pair_stands a.morning.now a.noon.now o.result o.ensures (clear (goal.at.total_over-required-requires c).Else-is_err)

pub call_of-requires : goal.call_of-requires
call_of-requires c =
    let w = neither _ _ (neither _ _ (within (goal.at.call_of-requires c).Else-beyond_amount)).0 in (
      omega (arith, amount_within c.args.last w.0, seen nat_abs c.args.last c.ranges.last c.magnitude.ensures),
      omega (arith, amount_within c.args.threshold w.1, seen nat_abs c.args.threshold c.ranges.threshold c.magnitude-2.ensures),
    )

pub returns : goal.returns
returns c =
    let a = c.args in
    let o = c.check_pair-checked in
    call_made a.morning.now a.noon.now o.result o.ensures a.last a.threshold a.collateral
    (clear (goal.at.returns c).Else-is_err) (within (goal.at.returns c).Else-beyond_amount) c.call_of.result
    (c.call_of.ensures
    ∙ ap₂ (λ (x y : ℕ). cover_call x y c.magnitude-2.result c.magnitude-3.result)
    c.total_over-required.ensures
    (seen nat_abs a.last c.ranges.last c.magnitude.ensures)
    ∙ ap₂ (cover_call (requirement (account_of a.morning.now a.noon.now)) (nat_abs a.last))
    (seen nat_abs a.threshold c.ranges.threshold c.magnitude-2.ensures)
    (seen nat_abs a.collateral c.ranges.collateral c.magnitude-3.ensures))
