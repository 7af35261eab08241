-- What the contract at a place adds, from its eight numbers.
-- Assumes nothing.
use native.Mathlib.Omega.{arith}
use mathlib.Core.Path.{ap, ◌∙◌}
use Prim.Native.Nat.{ℕ}
use lib.Dec.{ltb}
use Rattle.exact.specs.Lists.{one_if}
use Rattle.formulas.specs.Margin.{risk}
use Rattle.committee.proofs.Flags.{flag}
use Rattle.committee.proofs.contracts.found_at.Goals as goal

pub above_risk-above-requires : goal.above_risk-above-requires
above_risk-above-requires c =
    let h = c.requires.0.risk_within c.args.i c.requires.1 in
    omega (
      arith,
      h,
      c.amount_at-scanning.ensures,
      c.amount_at-interprompt.ensures,
      c.amount_at-prompt.ensures,
    )

pub returns : goal.returns
returns c =
    let scanning = c.amount_at-scanning.ensures in
    let interprompt = c.amount_at-interprompt.ensures in
    let prompt = c.amount_at-prompt.ensures in
    let credit = c.amount_at-credit.ensures in
    let minimum = c.amount_at-minimum.ensures in
    record {
      margin_is = c.amount_at.ensures;
      credits_are = c.from.ensures ∙ flag (ltb 0 c.amount_at-credit.result.0) ∙ ap (λ (n : ℕ). one_if (ltb 0 n)) credit;
      above_is =
          c.from-2.ensures ∙ flag c.above_risk-above.result
          ∙ ap one_if (c.above_risk-above.ensures ∙ (λ i. ltb (risk (scanning i) (interprompt i) (prompt i) (credit i)) (minimum i)));
    }
