-- Each sum with what the account adds; the largest margin and its place, by whether the account leads.
-- Assumes nothing.
use native.Mathlib.Omega.{arith}
use Prim.Native.Nat.{ℕ, ◌+◌, ◌-◌}
use mathlib.Core.Path.{refl, sym, ap, ◌∙◌}
use mathlib.Core.Bool.{Bool, not, cond}
use lib.Dec.{eqb}
use Rattle.exact.proofs.Tests.{one_at_most}
use Rattle.committee.proofs.Flags.{flag}
use Rattle.formulas.specs.declared.amount.Amount.{Amount}
use Rattle.committee.proofs.sums.with_account.Goals as goal
use Rattle.committee.proofs.sums.with_account.Goals.{then-leads, else-leads}

pub with_refusal-requires : goal.with_refusal-requires
with_refusal-requires c = c.requires.0.refusals_most (c.args.account.refusal - 1)

pub overflow_add-result : goal.overflow_add-result
overflow_add-result c =
    omega (arith, c.requires.0.accepted_most, c.from.ensures ∙ flag (eqb c.args.account.refusal 0), one_at_most (eqb c.args.account.refusal 0))

pub overflow_add-result-2 : goal.overflow_add-result-2
overflow_add-result-2 c =
    omega (arith, c.requires.0.refused_most, c.from-2.ensures ∙ flag (not (eqb c.args.account.refusal 0)), one_at_most (not (eqb c.args.account.refusal 0)))

pub overflow_add-result-3 : goal.overflow_add-result-3
overflow_add-result-3 c =
    omega
    (arith, c.requires.0.margin_most, c.requires.1)

pub overflow_add-result-4 : goal.overflow_add-result-4
overflow_add-result-4 c =
    omega
    (arith, c.requires.0.credits_most, c.requires.2)

pub overflow_add-result-5 : goal.overflow_add-result-5
overflow_add-result-5 c =
    omega
    (arith, c.requires.0.above_most, c.requires.3)

pub returns : goal.returns
returns c =
    let s = c.args in
    record {
      accepted_is = ap (λ (n : ℕ). s.sums.accepted + n) (c.from.ensures ∙ flag (eqb s.account.refusal 0));
      refused_is = ap (λ (n : ℕ). s.sums.refused + n) (c.from-2.ensures ∙ flag (not (eqb s.account.refusal 0)));
      refusals_are = c.with_refusal.ensures;
      margin_is = refl;
      largest_is =
          elim c.if-leads.branch [
            | then-leads w ↦ ap (λ (p : Amount × ℕ). p.0.0) w.place-is ∙ sym (ap (λ (t : Bool). cond {A = ℕ} t s.account.margin.0 s.sums.largest.0) w.if-leads.true)
            | else-leads w ↦ ap (λ (p : Amount × ℕ). p.0.0) w.place-is ∙ sym (ap (λ (t : Bool). cond {A = ℕ} t s.account.margin.0 s.sums.largest.0) w.if-leads.false)
          ];
      place_is =
          elim c.if-leads.branch [
            | then-leads w ↦ ap (λ (p : Amount × ℕ). p.1) w.place-is ∙ sym (ap (λ (t : Bool). cond {A = ℕ} t s.place s.sums.place) w.if-leads.true)
            | else-leads w ↦ ap (λ (p : Amount × ℕ). p.1) w.place-is ∙ sym (ap (λ (t : Bool). cond {A = ℕ} t s.place s.sums.place) w.if-leads.false)
          ];
      credits_are = refl;
      above_is = refl;
    }
