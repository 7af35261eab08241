use mathlib.Core.Path.{◌≡◌, sym, ap, subst⁻¹, ◌∙◌}
use mathlib.Core.List.{List}
use Prim.Native.Nat.{ℕ, suc, ◌+◌, ◌-◌, ◌*◌, ◌≤◌}
use native.Mathlib.Omega.{arith}
use borrow.Author.Rules.{rules}
use borrow.Author.Tests.{eqb-true}
use lib.ListN.{length, get_or, take, drop}
use Rattle.exact.specs.Lists.{sum}
use Rattle.formulas.specs.Bounds.{longest_figures}
use Rattle.questions.specs.Questions.{figures_answer, after_figures}
use Rattle.margin.specs.Places.{at_place}
use Rattle.runs.proofs.RunLaws.{Going, begin, room_here, outcome_here, ends, go_on, end, differ, few_figures, few_outcomes, all}
use Rattle.runs.proofs.answer_run.Goals as goal
use Rattle.runs.proofs.answer_run.Goals.{In-loop-i}

-- the account that is answered next stands within the bytes
within : (c : In-loop-i) →
    let s = c.args in
    c.loop-i.at + get_or s.lengths.now c.loop-i.i 0 ≤ length s.accounts.now
within c =
    let s = c.args in
    let l = c.loop-i in
    let a = c.if-out-count.false in
    let b = c.if-outcomes-count.false in
    ends s.accounts.now s.lengths.now s.out.now s.outcomes.now
    (omega (arith, a)) (omega (arith, b)) l.out l.outcomes l.at l.i l.invariant c.loop-i-test.true

pub returns-then-not-add_up : goal.returns-then-not-add_up
returns-then-not-add_up c =
    let s = c.args in
    let h = differ s.accounts.now s.lengths.now s.out.now s.outcomes.now (sym c.add_up.ensures ∙ c.if-not-add_up.true) in
    record { value = h.is; out_after = h.out_is; outcomes_after = h.outcome_is }

pub returns-then-out-count : goal.returns-then-out-count
returns-then-out-count c =
    let s = c.args in
    let few = c.if-out-count.true in
    let h = few_figures s.accounts.now s.lengths.now s.out.now s.outcomes.now
    (sym c.add_up.ensures ∙ c.if-not-add_up.false) (omega (arith, few)) in
    record { value = h.is; out_after = h.out_is; outcomes_after = h.outcome_is }

pub returns-then-outcomes-count : goal.returns-then-outcomes-count
returns-then-outcomes-count c =
    let s = c.args in
    let enough = c.if-out-count.false in
    let few = c.if-outcomes-count.true in
    let h = few_outcomes s.accounts.now s.lengths.now s.out.now s.outcomes.now
    (sym c.add_up.ensures ∙ c.if-not-add_up.false) (omega (arith, enough)) (omega (arith, few)) in
    record { value = h.is; out_after = h.out_is; outcomes_after = h.outcome_is }

pub loop-i-init : goal.loop-i-init
loop-i-init c =
    let s = c.args in
    begin s.accounts.now s.lengths.now s.out.now s.outcomes.now
    (eqb-true (sum s.lengths.now) (length s.accounts.now)
    (sym c.add_up.ensures ∙ c.if-not-add_up.false))

pub overflow_add-end : goal.overflow_add-end
overflow_add-end c =
    let h = within (goal.at.overflow_add-end c).In-loop-i in
    search (rules, h)

pub place_figures-answer-requires : goal.place_figures-answer-requires
place_figures-answer-requires c =
    let s = c.args in
    let l = c.loop-i in
    let a = c.if-out-count.false in
    let b = c.if-outcomes-count.false in
    room_here s.accounts.now s.lengths.now s.out.now s.outcomes.now
    (omega (arith, a)) (omega (arith, b)) l.out l.outcomes l.at l.i l.invariant c.loop-i-test.true

pub place_outcome-requires : goal.place_outcome-requires
place_outcome-requires c =
    let s = c.args in
    let l = c.loop-i in
    let a = c.if-out-count.false in
    let b = c.if-outcomes-count.false in
    outcome_here s.accounts.now s.lengths.now s.out.now s.outcomes.now
    (omega (arith, a)) (omega (arith, b))
    l.out l.outcomes l.at l.i l.invariant c.loop-i-test.true

pub loop-i-preserved : goal.loop-i-preserved
loop-i-preserved c =
    let s = c.args in
    let l = c.loop-i in
    let a = c.if-out-count.false in
    let b = c.if-outcomes-count.false in
    let f = c.place_figures-answer in
    let o = c.place_outcome in
    let n = get_or s.lengths.now l.i 0 in
    let part : l.at + n - l.at ≡ n = omega arith in
    let account = ap (λ (k : ℕ). take k (drop l.at s.accounts.now)) part in
    let more : l.i + 1 ≡ suc l.i = omega arith in
    subst⁻¹ (Going s.accounts.now s.lengths.now s.out.now s.outcomes.now f.new.out o.new.out (l.at + n)) more
    (go_on s.accounts.now s.lengths.now s.out.now s.outcomes.now
    (omega (arith, a)) (omega (arith, b))
    l.out l.outcomes l.at l.i l.invariant c.loop-i-test.true
    f.result f.new.out o.new.out
    (f.ensures.0 ∙ ap (λ (x : List ℕ). figures_answer x longest_figures) account)
    (f.ensures.1 ∙ ap (λ (x : List ℕ). at_place longest_figures (longest_figures * l.i) (after_figures x) l.out) account)
    o.ensures)

pub shape_of-out : goal.shape_of-out
shape_of-out c = c.loop-i.invariant.as_long

pub shape_of-outcomes : goal.shape_of-outcomes
shape_of-outcomes c = c.loop-i.invariant.as_many

pub returns : goal.returns
returns c =
    let s = c.args in
    let l = c.loop-i in
    let a = c.if-out-count.false in
    let b = c.if-outcomes-count.false in
    let t = c.loop-i-test.false in
    let e = end s.accounts.now s.lengths.now s.out.now s.outcomes.now l.out l.outcomes l.at l.i l.invariant (omega (arith, t)) in
    let h = all s.accounts.now s.lengths.now s.out.now s.outcomes.now
    (sym c.add_up.ensures ∙ c.if-not-add_up.false) (omega (arith, a))
    (omega (arith, b))
    l.out l.outcomes e.0 e.1 in
    record { value = h.is; out_after = h.out_is; outcomes_after = h.outcome_is }
