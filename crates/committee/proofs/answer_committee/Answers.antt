use mathlib.Core.Path.{◌≡◌, sym, ap, subst, subst⁻¹, ◌∙◌}
use mathlib.Core.List.{List, ◌++◌, map}
use Prim.Native.Nat.{ℕ, suc, ◌+◌, ◌-◌, ◌≤◌}
use native.Mathlib.Omega.{arith}
use borrow.Author.Rules.{rules}
use borrow.Author.Tests.{eqb-true}
use lib.IntN.{pos}
use lib.ListN.{length, get_or, take, drop}
use Rattle.exact.specs.Lists.{sum}
use Rattle.committee.specs.Answered.{answered_account}
use Rattle.committee.specs.Committee.{most_accounts, committee_numbers}
use Rattle.committee.specs.code.Sums.{AccountOf}
use Rattle.committee.proofs.Going.{Going, begin, ends, go_on, end, wider, many, differ, lacking, all}
use Rattle.committee.proofs.answer_committee.Goals as goal
use Rattle.committee.proofs.answer_committee.Goals.{In-loop-i}

-- the account that is answered next stands within the bytes
within : (c : In-loop-i) →
    let s = c.args in
    c.loop-i.at + get_or s.lengths.now c.loop-i.i 0 ≤ length s.accounts.now
within c =
    let s = c.args in
    let l = c.loop-i in
    ends s.accounts.now s.lengths.now l.sums l.at l.i l.invariant c.loop-i-test.true

pub returns-then-count-gt-MOST_ACCOUNTS : goal.returns-then-count-gt-MOST_ACCOUNTS
returns-then-count-gt-MOST_ACCOUNTS c =
    let s = c.args in
    let h = many s.accounts.now s.lengths.now s.out.now c.if-count-gt-MOST_ACCOUNTS.true in
    (h.is, h.out_is)

pub returns-then-not-add_up : goal.returns-then-not-add_up
returns-then-not-add_up c =
    let s = c.args in
    let few = c.if-count-gt-MOST_ACCOUNTS.false in
    let h = differ s.accounts.now s.lengths.now s.out.now (omega (arith, few)) (sym c.add_up.ensures ∙ c.if-not-add_up.true) in
    (h.is, h.out_is)

pub returns-then-out-lt-NUMBERS : goal.returns-then-out-lt-NUMBERS
returns-then-out-lt-NUMBERS c =
    let s = c.args in
    let few = c.if-count-gt-MOST_ACCOUNTS.false in
    let h =
    lacking s.accounts.now s.lengths.now s.out.now (omega (arith, few))
    (sym c.add_up.ensures ∙ c.if-not-add_up.false) c.if-out-lt-NUMBERS.true
    in
    (h.is, h.out_is)

pub loop-i-init : goal.loop-i-init
loop-i-init c =
    let s = c.args in
    begin s.accounts.now s.lengths.now c.none-sums.result c.none-sums.ensures
    (eqb-true (sum s.lengths.now) (length s.accounts.now)
    (sym c.add_up.ensures ∙ c.if-not-add_up.false))

pub overflow_add-end : goal.overflow_add-end
overflow_add-end c =
    let h = within (goal.at.overflow_add-end c).In-loop-i in
    search (rules, h)

pub with_account-sums-requires : goal.with_account-sums-requires
with_account-sums-requires c =
    let l = c.loop-i in
    let t = c.loop-i-test.true in
    let few = c.if-count-gt-MOST_ACCOUNTS.false in
    let is = c.answer_account-account.ensures in
    let margin = is.margin_most in
    (wider l.i most_accounts l.sums (omega (arith, t, few)) l.invariant.small, omega (arith, margin), is.credit_most, is.above_most)

pub loop-i-preserved : goal.loop-i-preserved
loop-i-preserved c =
    let s = c.args in
    let l = c.loop-i in
    let a = c.answer_account-account in
    let w = c.with_account-sums in
    let n = get_or s.lengths.now l.i 0 in
    let part : l.at + n - l.at ≡ n = omega arith in
    let more : l.i + 1 ≡ suc l.i = omega arith in
    subst⁻¹ (Going s.accounts.now s.lengths.now w.result (l.at + n)) more
    (go_on s.accounts.now s.lengths.now l.sums l.at l.i l.invariant c.loop-i-test.true a.result w.result
    (subst (λ (k : ℕ). AccountOf (answered_account (take k (drop l.at s.accounts.now))) a.result) part a.ensures)
    w.ensures)

pub put_sums-requires : goal.put_sums-requires
put_sums-requires c =
    let l = c.loop-i in
    let few = c.if-count-gt-MOST_ACCOUNTS.false in
    let room = c.if-out-lt-NUMBERS.false in
    let passed = l.invariant.within in
    (wider l.i most_accounts l.sums (omega (arith, few, passed)) l.invariant.small, omega (arith, room))

pub returns : goal.returns
returns c =
    let s = c.args in
    let l = c.loop-i in
    let t = c.loop-i-test.false in
    let few = c.if-count-gt-MOST_ACCOUNTS.false in
    let room = c.if-out-lt-NUMBERS.false in
    let e = end s.accounts.now s.lengths.now l.sums l.at l.i l.invariant (omega (arith, t)) in
    let h =
    all s.accounts.now s.lengths.now s.out.now (omega (arith, few))
    (sym c.add_up.ensures
    ∙ c.if-not-add_up.false) (omega (arith, room))
    c.put_sums.new.out (c.put_sums.ensures
    ∙ ap (λ (xs : List ℕ). map pos xs ++ drop committee_numbers s.out.now) e)
    in
    (h.is, h.out_is)
