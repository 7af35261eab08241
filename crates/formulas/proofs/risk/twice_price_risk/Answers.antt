-- The price risk, twice over: the difference of two sums of totals, or 0 if negative.
-- Assumes nothing.
use Rattle.std.proofs.Common.{◌≡◌, ◌∙◌, ap, subst, sym, arith, ℕ, ◌*◌, ◌≤◌, nat_abs, ◌+ℤ◌, ◌-ℤ◌}
use Rattle.std.proofs.Math.Nat.{le_trans}
use Rattle.exact.specs.Signed.{or_zero}
use Rattle.exact.proofs.Integers.{abs_sub, or_zero_abs}
use Rattle.formulas.specs.Bounds.{most_risk}
use Rattle.formulas.specs.Credit.{total_of}
use Rattle.formulas.specs.Pairs.{pair_of}
use Rattle.formulas.proofs.Calls.{native_is}
use Rattle.formulas.proofs.risk.twice_price_risk.Goals as goal

pub returns : goal.returns
returns c =
    let ts = c.args.totals.now in
    let paired = total_of ts c.args.active +ℤ total_of ts (pair_of c.args.active) in
    let still = total_of ts 1 +ℤ total_of ts 2 in
    let is : c.both.result ≡ paired = c.both.ensures.0 ∙ ap (λ (p : ℕ). total_of ts c.args.active +ℤ total_of ts p) c.pair_of.ensures in
    let a = ap nat_abs is in
    let b = ap nat_abs c.both-2.ensures.0 in
    let size : nat_abs (paired -ℤ still) ≤ 4 * most_risk = omega (arith, abs_sub paired still, c.both.ensures.1, c.both-2.ensures.1) in
    let r = c.or_zero.ensures
    ∙ ap or_zero (native_is ◌-ℤ◌ c.both.result c.both-2.result paired still c.both.type_inv c.both-2.type_inv is c.both-2.ensures.0 (omega arith)) in
    (r, subst (λ (n : ℕ). n ≤ 4 * most_risk) (sym r) (le_trans (or_zero_abs (paired -ℤ still)) size))
