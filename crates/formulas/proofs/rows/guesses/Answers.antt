use Rattle.std.proofs.Common.{subst, sym, ℕ, ◌<◌}
use Rattle.spread.proofs.Filling.{get_d_same}
use Rattle.formulas.proofs.rows.guesses.Goals as goal

pub loop-j-init : goal.loop-j-init
loop-j-init c = λ some k. subst (λ (n : ℕ). n < c.args.count) (sym (get_d_same 256 0 k)) some
