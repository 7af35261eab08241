-- The account is lent, and stands as it stood.
-- Assumes nothing.
use mathlib.Core.Path.{subst⁻¹}
use Rattle.account.specs.code.Standing.{Stands}
use Rattle.account.specs.declared.accounts.Account.{Account}
use Rattle.margin.proofs.asking.answer_over.Goals as goal

pub answer_lent-requires : goal.answer_lent-requires
answer_lent-requires c =
    subst⁻¹ (λ (a : Account). Stands c.args.morning.now c.args.noon.now a) c.lend.ensures c.requires
