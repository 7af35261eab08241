-- The account is lent, and stands as it stood.
-- Assumes nothing.
use mathlib.Core.Path.{subst⁻¹}
use Rattle.account.specs.code.Standing.{Stands}
use Rattle.account.specs.declared.accounts.Account.{Account}
use Rattle.margin.proofs.asking.answer_from.Goals as goal

pub answer_lent_from-requires : goal.answer_lent_from-requires
answer_lent_from-requires c =
    (subst⁻¹ (λ (a : Account). Stands c.args.morning.now c.args.noon.now a) c.lend.ensures c.requires.0, c.requires.1)
