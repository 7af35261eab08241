-- The account is lent, and stands as it stood.
-- Assumes nothing.
use mathlib.Core.Path.{subst⁻¹}
use Rattle.account.specs.code.Standing.{Stands}
use Rattle.account.specs.declared.accounts.Account.{Account}
use Rattle.margin.proofs.everything.total_from.Goals as goal

pub total_lent_from-requires : goal.total_lent_from-requires
total_lent_from-requires c =
    (subst⁻¹ (λ (a : Account). Stands c.args.morning.now c.args.noon.now a) c.lend.ensures c.requires.0, c.requires.1)
