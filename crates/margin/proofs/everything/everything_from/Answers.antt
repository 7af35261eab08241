-- The account is lent, and stands as it stood.
-- Assumes nothing.
use mathlib.Core.Path.{subst⁻¹}
use Rattle.account.specs.code.Standing.{Stands}
use Rattle.account.specs.declared.accounts.Account.{Account}
use Rattle.margin.proofs.everything.everything_from.Goals as goal

pub everything_lent_from-requires : goal.everything_lent_from-requires
everything_lent_from-requires c =
    (subst⁻¹ (λ (a : Account). Stands c.args.morning.now c.args.noon.now a) c.lend.ensures c.requires.0, c.requires.1)
