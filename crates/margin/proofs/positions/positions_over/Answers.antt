-- The account is lent, and stands as it stood.
-- Assumes nothing.
use mathlib.Core.Path.{subst⁻¹}
use Rattle.account.specs.code.Standing.{Stands}
use Rattle.account.specs.declared.accounts.Account.{Account}
use Rattle.margin.proofs.positions.positions_over.Goals as goal

pub positions_lent-requires : goal.positions_lent-requires
positions_lent-requires c =
    subst⁻¹ (λ (a : Account). Stands c.args.morning.now c.args.noon.now a) c.lend.ensures c.requires
