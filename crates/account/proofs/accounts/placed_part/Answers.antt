-- A part of an account: none past the last, else the stretch that the account notes of it.
-- Assumes nothing.
use mathlib.Core.Path.{refl}
use native.Mathlib.Omega.{arith}
use Rattle.account.proofs.Standing.{part_stands}
use Rattle.account.proofs.accounts.placed_part.Goals as goal

pub returns : goal.returns
returns c =
    part_stands c.args.morning.now c.args.noon.now c.args.account c.requires c.args.v
    (omega (arith, c.if-v-gt-RATES.false))
    _ refl c.supplied.result.now c.supplied.ensures
