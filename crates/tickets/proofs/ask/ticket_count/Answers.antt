-- What is left at the end counts as one.
-- Assumes nothing.
use Prim.Native.Nat.{◌+◌, ◌/◌}
use native.Mathlib.Omega.{arith}
use lib.ListN.{length}
use Rattle.record.specs.Bytes.{record_bytes}
use Rattle.account.proofs.Walk.{length_cut}
use Rattle.tickets.proofs.ask.ticket_count.Goals as goal

pub returns : goal.returns
returns c =
    let t = c.args.tickets.now in
    omega (arith, c.div_ceil.ensures, length_cut ((length t + 95) / record_bytes) t)
