-- `account::passing::spreads_from` meets its contract. Assumes nothing.
use mathlib.Core.Path.{subst}
use mathlib.Core.List.{List}
use Prim.Native.Nat.{ℕ}
use native.Mathlib.Omega.{arith}
use Rattle.std.proofs.Common.{rules}
use Rattle.account.specs.code.Passing.{TiersListed}
use Rattle.account.specs.Records.{records}
use Rattle.account.proofs.Runs.{spreads_run}
use Rattle.account.proofs.passing.spreads_from.Goals as goal

pub returns : goal.returns
returns c =
    let args = c.args in
    let tiers = c.tiers_of-listed in
    let run = c.run_to.ensures in
    spreads_run args.file.now args.first.now args.counts.now args.k args.c c.requires tiers.result
    (subst (λ (part : List ℕ). TiersListed (records part) tiers.result) c.part_at.ensures tiers.ensures)
    (record { low = run.low; high = omega arith; each = λ j low high. let h = run.each j low high in search rules })
