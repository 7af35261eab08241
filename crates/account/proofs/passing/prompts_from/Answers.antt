-- `account::passing::prompts_from` meets its contract. Assumes nothing.
use native.Mathlib.Omega.{arith}
use Rattle.std.proofs.Common.{rules}
use Rattle.account.proofs.Runs.{prompts_run}
use Rattle.account.proofs.passing.prompts_from.Goals as goal

pub returns : goal.returns
returns c =
    let args = c.args in
    let run = c.run_to.ensures in
    prompts_run args.file.now args.first.now args.counts.now args.k args.c c.requires
    (record { low = run.low; high = omega arith; each = λ j low high. let h = run.each j low high in search rules })
