-- `account::passing::rows_from` meets its contract. Assumes nothing.
use mathlib.Core.Path.{subst, ap, ◌∙◌}
use mathlib.Core.List.{List}
use Prim.Native.Nat.{ℕ}
use native.Mathlib.Omega.{arith}
use Rattle.std.proofs.Common.{rules}
use Rattle.account.specs.Conversions.{other_row}
use Rattle.account.specs.code.Passing.{DaysListed}
use Rattle.account.specs.Records.{records}
use Rattle.account.proofs.Runs.{rows_run}
use Rattle.account.proofs.passing.rows_from.Goals as goal

pub returns : goal.returns
returns c =
    let args = c.args in
    let days = c.days_of-days in
    let other = c.is_other_row-other in
    let run = c.run_to.ensures in
    rows_run args.file.now args.first.now args.counts.now args.k args.c c.requires days.result
    (subst (λ (part : List ℕ). DaysListed (records part) days.result) c.part_at.ensures days.ensures)
    other.result (other.ensures ∙ ap other_row c.whole_at.ensures)
    (record { low = run.low; high = omega arith; each = λ j low high. let h = run.each j low high in search rules })
