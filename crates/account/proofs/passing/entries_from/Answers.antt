-- `account::passing::entries_from` meets its contract. Assumes nothing.
use mathlib.Core.Path.{sym, ◌∙◌}
use native.Mathlib.Omega.{arith}
use Rattle.std.proofs.Common.{rules}
use Rattle.account.specs.Check.{kind_falls}
use Rattle.account.proofs.Runs.{entries_run}
use Rattle.account.proofs.passing.entries_from.Goals as goal

pub returns : goal.returns
returns c =
    let args = c.args in
    let run = c.run_to.ensures in
    entries_run args.file.now args.first.now args.counts.now args.k c.requires.0 c.requires.1
    ((λ i. kind_falls (sym c.whole_before.ensures i) (sym c.whole_at.ensures i))
    ∙ sym c.kind_falls.ensures ∙ c.if-kind_falls.false)
    (record { low = run.low; high = omega arith; each = λ j low high. let h = run.each j low high in search rules })
