use mathlib.Core.Path.{◌≡◌, ◌∙◌}
use Rattle.std.proofs.Common.{rules}
use Rattle.std.specs.List as Std
use Rattle.account.proofs.Filled.{sum_is}
use Rattle.account.proofs.accounts.records_in.Goals as goal

pub returns : goal.returns
returns c =
    let counts = c.args.counts.now in
    let added : c.sum.result ≡ Std.sum counts = search rules in
    added ∙ sum_is counts
