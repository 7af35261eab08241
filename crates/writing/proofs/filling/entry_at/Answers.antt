-- The entry at the place that the order has.
-- Assumes nothing.
use mathlib.Core.Path.{ap, ◌∙◌}
use native.Mathlib.Omega.{arith}
use Rattle.account.specs.Records.{record_at}
use Rattle.writing.proofs.Placed.{place_within, entered_at}
use Rattle.writing.proofs.filling.entry_at.Goals as goal

pub whole_at-requires : goal.whole_at-requires
whole_at-requires c =
    let p = place_within c.args.entries.now c.args.order.now c.requires.0 c.args.k c.requires.1 in
    omega (arith, c.from.ensures, c.place_at.ensures, p)

pub returns : goal.returns
returns c =
    let e = c.args.entries.now in
    c.whole_at.ensures ∙ ap (record_at e) (c.from.ensures ∙ c.place_at.ensures)
    ∙ entered_at e c.args.order.now c.requires.0 c.args.k c.requires.1
