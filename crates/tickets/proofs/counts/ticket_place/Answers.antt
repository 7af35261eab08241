-- The place by the ticket's own byte, as the counts tell it.
-- Assumes nothing.
use mathlib.Core.Path.{sym, ap, ◌∙◌}
use Prim.Native.Nat.{ℕ, ◌+◌}
use lib.ListN.{take}
use Rattle.exact.specs.Lists.{sum}
use Rattle.tickets.proofs.CountLaws.{small, place_is}
use Rattle.tickets.proofs.counts.ticket_place.Goals as goal

pub place_of-requires : goal.place_of-requires
place_of-requires c =
    let p = c.requires in
    (small c.args.file.now p.tickets c.args.counts p.counts, c.contract.ensures.1)

pub returns : goal.returns
returns c =
    let a = c.args in
    let k = a.counts in
    λ ts co.
    c.place_of.ensures
    ∙ ap (λ (i : ℕ). k.above + sum (take (i + 1) k.rows)) c.contract.ensures.0
    ∙ sym (place_is a.file.now ts k co a.ticket.now)
