-- `sound_table`: what the iterator says of all spreads.
use mathlib.Core.Bool.{Bool, true, ◌&&◌}
use mathlib.Core.Path.{◌≡◌, sym, ◌∙◌, ap}
use lib.ListN.{take}
use borrow.Author.Rules.{rules}
use borrow.Author.Tests.{le-leb}
use Rattle.std.specs.Prelude.{◌↔◌, IsTrue}
use Rattle.std.specs.List.{All}
use Rattle.spread.specs.Accepted.{every, sound_spread, spread_places}
use Rattle.spread.specs.declared.Spread.{Spread}
use Rattle.spread.proofs.Every.{every_from_all}
use Rattle.spread.proofs.accepted.sound_table.Goals as goal

pub returns-then-table-le-MOST_SPREADS : goal.returns-then-table-le-MOST_SPREADS
returns-then-table-le-MOST_SPREADS c =
    let t = c.args.table in
    let h : IsTrue c.all.result ↔ All (λ (s : Spread). sound_spread s ≡ true) (take t.count t.spread) = search rules in
    every_from_all sound_spread (take t.count t.spread) c.all.result h
    ∙ sym (ap (λ (b : Bool). b && every sound_spread (take t.count t.spread)) (le-leb t.count spread_places c.if-table-le-MOST_SPREADS.true))
