-- A contract after the other, by what its rows come to, for every account that the positions tell of.
-- Assumes nothing.
use mathlib.Core.List.{List}
use Rattle.record.specs.Layout.{Record}
use Rattle.account.specs.Joined.{account_of}
use Rattle.margin.specs.code.Positions.{PositionsTell}
use Rattle.margin.proofs.WalkedLaws.{WalkedTo}
use Rattle.margin.proofs.everything.place_from.Given as goal

abbrev pub invariant-loop-i : goal.invariant-loop-i
invariant-loop-i l =
    (whole : List Record) → PositionsTell (account_of l.morning l.noon) l.positions whole
    → WalkedTo whole l.count l.initial.figures l.initial.books l.initial.uses l.i l.figures l.books l.uses l.tiers l.nets l.units l.prices l.sizes l.total
