-- A contract after the other: its book and uses in their places, and its line in its own; and the total behind them.
-- Assumes nothing.
use Rattle.account.specs.Joined.{account_of}
use Rattle.margin.proofs.WalkedLaws.{WalkedTo}
use Rattle.margin.proofs.everything.place_over.Given as goal

abbrev pub invariant-loop-i : goal.invariant-loop-i
invariant-loop-i l = WalkedTo (account_of l.morning l.noon) l.count l.initial.figures l.initial.books l.initial.uses l.i l.figures l.books l.uses l.tiers l.nets l.units l.prices l.sizes l.total
