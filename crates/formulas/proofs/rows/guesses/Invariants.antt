-- `guesses`: the places before j.
-- Assumes nothing.
use Rattle.formulas.specs.code.Position.{Guessed}
use Rattle.formulas.proofs.rows.guesses.Given as goal

abbrev pub invariant-loop-j : goal.invariant-loop-j
invariant-loop-j l = Guessed l.count l.guess
