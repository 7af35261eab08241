-- `judge_steps`: one step after the other; what is still to be judged decides.
-- Assumes nothing.
use Rattle.spread.specs.Accepted.{open_of, steps_of}
use Rattle.judging.specs.Judged.{told_of, judged_from}
use Rattle.judging.proofs.Walking.{Judging}
use Rattle.judging.proofs.judge_steps.Given as goal

abbrev pub invariant-loop-step : goal.invariant-loop-step
invariant-loop-step l = Judging l.n l.table l.numbers l.uses
    (judged_from 0 (steps_of l.table) (open_of l.initial.left) (told_of l.n l.numbers l.uses)) l.step l.at l.left
