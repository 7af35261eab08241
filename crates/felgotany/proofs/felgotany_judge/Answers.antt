-- What is said of a list, told to C.
-- Assumes nothing.
use Rattle.std.specs.Prelude.{Result}
use mathlib.Core.Path.{subst}
use Rattle.account.specs.declared.answers.Refusal.{Refusal}
use Rattle.margin.specs.declared.lists.Judged.{Judged}
use Rattle.felgotany.specs.code.Outcomes.{TellsList}
use Rattle.felgotany.proofs.felgotany_judge.Goals as goal

pub returns : goal.returns
returns c = subst (λ (j : Result Judged Refusal). TellsList j c.tell_list.result) c.judge.ensures c.tell_list.ensures
