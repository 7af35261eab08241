-- The total of the held account, told to C.
-- Assumes nothing.
use Rattle.std.specs.Prelude.{Result}
use mathlib.Core.Path.{subst}
use Rattle.account.specs.declared.answers.Refusal.{Refusal}
use Rattle.formulas.specs.declared.amount.Amount.{Amount}
use Rattle.felgotany.specs.code.Outcomes.{TellsTotal}
use Rattle.felgotany.proofs.felgotany_screen_total.Goals as goal

pub returns : goal.returns
returns c = subst (λ (t : Result Amount Refusal). TellsTotal t c.tell_total.result) c.total.ensures c.tell_total.ensures
