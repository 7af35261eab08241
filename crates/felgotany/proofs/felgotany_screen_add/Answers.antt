-- What is said of a ticket that is to be added, told to C, and the lent bytes as they are left.
-- Assumes nothing.
use Rattle.std.specs.Prelude.{ℕ, Result}
use mathlib.Core.Path.{subst}
use Rattle.account.specs.declared.answers.Refusal.{Refusal}
use Rattle.felgotany.specs.code.Outcomes.{TellsAdded}
use Rattle.felgotany.proofs.felgotany_screen_add.Goals as goal

pub returns : goal.returns
returns c =
    let f = c.add.ensures in
    (subst (λ (a : Result ℕ Refusal). TellsAdded a c.tell_added.result) f.0 c.tell_added.ensures, f.1)
