-- What is said of a ticket that is to be added, as numbers.
-- Assumes nothing.
use Rattle.std.specs.Prelude.{ℕ, ◌≡◌, Result, Ok, Err}
use Rattle.std.specs.Result.{result_unwrap_or}
use mathlib.Core.Path.{refl, ◌∙◌}
use Rattle.account.specs.declared.answers.Refusal.{Refusal}
use Rattle.screen.specs.Screen.{bytes_held}
use Rattle.felgotany.proofs.tell_added.Goals as goal

-- none where it is refused
or_none : (r : Result ℕ Refusal) → result_unwrap_or r 0 ≡ bytes_held r
or_none (Ok n) = refl
or_none (Err e) = refl

pub returns : goal.returns
returns c =
    let t = c.tell_answer-told.ensures in
    record {
      refusal = t.refusal;
      record_named = t.record_named;
      named_are = c.unwrap_or.ensures ∙ or_none c.args.added;
    }
