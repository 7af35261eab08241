-- "The account is then as it was before that ticket": one kept account goes with a file and its tickets, so that a withdrawal gives back the
-- one before, equal in every number it keeps; and 22 is given exactly when no ticket is left.
-- Assumes nothing.
use Rattle.std.specs.Prelude.{ℕ, ◌≡◌, List}
use Rattle.record.specs.Layout.{Record}
use Rattle.account.specs.Answers.{number_of, record_of}
use Rattle.exact.specs.Iff.{Iff}
use Rattle.tickets.specs.code.Kept.{KeptBy, withdrawal}
use Rattle.tickets.specs.declared.kept.Kept.{Kept}

pub record KeptClaims : Type 0 where
  pub one : (file : List ℕ) (tickets : List Record) (a b : Kept) → KeptBy file tickets a → KeptBy file tickets b → a ≡ b
  pub twenty_two : (tickets : ℕ) → Iff (number_of (withdrawal tickets) ≡ 22) (tickets ≡ 0)
  pub no_record : (tickets : ℕ) → record_of (withdrawal tickets) ≡ 0
