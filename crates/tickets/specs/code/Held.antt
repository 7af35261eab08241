-- What the code holds of a file with its tickets.
-- Assumes nothing.
use Rattle.std.specs.Prelude.{ℕ, ◌≡◌, List, length, Result, Ok, MatchResult}
use Rattle.record.specs.Layout.{Record}
use Rattle.account.specs.Answers.{number_of}
use Rattle.tickets.specs.declared.ask.Holding.{Holding}
use Rattle.tickets.specs.declared.ask.Ticketed.{Ticketed}
use Rattle.tickets.specs.Asked.{of, one_by_one}
use Rattle.tickets.specs.code.Kept.{KeptBy}

-- all of them are put in
pub record HoldsAll (file : List ℕ) (tickets : List Record) (h : Holding) : Type 0 where
  pub told : of h.count (Ok tt) ≡ one_by_one 0 file tickets
  pub many : h.count ≡ length tickets
  pub kept : KeptBy file tickets h.kept

-- or one of them is refused
pub record OneRefused (file : List ℕ) (tickets : List Record) (t : Ticketed) : Type 0 where
  pub told : t ≡ one_by_one 0 file tickets
  pub some : number_of t.answer ≡ 0 → ⊥

abbrev pub HeldWith : List ℕ → List Record → Result Holding Ticketed → Type 0
HeldWith file tickets r = MatchResult r (HoldsAll file tickets) (OneRefused file tickets)
