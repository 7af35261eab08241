-- `days_of`: the days of the prompts before j are noted.
-- Assumes nothing.
use mathlib.Core.Path.{◌≡◌}
use mathlib.Core.List.{List, []}
use Prim.Native.Nat.{ℕ, ◌<◌}
use lib.ListN.{length, get_or}
use Rattle.spread.specs.Accepted.{prompt_places}
use Rattle.record.specs.Layout.{Record, day}
use Rattle.account.specs.Records.{records}
use Rattle.formulas.proofs.ChunkLaws.{Numbered}
use Rattle.formulas.proofs.rows.days_of.Given as goal

-- the days of the first j prompts
pub record Noted (prompts : List Record) (days : List ℕ) (j : ℕ) : Type 0 where
  pub as_many : length days ≡ prompt_places
  pub noted : (k : ℕ) → k < j → get_or days k 0 ≡ day (get_or prompts k [])

abbrev pub invariant-loop-j : goal.invariant-loop-j
invariant-loop-j l = Numbered l.prompts (length l.yielded) l.j-iterator × Noted (records l.prompts) l.day (length l.yielded)
