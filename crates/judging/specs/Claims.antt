-- What request 2026-10 asks of a verdict, as claims about the definition `judged_list`, in demand 3's words.
-- Assumes nothing.
use Rattle.std.specs.Prelude.{ℕ, ◌*◌, ◌<◌, ◌≡◌, List, [], map, ℤ, pos, length, get_or, take, ◌<ℤ◌}
use Rattle.exact.specs.Iff.{Iff}
use Rattle.spread.specs.Demand.{Feasible, FirstDifference}
use Rattle.spread.specs.Steps.{Open, Taker, numbers}
use Rattle.spread.specs.Uses.{in_one_list, takings}
use Rattle.judging.specs.Judged.{Told, told_of, judged_list}
use Rattle.judging.specs.declared.Verdict.{Verdict}
use Rattle.judging.specs.declared.Verdict.TheVariants.{Right, MoreThanFormed, LessThanFormed, WrongUse, OtherCounts}

-- the numbers and the uses that are sent
abbrev pub numbers_told : List Told → List ℤ
numbers_told told = map (λ t. t.number) told

abbrev pub uses_told : List Told → List (List ℤ)
uses_told told = map (λ t. t.used) told

abbrev pub number_told : List Told → ℕ → ℤ
number_told told j = get_or (numbers_told told) j (pos 0)

abbrev pub use_told : List Told → ℕ → List ℤ
use_told told j = get_or (uses_told told) j []

-- "the list is the one demand 3 picks": it is one of the lists that demand 3 speaks of, and at the first step where another differs,
-- it is larger
pub record Picked (ss : List (List Taker)) (ps : List Open) (xs : List ℕ) : Type 0 where
  pub is_one : Feasible ss ps xs
  pub larger : (ys : List ℕ) (k : ℕ) → Feasible ss ps ys → FirstDifference xs ys k → get_or ys k 0 < get_or xs k 0

-- the numbers that are sent for the first steps are those of a list
abbrev pub BeginsAs : List Told → ℕ → List ℕ → Type 0
BeginsAs told j ys = take j (numbers_told told) ≡ map pos (take j ys)

-- a step, with all steps before it right: their numbers are those of the list that demand 3 picks, their uses those of 01's steps
pub record Reached (ss : List (List Taker)) (ps : List Open) (ours : List ℕ) (told : List Told) (j : ℕ) : Type 0 where
  pub there : j < length ss
  pub numbers : BeginsAs told j ours
  pub uses : take j (uses_told told) ≡ take j (takings ss ps)

-- all steps are right
pub record IsRight (ss : List (List Taker)) (ps : List Open) (ours : List ℕ) (told : List Told) : Type 0 where
  pub numbers : numbers_told told ≡ map pos ours
  pub uses : uses_told told ≡ takings ss ps

-- "its number is more than can be formed": every list that begins so and can be formed has less there
pub record IsMore (ss : List (List Taker)) (ps : List Open) (ours : List ℕ) (told : List Told) (j : ℕ) : Type 0 where
  pub reached : Reached ss ps ours told j
  pub more : (ys : List ℕ) → Feasible ss ps ys → BeginsAs told j ys → pos (get_or ys j 0) <ℤ number_told told j

-- "or less": a list that begins so and can be formed has more there
pub record IsLess (ss : List (List Taker)) (ps : List Open) (ours : List ℕ) (told : List Told) (j : ℕ) : Type 0 where
  pub reached : Reached ss ps ours told j
  pub less : (ys : List ℕ) × (Feasible ss ps ys × (BeginsAs told j ys × (number_told told j <ℤ pos (get_or ys j 0))))

-- "or the number is right and some prompt's use is not"
pub record IsWrongUse (ss : List (List Taker)) (ps : List Open) (ours : List ℕ) (told : List Told) (j : ℕ) : Type 0 where
  pub reached : Reached ss ps ours told j
  pub number : number_told told j ≡ pos (get_or ours j 0)
  pub wrong : use_told told j ≡ get_or (takings ss ps) j [] → ⊥

-- what a verdict says of a list that has the counts
abbrev pub VerdictSays : List (List Taker) → List Open → List ℕ → List Told → Verdict → Type 0
VerdictSays ss ps ours told Right = IsRight ss ps ours told
VerdictSays ss ps ours told (MoreThanFormed j) = IsMore ss ps ours told j
VerdictSays ss ps ours told (LessThanFormed j) = IsLess ss ps ours told j
VerdictSays ss ps ours told (WrongUse j) = IsWrongUse ss ps ours told j
VerdictSays ss ps ours told OtherCounts = ⊥

-- "step count or prompt count" as the steps and prompts have them
pub record SameCounts (ss : List (List Taker)) (ps : List Open) (sent : ℕ) (xs us : List ℤ) : Type 0 where
  pub steps : length xs ≡ length ss
  pub prompts : sent ≡ length ps
  pub uses : length us ≡ length ss * length ps

-- what is lent is told whole
pub record ToldWhole (sent : ℕ) (xs us : List ℤ) : Type 0 where
  pub numbers : numbers_told (told_of sent xs us) ≡ xs
  pub uses : in_one_list (uses_told (told_of sent xs us)) ≡ us

-- "the list is the one demand 3 picks, with the uses 01's steps make", as it is lent
pub record TheList (ss : List (List Taker)) (ps : List Open) (ours : List ℕ) (sent : ℕ) (xs us : List ℤ) : Type 0 where
  pub prompts : sent ≡ length ps
  pub numbers : xs ≡ map pos ours
  pub uses : us ≡ in_one_list (takings ss ps)

-- There is a list that demand 3 picks, and no other. "Say yes exactly when the list is the one"; the counts are told to differ exactly when
-- they do; and where they do not, each verdict is given exactly when it says the truth.
pub record Claims (ss : List (List Taker)) (ps : List Open) (sent : ℕ) (xs us : List ℤ) : Type 0 where
  pub picked : Picked ss ps (numbers ss ps)
  pub only : (ours : List ℕ) → Picked ss ps ours → ours ≡ numbers ss ps
  pub yes : (ours : List ℕ) → Picked ss ps ours → Iff (judged_list ss ps sent xs us ≡ Right) (TheList ss ps ours sent xs us)
  pub counts : Iff (judged_list ss ps sent xs us ≡ OtherCounts) (SameCounts ss ps sent xs us → ⊥)
  pub whole : SameCounts ss ps sent xs us → ToldWhole sent xs us
  pub exactly : SameCounts ss ps sent xs us → (ours : List ℕ) → Picked ss ps ours
      → (v : Verdict) → Iff (judged_list ss ps sent xs us ≡ v) (VerdictSays ss ps ours (told_of sent xs us) v)
