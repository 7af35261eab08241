-- "Paired scenarios (000), for 1 to 16: 2 1 4 3 6 5 8 7 10 9 12 11 14 13 15 16."
-- Assumes nothing.
use Rattle.std.specs.Prelude.{ℕ, zero, suc, ◌≤◌, ◌<◌, ◌≡◌, List, [], ◌∷◌, length, get_or}
use Rattle.record.specs.Layout.{scenario_count}

abbrev pub pairs : List ℕ
pairs = 2 ∷ 1 ∷ 4 ∷ 3 ∷ 6 ∷ 5 ∷ 8 ∷ 7 ∷ 10 ∷ 9 ∷ 12 ∷ 11 ∷ 14 ∷ 13 ∷ 15 ∷ 16 ∷ []

-- scenarios count from 1; 0 for what is no scenario
abbrev pub pair_of : ℕ → ℕ
pair_of zero = 0
pair_of (suc n) = get_or pairs n 0

-- "sixteen-entry constant table, proved to be its own inverse and to fix 15 and 16"
pub record PairTable : Type 0 where
  pub entries : length pairs ≡ scenario_count
  pub paired : (s : ℕ) → 1 ≤ s → s ≤ scenario_count → (1 ≤ pair_of s) × (pair_of s ≤ scenario_count)
  pub inverse : (s : ℕ) → 1 ≤ s → s ≤ scenario_count → pair_of (pair_of s) ≡ s
  pub fixes_15 : pair_of 15 ≡ 15
  pub fixes_16 : pair_of 16 ≡ 16
  pub none : pair_of 0 ≡ 0
  pub beyond : (s : ℕ) → scenario_count < s → pair_of s ≡ 0
