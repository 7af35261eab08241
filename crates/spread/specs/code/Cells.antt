-- The pools as cells of one list: cell 2t is the long pool of tier t, cell 2t + 1 the short one. A tier above 15 has no cell.
-- Assumes nothing.
use Rattle.std.specs.Prelude.{ℕ, ◌+◌, ◌-◌, ◌*◌, ◌≤◌, ◌≡◌, Bool, true, false, cond, List, [], ◌∷◌, map, length, get_or, set, ltb}
use Rattle.exact.specs.Lists.{least}
use Rattle.spread.specs.Steps.{Market, long, short, Open, Taker, pool, room, leg_takes}
use Rattle.spread.specs.Accepted.{tier_count, prompt_places, most_delta}

abbrev pub parity : Market → ℕ
parity long = 0
parity short = 1

-- two cells for each tier
abbrev pub pool_count : ℕ
pool_count = 2 * tier_count

abbrev pub cell_of : Market → ℕ → ℕ
cell_of m t = cond (ltb t tier_count) (2 * t + parity m) pool_count

abbrev pub short_if : Bool → Market
short_if true = short
short_if false = long

-- the pool of a tier and side among the cells
abbrev pub cell_at : List ℕ → Market → ℕ → ℕ
cell_at cells m t = get_or cells (cell_of m t) 0

-- the cells hold the pools of the prompts
pub record Pooled (cells : List ℕ) (ps : List Open) : Type 0 where
  pub size : length cells ≡ pool_count
  pub each : (m : Market) (t : ℕ) → cell_at cells m t ≡ pool m t ps

-- The most that a pool of accepted prompts has, 32 net deltas of 128,000,000,000, and the most that a step can form of it.
abbrev pub most_pool : ℕ
most_pool = prompt_places * most_delta

abbrev pub most_number : ℕ
most_number = 10 * most_pool

abbrev pub Small : List ℕ → Type 0
Small cells = (m : Market) (t : ℕ) → cell_at cells m t ≤ most_pool

-- the steps of Steps.antt, on the cells
abbrev pub pool_in : List ℕ → Taker → ℕ
pool_in cells k = cell_at cells k.market k.tier

-- the lowest pool that a step takes from
abbrev pub lowest_in : List ℕ → List Taker → ℕ
lowest_in cells ks = least (map (pool_in cells) ks)

abbrev pub room_in : List ℕ → Taker → ℕ
room_in cells k = room k.tenths (pool_in cells k) k.ratio

abbrev pub formed_in : List Taker → List ℕ → ℕ
formed_in ks cells = least (map (room_in cells) ks)

abbrev pub less_in : ℕ → Taker → List ℕ → List ℕ
less_in number k cells = set cells (cell_of k.market k.tier) (pool_in cells k - leg_takes number k)

abbrev pub after_in : List Taker → ℕ → List ℕ → List ℕ
after_in [] number cells = cells
after_in (k ∷ ks) number cells = after_in ks number (less_in number k cells)

abbrev pub numbers_over : List (List Taker) → List ℕ → List ℕ
numbers_over [] cells = []
numbers_over (s ∷ ss) cells = formed_in s cells ∷ numbers_over ss (after_in s (formed_in s cells) cells)

abbrev pub left_in : List (List Taker) → List ℕ → List ℕ
left_in [] cells = cells
left_in (s ∷ ss) cells = left_in ss (after_in s (formed_in s cells) cells)

-- a step taken: what it leaves of the cells, and the number that it forms
pub record Taken (ks : List Taker) (cells left : List ℕ) (number : ℕ) : Type 0 where
  pub formed : number ≡ formed_in ks cells
  pub leaves : left ≡ after_in ks (formed_in ks cells) cells
