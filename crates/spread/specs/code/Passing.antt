-- The prompts of a pool passed by a leg, on lists of numbers: for each prompt its pool's cell, and the size of what is left of it.
-- Assumes nothing.
use Rattle.std.specs.Prelude.{ℕ, ◌+◌, ◌-◌, ◌*◌, ◌≤◌, ◌<◌, min, cond, List, [], ◌∷◌, ◌≡◌, eqb, ltb, length, get_or}
use Rattle.exact.specs.Lists.{one_if}
use Rattle.spread.specs.code.Book.{by_place, spreads_entry, numbers_of}
use Rattle.spread.specs.code.Cells.{cell_of, pool_count}
use Rattle.spread.specs.Steps.{Market, Open, Taker, in_tier, leg_takes}
use Rattle.spread.specs.declared.Prompts.{Prompts}
use Rattle.spread.specs.declared.Spreads.{Spreads}
use Rattle.spread.specs.declared.Table.{Table}
use Rattle.spread.specs.Accepted.{prompt_places, spread_places}

-- what a prompt of a pool gives to a leg on the cell that still wants an amount
abbrev pub gives_in : ℕ → ℕ → ℕ → ℕ → ℕ
gives_in cell wanted pool size = min wanted (cond (eqb pool cell) size 0)

-- the sizes that the leg leaves, and how many prompts it takes of
abbrev pub sizes_in : ℕ → ℕ → List ℕ → List ℕ → List ℕ
sizes_in cell wanted [] xs = xs
sizes_in cell wanted (c ∷ cs) [] = []
sizes_in cell wanted (c ∷ cs) (x ∷ xs) = (x - gives_in cell wanted c x) ∷ sizes_in cell (wanted - gives_in cell wanted c x) cs xs

abbrev pub touches_in : ℕ → ℕ → List ℕ → List ℕ → ℕ
touches_in cell wanted [] xs = 0
touches_in cell wanted (c ∷ cs) [] = 0
touches_in cell wanted (c ∷ cs) (x ∷ xs) = one_if (ltb 0 (gives_in cell wanted c x)) + touches_in cell (wanted - gives_in cell wanted c x) cs xs

-- the same of a step's legs
abbrev pub sizes_after : List Taker → ℕ → List ℕ → List ℕ → List ℕ
sizes_after [] number cs xs = xs
sizes_after (k ∷ ks) number cs xs = sizes_after ks number cs (sizes_in (cell_of k.market k.tier) (leg_takes number k) cs xs)

abbrev pub step_touches_in : List Taker → ℕ → List ℕ → List ℕ → ℕ
step_touches_in [] number cs xs = 0
step_touches_in (k ∷ ks) number cs xs =
    touches_in (cell_of k.market k.tier) (leg_takes number k) cs xs
    + step_touches_in ks number cs (sizes_in (cell_of k.market k.tier) (leg_takes number k) cs xs)

-- before a place every prompt of the cell is used up
abbrev pub UsedUp : ℕ → List ℕ → List ℕ → ℕ → Type 0
UsedUp cell cs xs place = (k : ℕ) → k < place → get_or cs k 0 ≡ cell → get_or xs k 0 ≡ 0

-- so it is for each cell and the place kept for it
abbrev pub Begun : List ℕ → List ℕ → List ℕ → Type 0
Begun at cs xs = (cell : ℕ) → UsedUp cell cs xs (get_or at cell 0)

-- A leg has passed the prompts of its cell.
pub record Passed (cell wanted : ℕ) (cs xs ys : List ℕ) (place touches : ℕ) : Type 0 where
  pub sizes : ys ≡ sizes_in cell wanted cs xs
  pub touched : touches ≡ touches_in cell wanted cs xs
  pub begun : UsedUp cell cs ys place

-- Places, cells and sizes as a leg finds them.
pub record Ready (at cs xs : List ℕ) : Type 0 where
  pub places : length at ≡ pool_count + 1
  pub pools : length cs ≡ prompt_places
  pub sizes : length xs ≡ prompt_places
  pub begun : Begun at cs xs

-- A leg has taken, and a step.
pub record LegTaken (cell wanted : ℕ) (cs xs ys at : List ℕ) (touches : ℕ) : Type 0 where
  pub sizes : ys ≡ sizes_in cell wanted cs xs
  pub touched : touches ≡ touches_in cell wanted cs xs
  pub few : touches ≤ prompt_places
  pub ready : Ready at cs ys

pub record StepTaken (ks : List Taker) (number : ℕ) (cs xs ys at : List ℕ) (touches : ℕ) : Type 0 where
  pub sizes : ys ≡ sizes_after ks number cs xs
  pub touched : touches ≡ step_touches_in ks number cs xs
  pub few : touches ≤ 3 * prompt_places
  pub ready : Ready at cs ys

-- The numbers that the steps form, by spread.
pub record FormedBy (p : Prompts) (t : Table) (first second : List Spreads) : Type 0 where
  pub firsts : first ≡ by_place spread_places (λ k. spreads_entry (numbers_of p t) (2 * k))
  pub seconds : second ≡ by_place spread_places (λ k. spreads_entry (numbers_of p t) (2 * k + 1))

-- Cells and sizes are those of the prompts: a prompt has its size in its own pool and nothing elsewhere, and beyond the prompts
-- there is nothing.
abbrev pub SameAs : Open → ℕ → ℕ → Type 0
SameAs p c x = (m : Market) (t : ℕ) → in_tier m t p ≡ cond (eqb c (cell_of m t)) x 0

abbrev pub Laid : List Open → List ℕ → List ℕ → Type 0
Laid [] cs xs = (k : ℕ) → get_or xs k 0 ≡ 0
Laid (p ∷ ps) [] xs = ⊥
Laid (p ∷ ps) (c ∷ cs) [] = ⊥
Laid (p ∷ ps) (c ∷ cs) (x ∷ xs) = (c < pool_count) × SameAs p c x × Laid ps cs xs
