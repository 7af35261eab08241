-- What comes back for prompts and a table of spreads: each step's number, and used and unused at each prompt.
-- Assumes nothing.
use Rattle.std.specs.Prelude.{ℕ, zero, suc, ◌+◌, ◌-◌, ◌*◌, ◌≤◌, ◌≡◌, false, cond, List, [], ◌∷◌, get_or, replicate, ℤ, pos}
use Rattle.spread.specs.Steps.{Market, Open, steps, numbers, used_of, unused_of}
use Rattle.spread.specs.Spend.{spend, deltas, used_by}
use Rattle.spread.specs.code.Cells.{cell_at, numbers_over, left_in}
use Rattle.spread.specs.Accepted.{open_of, steps_of, sound, prompt_places, spread_places}
use Rattle.spread.specs.declared.Delta.{Delta}
use Rattle.spread.specs.declared.Spreads.{Spreads}
use Rattle.spread.specs.declared.Spread.{Spread}
use Rattle.spread.specs.declared.Table.{Table}
use Rattle.spread.specs.declared.Prompts.{Prompts}
use Rattle.spread.specs.declared.book.Book.{Book}
use Rattle.spread.specs.declared.touches.Counted.{Counted}
use Rattle.spread.specs.Touches.{touches_of, most_touches}

-- the numbers formed and the deltas, of what is accepted; of what is refused there are none
abbrev pub numbers_of : Prompts → Table → List ℕ
numbers_of p t = cond (sound p t) (numbers (steps_of t) (open_of p)) []

abbrev pub used_in : Prompts → Table → List ℤ
used_in p t = cond (sound p t) (used_of (steps_of t) (open_of p)) []

abbrev pub unused_in : Prompts → Table → List ℤ
unused_in p t = cond (sound p t) (unused_of (steps_of t) (open_of p)) []

-- as many entries as an array has, by place
unfoldable pub by_place {ℓ} : {A : Type ℓ} → ℕ → (ℕ → A) → List A
by_place zero f = []
by_place (suc n) f = f 0 ∷ by_place n (λ k. f (suc k))

abbrev pub spreads_entry : List ℕ → ℕ → Spreads
spreads_entry xs k = record { 0 = get_or xs k 0 }

abbrev pub delta_entry : List ℤ → ℕ → Delta
delta_entry zs k = record { 0 = get_or zs k (pos 0) }

-- The promise: spread k formed the numbers of steps 2k and 2k + 1, prompt k has the k-th used and unused delta, and what is
-- beyond them is zero.
pub record Booked (p : Prompts) (t : Table) (r : Book) : Type 0 where
  pub accepted : r.accepted ≡ sound p t
  pub first : r.first ≡ by_place spread_places (λ k. spreads_entry (numbers_of p t) (2 * k))
  pub second : r.second ≡ by_place spread_places (λ k. spreads_entry (numbers_of p t) (2 * k + 1))
  pub used : r.used ≡ by_place prompt_places (delta_entry (used_in p t))
  pub unused : r.unused ≡ by_place prompt_places (delta_entry (unused_in p t))

-- Nothing accepted: every number is zero.
pub record Refused (r : Book) : Type 0 where
  pub accepted : r.accepted ≡ false
  pub first : r.first ≡ replicate spread_places (record { 0 = 0 })
  pub second : r.second ≡ replicate spread_places (record { 0 = 0 })
  pub used : r.used ≡ replicate prompt_places (record { 0 = pos 0 })
  pub unused : r.unused ≡ replicate prompt_places (record { 0 = pos 0 })

-- The run of all steps on the cells: the numbers by spread, and the cells left.
pub record Run (cells : List ℕ) (ss : List Spread) (left : List ℕ) (first second : List Spreads) : Type 0 where
  pub firsts : first ≡ by_place spread_places (λ k. spreads_entry (numbers_over (steps ss) cells) (2 * k))
  pub seconds : second ≡ by_place spread_places (λ k. spreads_entry (numbers_over (steps ss) cells) (2 * k + 1))
  pub leaves : left ≡ left_in (steps ss) cells

-- what is gone of each pool
abbrev pub gone_of : List ℕ → List ℕ → Market → ℕ → ℕ
gone_of had left m t = cell_at had m t - cell_at left m t

-- One spend over the prompts of what is gone of the pools.
pub record Spent (had left : List ℕ) (ps : List Open) (used unused : List Delta) : Type 0 where
  pub useds : used ≡ by_place prompt_places (delta_entry (used_by (gone_of had left) ps))
  pub unuseds : unused ≡ by_place prompt_places (delta_entry (deltas (spend (gone_of had left) ps)))

-- The promise: the delta book, and how often its steps touched a prompt.
pub record CountedBook (p : Prompts) (t : Table) (r : Counted) : Type 0 where
  pub book : Booked p t r.book
  pub touches : r.touches ≡ touches_of p t
  pub few : r.touches ≤ most_touches
