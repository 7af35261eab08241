-- What a report says of a delta book: nothing still open could have been paired. Run the whole spread table again over what it left, and
-- every step forms nothing. So it is of every table without tenths; where ratios are in tenths, a use that was rounded down can leave
-- enough for a step to form a little more (a pool of 0.0003 at 0.8 forms 0.0003 and uses 0.0002).
-- Assumes nothing.
use Rattle.std.specs.Prelude.{ℕ, ◌<◌, ◌≡◌, List, [], length, get_or, replicate}
use Rattle.spread.specs.Steps.{Open, Taker, formed, numbers, left}

pub record NothingToPair (ss : List (List Taker)) (ps : List Open) : Type 0 where
  -- no step forms anything from what is left, whichever is taken first
  pub each : (j : ℕ) → j < length ss → formed (get_or ss j []) (left ss ps) ≡ 0
  -- the whole table once more: zeros
  pub again : numbers ss (left ss ps) ≡ replicate (length ss) 0
  -- and what was left is left
  pub stays : left ss (left ss ps) ≡ left ss ps
