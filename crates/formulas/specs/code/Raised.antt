-- Sums of rows that are neither converted nor rounded: each loss takes the sign of lots × value and is raised by the most that a loss or a gain can be, so
-- that no factor has a sign.
-- Assumes nothing.
use Rattle.std.specs.Prelude.{cond, List, [], ◌∷◌, ℕ, suc, ◌+◌, ◌-◌, ◌*◌, ◌^◌, ◌≤◌, ltb, ℤ, pos, negsuc, neg_ℤ, nat_abs, ◌+ℤ◌, ◌-ℤ◌, get_or}
use Rattle.exact.specs.Signed.{negative}
use Rattle.record.specs.Layout.{Record, loss, hundred_thousand, scenario_count}
use Rattle.formulas.specs.Bounds.{most_product}
use Rattle.formulas.specs.code.Position.{AtMost}
use Rattle.account.specs.Products.{most_per_tick}

-- a loss with the sign of lots × value, which are `each`
abbrev pub signed_loss : ℤ → ℤ → ℤ
signed_loss each l = cond (negative each) (neg_ℤ l) l

-- it is raised by the most that a loss or a gain can be
abbrev pub raised_by : ℤ → ℤ → ℕ
raised_by each l = nat_abs (signed_loss each l +ℤ pos hundred_thousand)

abbrev pub raised_loss : ℤ → Record → ℕ → ℕ
raised_loss each row k = raised_by each (loss row (k + 1))

-- what a row adds to each sum
abbrev pub raised_products : ℤ → Record → ℕ → ℤ
raised_products each row k = pos (nat_abs each * raised_loss each row k)

abbrev pub most_raised : ℕ
most_raised = most_per_tick * (2 * hundred_thousand)

-- ---- the 32 bits of a loss

-- a gain counts down from 2 ^ 32
abbrev pub loss_bits : ℤ → ℕ
loss_bits (pos n) = n
loss_bits (negsuc n) = 2 ^ 32 - suc n

-- what the bits are turned by, and what the loss is raised by then
abbrev pub turn_of : ℤ → ℕ
turn_of each = cond (negative each) (2 ^ 32 - 1) 0

abbrev pub raise_of : ℤ → ℕ
raise_of each = cond (negative each) (hundred_thousand + 1) hundred_thousand

abbrev pub turned_bits : ℕ → ℕ → ℕ
turned_bits bits turn = cond (ltb (2 ^ 31 - 1) turn) (2 ^ 32 - 1 - bits) bits

-- ---- what the sums come to

-- the sum of a scenario, the sizes of its rows' lots × value being `sizes` together
abbrev pub unraised_at : List ℤ → ℕ → ℕ → ℤ
unraised_at sums sizes k = get_or sums k (pos 0) -ℤ pos (sizes * hundred_thousand)

-- the totals with what stands in the sums
abbrev pub settled_from : ℕ → List ℤ → List ℤ → ℕ → List ℤ
settled_from k [] sums sizes = []
settled_from k (t ∷ ts) sums sizes = (t +ℤ unraised_at sums sizes k) ∷ settled_from (k + 1) ts sums sizes

abbrev pub settled : List ℤ → List ℤ → ℕ → List ℤ
settled totals sums sizes = settled_from 0 totals sums sizes

-- no more than what n rows within their ranges can come to
pub record SumsRoom (n : ℕ) (totals sums : List ℤ) (sizes : ℕ) : Type 0 where
  pub totals_most : AtMost scenario_count (n * most_product) totals
  pub sums_most : AtMost scenario_count (n * most_raised) sums
  pub sizes_most : sizes ≤ n * most_per_tick
