-- Short option minimum and margin of document 01.
-- Assumes nothing.
use Rattle.std.specs.Prelude.{ℕ, suc, ◌+◌, ◌-◌, ◌*◌, max, cond, List, map, eqb, ℤ, pos, negsuc}
use Rattle.exact.specs.Lists.{sum}
use Rattle.record.specs.Layout.{Record, row_type, lots}

-- "short lots of calls and puts"
abbrev pub short : ℤ → ℕ
short (pos n) = 0
short (negsuc n) = suc n

abbrev pub short_options : Record → ℕ
short_options row = cond (eqb (row_type row) 0) 0 (short (lots row))

abbrev pub short_lots : List Record → ℕ
short_lots rows = sum (map short_options rows)

-- "Short option minimum: short lots of calls and puts × rate."
abbrev pub short_option_minimum : ℕ → ℕ → ℕ
short_option_minimum shorts rate = shorts * rate

-- "scanning + interprompt + prompt - credits, not below 0"
abbrev pub risk : ℕ → ℕ → ℕ → ℕ → ℕ
risk scanning interprompt prompt credit = scanning + interprompt + prompt - credit

-- "Margin: the larger of that minimum and (scanning + interprompt + prompt - credits, not below 0)."
abbrev pub margin : ℕ → ℕ → ℕ
margin minimum risk = max minimum risk
