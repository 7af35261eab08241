-- A flag as a number.
-- Assumes nothing.
use mathlib.Core.Path.{◌≡◌, refl}
use mathlib.Core.Bool.{Bool, true, false}
use mir.Val.{bool_byte}
use Rattle.exact.specs.Lists.{one_if}

pub flag : (b : Bool) → bool_byte b ≡ one_if b
flag true = refl
flag false = refl
