-- Rounding, to a whole number and to a unit.
-- Assumes nothing.
use Rattle.std.specs.Prelude.{ℕ, ◌+◌, ◌*◌, ◌/◌, ℤ, nat_abs}
use Rattle.exact.specs.Signed.{with_sign_of}

-- "rounded once .. halves up": n / d, a half going to the number above
abbrev pub half_up : ℕ → ℕ → ℕ
half_up n d = (2 * n + d) / (2 * d)

-- 2026-05: "rounded to a hundredth, halves away from zero": z × m / d in one rounding, the size halves up, the sign as it was
abbrev pub half_away : ℤ → ℕ → ℕ → ℤ
half_away z m d = with_sign_of z (half_up (nat_abs z * m) d)

-- 2026-09: "rounded to it, halves up": n / d to a multiple of the unit, from the exact value in one rounding
abbrev pub half_up_to : ℕ → ℕ → ℕ → ℕ
half_up_to n d unit = half_up n (d * unit) * unit

-- 2026-09: "rounded to it, halves away from zero": the size halves up, the sign as it was
abbrev pub half_away_to : ℤ → ℕ → ℤ
half_away_to z unit = with_sign_of z (half_up_to (nat_abs z) 1 unit)
