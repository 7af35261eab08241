-- Interprompt and prompt date charges of document 01: where deltas and numbers of spreads become amounts.
-- Assumes nothing.
use Rattle.std.specs.Prelude.{ℕ, ◌+◌, ◌*◌, List, [], ◌∷◌, ℤ, nat_abs}
use Rattle.exact.specs.Rounding.{half_up_to}
use Rattle.record.specs.Layout.{Record, rate_per_spread, spread_rate_of, outright_rate_of}

-- "Each spread's and each prompt's charge is rounded once .., halves up, before adding (house)", and (2026-09) "every charge ..
-- that 01 rounds to a hundredth is rounded to" the contract's unit
abbrev pub charged : ℕ → ℕ → ℕ
charged unit amount = half_up_to amount 10000 unit

-- "The spread's charge is (first + second number) × rate / 10,000."
abbrev pub spread_charge : ℕ → ℕ → ℕ → ℕ → ℕ
spread_charge unit rate first second = charged unit ((first + second) * rate)

-- over a table of spreads, each with the numbers of its two steps
abbrev pub over_steps : (Record → ℕ → ℕ → ℕ) → List Record → List ℕ → ℕ
over_steps amount [] numbers = 0
over_steps amount (s ∷ ss) [] = 0
over_steps amount (s ∷ ss) (first ∷ []) = 0
over_steps amount (s ∷ ss) (first ∷ second ∷ numbers) = amount s first second + over_steps amount ss numbers

abbrev pub interprompt_charge : ℕ → List Record → List ℕ → ℕ
interprompt_charge unit = over_steps (λ s. spread_charge unit (rate_per_spread s))

-- "A prompt's charge is (|used| × first rate + |unused| × second rate) / 10,000."
abbrev pub prompt_charge : ℕ → ℕ → ℕ → ℤ → ℤ → ℕ
prompt_charge unit firstRate secondRate used unused = charged unit (nat_abs used * firstRate + nat_abs unused * secondRate)

-- over a contract's prompts, each with its used and its unused delta
abbrev pub prompt_charges : ℕ → List Record → List ℤ → List ℤ → ℕ
prompt_charges unit [] used unused = 0
prompt_charges unit (p ∷ ps) [] unused = 0
prompt_charges unit (p ∷ ps) (u ∷ used) [] = 0
prompt_charges unit (p ∷ ps) (u ∷ used) (n ∷ unused) =
    prompt_charge unit (spread_rate_of p) (outright_rate_of p) u n + prompt_charges unit ps used unused
