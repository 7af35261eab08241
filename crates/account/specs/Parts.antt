-- The parts of an account: its contracts, the prompts, rows and interprompt spreads of a contract, its intercontract spreads, and
-- its currency rates, each in file order.
-- Assumes nothing.
use Rattle.std.specs.Prelude.{ℕ, ◌+◌, Bool, ◌&&◌, cond, List, [], ◌∷◌, eqb}
use Rattle.exact.specs.Lists.{keep, count}
use Rattle.record.specs.Layout.{Record, kind, contract, tier, day}

abbrev pub of_kind : ℕ → Record → Bool
of_kind n r = eqb (kind r) n

-- a record of a kind that belongs to a contract
abbrev pub of_contract : ℕ → ℕ → Record → Bool
of_contract n c r = of_kind n r && eqb (contract r) c

-- a prompt on a day, or of a tier
abbrev pub on_day : ℕ → Record → Bool
on_day d r = eqb (day r) d

abbrev pub on_tier : ℕ → Record → Bool
on_tier t r = eqb (tier r) t

-- the place of the first that passes the test, from 0; how many there are where none passes
abbrev pub place_of : (Record → Bool) → List Record → ℕ
place_of p [] = 0
place_of p (r ∷ rs) = cond (p r) 0 (place_of p rs + 1)

-- where those that pass the test begin, 0 where none passes
abbrev pub start_of : (Record → Bool) → List Record → ℕ
start_of p rs = cond (eqb (count p rs) 0) 0 (place_of p rs)

abbrev pub contracts_of : List Record → List Record
contracts_of = keep (of_kind 1)

abbrev pub prompts_of : ℕ → List Record → List Record
prompts_of c = keep (of_contract 2 c)

abbrev pub rows_of : ℕ → List Record → List Record
rows_of c = keep (of_contract 3 c)

abbrev pub spreads_of : ℕ → List Record → List Record
spreads_of c = keep (of_contract 4 c)

abbrev pub entries_of : List Record → List Record
entries_of = keep (of_kind 5)

abbrev pub rates_of : List Record → List Record
rates_of = keep (of_kind 6)
