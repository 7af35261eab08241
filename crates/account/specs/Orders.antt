-- What refusal 8 leaves of an accepted file: contract numbers that rise, prompts whose days rise and whose tiers do not fall
-- within their contract, spreads whose legs do not clash, entries between two contracts, and currencies that rise.
-- Assumes nothing.
use Rattle.std.specs.Prelude.{ℕ, suc, ◌≤◌, ◌<◌, ◌≡◌, false, List, [], length, get_or}
use Rattle.record.specs.Layout.{Record, contract, tier, day, rate_currency, most_contract}
use Rattle.account.specs.Accepted.{Each}
use Rattle.account.specs.Check.{legs_clash, with_itself}
use Rattle.account.specs.Parts.{contracts_of, prompts_of, spreads_of, entries_of, rates_of}

-- each contract number above the one before
abbrev pub Rising : List Record → Type 0
Rising rs = (k : ℕ) → suc k < length rs → contract (get_or rs k []) < contract (get_or rs (suc k) [])

-- each prompt of a contract later than the one before, and in no tier below its
pub record Later (rs : List Record) : Type 0 where
  pub days : (k : ℕ) → suc k < length rs → day (get_or rs k []) < day (get_or rs (suc k) [])
  pub tiers : (k : ℕ) → suc k < length rs → tier (get_or rs k []) ≤ tier (get_or rs (suc k) [])

-- each currency above the one before
abbrev pub RatesRise : List Record → Type 0
RatesRise rs = (k : ℕ) → suc k < length rs → rate_currency (get_or rs k []) < rate_currency (get_or rs (suc k) [])

pub record Orders (rs : List Record) : Type 0 where
  pub contracts : Rising (contracts_of rs)
  pub prompts : (c : ℕ) → c ≤ most_contract → Later (prompts_of c rs)
  pub spreads : (c : ℕ) → Each (λ s. legs_clash s ≡ false) (spreads_of c rs)
  pub entries : Each (λ e. with_itself e ≡ false) (entries_of rs)
  pub rates : RatesRise (rates_of rs)
