-- What a refusal tests, where the record's kind is known.
-- Assumes nothing.
use Prim.Native.Nat.{ℕ}
use mathlib.Core.Path.{◌≡◌}
use mathlib.Core.Bool.{false, ◌||◌}
use mathlib.Core.List.{List}
use lib.ListN.{get_or}
use lib.Dec.{leb}
use borrow.Author.Tests.{ne_eqb}
use Rattle.exact.specs.Lists.{any}
use Rattle.record.specs.Layout.{Record, kind, contract, day, legs_of, leg_tier, second_contract}
use Rattle.account.specs.Check.{number_not_above, day_not_above, tier_falls, contract_falls, legs_clash, with_itself, currency_not_above, out_of_order, none}
use Rattle.account.specs.Check.{lists_contract, lists_day, leg_unlisted, unlisted, most_prompts, most_rows, most_spreads, most_entries, reached, over_limit}
use Rattle.account.specs.Parts.{of_kind, of_contract}
use Rattle.account.specs.code.Notes.{part_of, no_contract, no_day, no_tier, unlisted_by, over_limit_by}

module _ (before r : Record) where
  pub order_1 : kind r ≡ 1 → out_of_order before r ≡ number_not_above before r
  order_1 e = rw e

  pub order_2 : kind r ≡ 2 → out_of_order before r ≡ day_not_above before r || tier_falls before r
  order_2 e = rw e

  pub order_3 : kind r ≡ 3 → out_of_order before r ≡ contract_falls before r
  order_3 e = rw e

  pub order_4 : kind r ≡ 4 → out_of_order before r ≡ contract_falls before r || legs_clash r
  order_4 e = rw e

  pub order_5 : kind r ≡ 5 → out_of_order before r ≡ with_itself r
  order_5 e = rw e

  pub order_6 : kind r ≡ 6 → out_of_order before r ≡ currency_not_above before r
  order_6 e = rw e

  pub order_none :
      (kind r ≡ 1 → ⊥) → (kind r ≡ 2 → ⊥) → (kind r ≡ 3 → ⊥) → (kind r ≡ 4 → ⊥) → (kind r ≡ 5 → ⊥) → (kind r ≡ 6 → ⊥)
      → out_of_order before r ≡ false
  order_none a b c d e f =
      rw (ne_eqb (kind r) 1 a, ne_eqb (kind r) 2 b, ne_eqb (kind r) 3 c, ne_eqb (kind r) 4 d, ne_eqb (kind r) 5 e, ne_eqb (kind r) 6 f)

module _ (counts : List ℕ) (prompts : List Record) (r : Record) where
  pub listed_2 : kind r ≡ 2 → unlisted_by counts prompts r ≡ no_contract counts (contract r)
  listed_2 e = rw e

  pub listed_3 :
      kind r ≡ 3 → unlisted_by counts prompts r ≡ no_contract counts (contract r) || no_day prompts (day r)
  listed_3 e = rw e

  pub listed_4 :
      kind r ≡ 4
      → unlisted_by counts prompts r
      ≡ no_contract counts (contract r) || any (λ leg. no_tier prompts (leg_tier r leg)) (legs_of r)
  listed_4 e = rw e

  pub listed_5 :
      kind r ≡ 5
      → unlisted_by counts prompts r ≡ no_contract counts (contract r) || no_contract counts (second_contract r)
  listed_5 e = rw e

  pub listed-none :
      (kind r ≡ 2 → ⊥) → (kind r ≡ 3 → ⊥) → (kind r ≡ 4 → ⊥) → (kind r ≡ 5 → ⊥)
      → unlisted_by counts prompts r ≡ false
  listed-none b c d e =
      rw (ne_eqb (kind r) 2 b, ne_eqb (kind r) 3 c, ne_eqb (kind r) 4 d, ne_eqb (kind r) 5 e)

module _ (counts : List ℕ) (r : Record) where
  pub limit_2 : kind r ≡ 2 → over_limit_by counts r ≡ leb most_prompts (get_or counts (part_of r) 0)
  limit_2 e = rw e

  pub limit_3 : kind r ≡ 3 → over_limit_by counts r ≡ leb most_rows (get_or counts (part_of r) 0)
  limit_3 e = rw e

  pub limit_4 : kind r ≡ 4 → over_limit_by counts r ≡ leb most_spreads (get_or counts (part_of r) 0)
  limit_4 e = rw e

  pub limit_5 : kind r ≡ 5 → over_limit_by counts r ≡ leb most_entries (get_or counts (part_of r) 0)
  limit_5 e = rw e

  pub limit_none :
      (kind r ≡ 2 → ⊥) → (kind r ≡ 3 → ⊥) → (kind r ≡ 4 → ⊥) → (kind r ≡ 5 → ⊥) → over_limit_by counts r ≡ false
  limit_none b c d e =
      rw (ne_eqb (kind r) 2 b, ne_eqb (kind r) 3 c, ne_eqb (kind r) 4 d, ne_eqb (kind r) 5 e)

-- ---- the definitions themselves
module _ (earlier : List Record) (r : Record) where
  pub unlisted_2 : kind r ≡ 2 → unlisted earlier r ≡ none (lists_contract (contract r)) earlier
  unlisted_2 e = rw e

  pub unlisted_3 :
      kind r ≡ 3
      → unlisted earlier r
      ≡ none (lists_contract (contract r)) earlier || none (lists_day (contract r) (day r)) earlier
  unlisted_3 e = rw e

  pub unlisted_4 :
      kind r ≡ 4
      → unlisted earlier r
      ≡ none (lists_contract (contract r)) earlier || any (leg_unlisted earlier r) (legs_of r)
  unlisted_4 e = rw e

  pub unlisted_5 :
      kind r ≡ 5
      → unlisted earlier r
      ≡ none (lists_contract (contract r)) earlier || none (lists_contract (second_contract r)) earlier
  unlisted_5 e = rw e

  pub over_2 : kind r ≡ 2 → over_limit earlier r ≡ reached most_prompts (of_contract 2 (contract r)) earlier
  over_2 e = rw e

  pub over_3 : kind r ≡ 3 → over_limit earlier r ≡ reached most_rows (of_contract 3 (contract r)) earlier
  over_3 e = rw e

  pub over_4 : kind r ≡ 4 → over_limit earlier r ≡ reached most_spreads (of_contract 4 (contract r)) earlier
  over_4 e = rw e

  pub over_5 : kind r ≡ 5 → over_limit earlier r ≡ reached most_entries (of_kind 5) earlier
  over_5 e = rw e
