-- The fields of a record whose kind is known.
-- Assumes nothing.
use mathlib.Core.Path.{◌≡◌, sym, ◌∙◌}
use mathlib.Core.Bool.{Bool, ◌||◌}
use mathlib.Core.List.{[], map}
use borrow.Author.Tests.{ne_eqb}
use Rattle.exact.proofs.Lists.{any_append}
use Rattle.record.specs.Bytes.{Record, count_from}
use Rattle.record.specs.Layout.{kind, fields_of, contract_fields, prompt_fields, row_head, loss_field, row_fields, spread_fields, entry_fields, rate_fields}
use Rattle.record.specs.Layout.{scenario_count}
use Rattle.record.specs.Ranges.{outside, outside_among}
use Rattle.record.proofs.Tests.{both}

module _ (r : Record) where
  pub of_contract_lem : kind r ≡ 1 → fields_of r ≡ contract_fields
  of_contract_lem e = rw e

  pub of_prompt : kind r ≡ 2 → fields_of r ≡ prompt_fields
  of_prompt e = rw e

  pub of_row : kind r ≡ 3 → fields_of r ≡ row_fields r
  of_row e = rw e

  pub of_spread : kind r ≡ 4 → fields_of r ≡ spread_fields r
  of_spread e = rw e

  pub of_entry : kind r ≡ 5 → fields_of r ≡ entry_fields r
  of_entry e = rw e

  pub of_rate : kind r ≡ 6 → fields_of r ≡ rate_fields
  of_rate e = rw e

  pub of_none :
      (kind r ≡ 1 → ⊥) → (kind r ≡ 2 → ⊥) → (kind r ≡ 3 → ⊥) → (kind r ≡ 4 → ⊥) → (kind r ≡ 5 → ⊥) → (kind r ≡ 6 → ⊥) → fields_of r ≡ []
  of_none a b c d e f =
      rw (ne_eqb (kind r) 1 a, ne_eqb (kind r) 2 b, ne_eqb (kind r) 3 c, ne_eqb (kind r) 4 d, ne_eqb (kind r) 5 e, ne_eqb (kind r) 6 f)

-- a row's fields are those before its losses, and its losses
pub row_fields-outside :
    (r : Record) {a b : Bool} → a ≡ outside_among (row_head r) r → b ≡ outside_among (map loss_field (count_from 1 scenario_count)) r
    → a || b ≡ outside_among (row_fields r) r
row_fields-outside r p q = both p q ∙ sym (any_append (outside r) (row_head r) (map loss_field (count_from 1 scenario_count)))
