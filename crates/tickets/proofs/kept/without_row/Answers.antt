-- The row is taken from what the rows of its contract come to.
-- Assumes nothing.
use mathlib.Core.Path.{refl, ◌≡◌, subst, subst⁻¹}
use mathlib.Core.List.{List, [], ◌∷◌, ◌++◌}
use Prim.Native.Nat.{ℕ, ◌-◌, ◌≤◌}
use native.Mathlib.Omega.{arith}
use lib.ListN.{get_or, set}
use Rattle.record.specs.Layout.{Record, most_unit}
use Rattle.account.specs.code.Rates.{RatesOf}
use Rattle.account.specs.Records.{records}
use Rattle.account.specs.code.Standing.{Stands, PartOf}
use Rattle.account.specs.Joined.{account_of}
use Rattle.account.specs.declared.accounts.Account.{Account}
use Rattle.account.specs.PartNumbers.{part}
use Rattle.account.specs.Check.{most_prompts, most_rows}
use Rattle.formulas.specs.code.Position.{RowsFit, RowsPlaced, RatedBy, Bounded, WithRows, HasRows}
use Rattle.margin.specs.code.Positions.{no_position, PositionsOf}
use Rattle.formulas.specs.declared.rows.Position.{Position}
use Rattle.tickets.specs.Ticket.{with_tickets}
use Rattle.tickets.proofs.CountLaws.{before_ok, taken_here}
use Rattle.tickets.proofs.KeptLaws.{stands_kept, low_kept, days_asked, less-asks, row_taken, beside_less, some_kept}
use Rattle.tickets.proofs.kept.without_row.Goals as goal

pub part-own-requires : goal.part-own-requires
part-own-requires c =
    let x = c.requires.1 in
    subst⁻¹ (λ (a : Account). Stands c.args.file.now c.args.none.now a) c.account_of-account.ensures
    (stands_kept c.args.file.now (x.tickets ++ c.args.row.now ∷ []) c.args.kept.now x.kept c.args.none.now c.requires.0)

pub part-prompts-requires : goal.part-prompts-requires
part-prompts-requires c =
    let x = c.requires.1 in
    subst⁻¹ (λ (a : Account). Stands c.args.file.now c.args.none.now a) c.account_of-account.ensures
    (stands_kept c.args.file.now (x.tickets ++ c.args.row.now ∷ []) c.args.kept.now x.kept c.args.none.now c.requires.0)

pub part-requires : goal.part-requires
part-requires c =
    let x = c.requires.1 in
    subst⁻¹ (λ (a : Account). Stands c.args.file.now c.args.none.now a) c.account_of-account.ensures
    (stands_kept c.args.file.now (x.tickets ++ c.args.row.now ∷ []) c.args.kept.now x.kept c.args.none.now c.requires.0)

pub bounds-kept-c : goal.bounds-kept-c
bounds-kept-c c =
    let x = c.requires.1 in
    let l = low_kept c.args.file.now x.tickets c.args.row.now
    (before_ok c.args.file.now x.tickets c.args.row.now c.args.kept.now.counts x.kept.counts)
    (taken_here c.args.file.now x.tickets c.args.row.now c.args.kept.now.counts x.kept.counts) in
    omega (arith, c.contract-c.ensures.0)

pub days_of-requires : goal.days_of-requires
days_of-requires c =
    let x = c.requires.1 in
    let a = account_of c.args.file.now c.args.none.now in
    let bytes = c.part-prompts.result.now in
    days_asked c.args.file.now c.args.kept.now.counts.account c.args.none.now
    (stands_kept c.args.file.now (x.tickets ++ c.args.row.now ∷ []) c.args.kept.now x.kept c.args.none.now c.requires.0)
    x.tickets c.args.row.now (before_ok c.args.file.now x.tickets c.args.row.now c.args.kept.now.counts x.kept.counts)
    (taken_here c.args.file.now x.tickets c.args.row.now c.args.kept.now.counts x.kept.counts)
    (beside_less c.args.file.now x.tickets c.args.row.now c.args.kept.now x.kept c.args.none.now c.requires.0)
    bytes (subst (λ (n : ℕ). PartOf a (part 2 n) bytes) c.contract-c.ensures.0
    c.part-prompts.ensures)

pub without_rows-requires : goal.without_rows-requires
without_rows-requires c =
    let x = c.requires.1 in
    let a = account_of c.args.file.now c.args.none.now in
    let own = c.part-own.result.now in
    let prompts = c.part-prompts.result.now in
    let rates = c.part.result.now in
    let e = c.contract-c.ensures.0 in
    subst⁻¹ (λ (n : ℕ). (c.unit.result ≤ most_unit)
    × (((c.days_of.result.count ≤ most_prompts)
    × RowsPlaced c.days_of.result.count c.days_of.result.day (records c.args.row.now))
    × (RowsFit (records c.args.row.now)
    × (RatedBy c.rates_of-rates.result (records c.args.row.now)
    × (Bounded most_rows (get_or c.args.kept.now.positions.at n no_position) × HasRows c.rates_of-rates.result
    c.unit.result c.days_of.result (records c.args.row.now) (get_or c.args.kept.now.positions.at n no_position))))))
    e
    (less-asks c.args.file.now c.args.kept.now.counts.account c.args.none.now
    (stands_kept c.args.file.now (x.tickets ++ c.args.row.now ∷ []) c.args.kept.now x.kept c.args.none.now c.requires.0)
    x.tickets c.args.row.now (before_ok c.args.file.now x.tickets c.args.row.now c.args.kept.now.counts x.kept.counts)
    (taken_here c.args.file.now x.tickets c.args.row.now c.args.kept.now.counts x.kept.counts)
    (beside_less c.args.file.now x.tickets c.args.row.now c.args.kept.now x.kept c.args.none.now c.requires.0)
    own prompts rates (subst (λ (n : ℕ). PartOf a (part 1 n) own) e c.part-own.ensures)
    (subst (λ (n : ℕ). PartOf a (part 2 n) prompts) e c.part-prompts.ensures)
    c.part.ensures c.rates_of-rates.result
    c.rates_of-rates.ensures
    c.days_of.result c.days_of.ensures c.unit.result c.unit.ensures.0 c.args.kept.now.positions x.kept.positions)

pub bounds-kept-c-2 : goal.bounds-kept-c-2
bounds-kept-c-2 c =
    let x = c.requires.1 in
    let l = low_kept c.args.file.now x.tickets c.args.row.now
    (before_ok c.args.file.now x.tickets c.args.row.now c.args.kept.now.counts x.kept.counts)
    (taken_here c.args.file.now x.tickets c.args.row.now c.args.kept.now.counts x.kept.counts) in
    omega (arith, c.contract-c.ensures.0)

pub overflow_sub-kept : goal.overflow_sub-kept
overflow_sub-kept c =
    some_kept c.args.file.now c.requires.1.tickets c.args.row.now c.args.kept.now c.requires.1.kept

pub returns : goal.returns
returns c =
    let x = c.requires.1 in
    let a = account_of c.args.file.now c.args.none.now in
    let own = c.part-own.result.now in
    let prompts = c.part-prompts.result.now in
    let rates = c.part.result.now in
    let table = c.rates_of-rates.result in
    let e = c.contract-c.ensures.0 in
    let q = c.without_rows.result in (
      refl,
      λ ts kb.
          subst⁻¹
          (λ (n : ℕ). PositionsOf (records (with_tickets c.args.file.now (ts)))
          (record { records = c.args.kept.now.positions.records - 1; at = set c.args.kept.now.positions.at n q }))
          e
          (row_taken c.args.file.now c.args.kept.now.counts.account c.args.none.now
          (stands_kept c.args.file.now (ts ++ c.args.row.now ∷ []) c.args.kept.now kb c.args.none.now c.requires.0)
          ts c.args.row.now (before_ok c.args.file.now ts c.args.row.now c.args.kept.now.counts kb.counts)
          (taken_here c.args.file.now ts c.args.row.now c.args.kept.now.counts kb.counts)
          (beside_less c.args.file.now ts c.args.row.now c.args.kept.now kb c.args.none.now c.requires.0)
          own prompts rates
          (subst (λ (n : ℕ). PartOf a (part 1 n) own) e c.part-own.ensures)
          (subst (λ (n : ℕ). PartOf a (part 2 n) prompts) e c.part-prompts.ensures)
          c.part.ensures table c.rates_of-rates.ensures
          c.days_of.result c.days_of.ensures c.unit.result
          c.unit.ensures.0 c.args.kept.now.positions kb.positions
          q
          (subst
          (λ (n : ℕ). (held : List Record) (before : Position) → RatesOf held table → WithRows held c.unit.result
          c.days_of.result before (records c.args.row.now) (get_or c.args.kept.now.positions.at n no_position) → q ≡ before)
          e c.without_rows.ensures)),
    )
