-- `with_rows`: the rows added to its numbers.
-- Assumes nothing.
use mathlib.Core.Path.{sym, subst}
use mathlib.Core.List.{List}
use Prim.Native.Nat.{◌+◌, ◌-◌, zero-le}
use lib.IntN.{ℤ}
use lib.ListN.{length}
use Rattle.spread.specs.declared.Delta.{Delta}
use Rattle.account.specs.code.Rates.{RatesOf}
use Rattle.record.specs.Layout.{Record}
use Rattle.account.specs.Records.{records}
use Rattle.account.specs.Check.{most_rows}
use Rattle.formulas.specs.declared.rows.Position.{Position}
use Rattle.formulas.specs.code.Position.{WithRows, Bounded, deltas_in, position_in}
use Rattle.formulas.proofs.PositionLaws.{joined}
use Rattle.formulas.proofs.WalkLaws.{bounded_lent, with_lent, with_most}
use Rattle.formulas.proofs.rows.with_rows.Goals as goal

pub add_rows-more-requires : goal.add_rows-more-requires
add_rows-more-requires c =
    let n = most_rows - length (records c.args.rows.now) in
    let b = c.requires.1.1.1.1 in
    let ts = c.args.p.totals.0 in
    let ns = deltas_in c.args.p.nets in (
      c.requires.0,
      (
        c.requires.1.0,
        (
          c.requires.1.1.0,
          (
            c.requires.1.1.1.0,
            subst (λ (zs : List ℤ). Bounded n (position_in ts zs 0)) (sym c.plain-nets.ensures)
                (bounded_lent ts ns 0 b.totals_most b.nets_most zero-le),
          ),
        ),
      ),
    )

pub returns : goal.returns
returns c =
    let rows = records c.args.rows.now in
    let unit = c.args.unit in
    let days = c.args.days in
    let p = c.args.p in
    let by = c.add_rows-more in
    let ts = by.new.totals in
    let ns = by.new.nets in
    let n = by.result in
    let rated = c.requires.1.1.1.0 in
    let its : (held : List Record) → RatesOf held c.args.rates
    → WithRows held unit days (position_in p.totals.0 (deltas_in p.nets) 0) rows (position_in ts ns n) =
    λ held is. subst (λ (zs : List ℤ). WithRows held unit days (position_in p.totals.0 zs 0) rows (position_in ts ns n)) c.plain-nets.ensures
    (by.ensures.added held is) in
    let with-nets : List Delta → Position = λ nets. record { totals = record { 0 = ts }; nets = nets; shorts = p.shorts + n } in
    let same = sym c.deltas_from.ensures in
    let added : (held : List Record) → RatesOf held c.args.rates → WithRows held unit days p rows (with-nets c.deltas_from.result) =
    λ held is. subst (λ (nets : List Delta). WithRows held unit days p rows (with-nets nets)) same (with_lent held unit rows days p ts ns n (its held is)) in record {
      added = added;
      more = λ held prompts earlier is known of. joined held unit prompts earlier rows days p (with-nets c.deltas_from.result) known of (added held is);
      most = subst (λ (nets : List Delta). Bounded most_rows (with-nets nets)) same
          (with_most rated.rates unit rows days p ts ns n (its rated.rates rated.held) c.requires.1.1.0 c.requires.1.1.1.1 by.ensures.most);
    }
