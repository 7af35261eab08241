-- What the rows alone come to is taken away again.
-- Assumes nothing.
use mathlib.Core.Path.{refl}
use mathlib.Core.List.{[]}
use Prim.Native.Nat.{zero-le}
use native.Mathlib.Omega.{arith}
use Rattle.account.specs.Records.{records}
use Rattle.formulas.proofs.WithdrawLaws.{taken_away}
use Rattle.formulas.proofs.rows.without_rows.Goals as goal

pub overflow_sub-result : goal.overflow_sub-result
overflow_sub-result c =
    let h = c.requires.1.1.1.1.1 in
    let g = c.with_rows-gone.ensures.added h.rates h.held in
    omega (
      arith,
      h.added.shorts_added,
      g.shorts_added,
      (c.flat.ensures
          h.rates c.args.unit [] zero-le).shorts_are,
    )

pub returns : goal.returns
returns c =
    let g = c.with_rows-gone in
    let f = c.flat in
    λ held before rated is.
    taken_away held c.args.unit c.args.days (records c.args.rows.now) before c.args.p f.result g.result _ is (g.ensures.added held rated)
    (f.ensures held c.args.unit [] zero-le) c.requires.1.1.1.1.0 c.requires.1.0.0 c.totals_without.ensures
    c.nets_without.ensures refl
