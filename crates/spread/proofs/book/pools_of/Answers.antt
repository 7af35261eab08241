use Prim.Native.Nat.{ℕ, ◌+◌, ◌<◌}
use native.Mathlib.Omega.{arith}
use mathlib.Core.List.{List}
use mathlib.Core.Path.{◌∙◌, ap, subst}
use lib.IntN.{pos}
use lib.ListN.{length-map, get_or, set}
use lib.Seq.{take_all}
use mir.Syntax.{w64}
use mir.Val.{SFits, to_z, of_z}
use Rattle.exact.proofs.Integers.{back}
use Rattle.spread.specs.Accepted.{open_of}
use Rattle.spread.specs.code.Cells.{Pooled, pool_count}
use Rattle.spread.specs.code.Lent.{prompts_in}
use Rattle.spread.specs.Steps.{Open}
use Rattle.spread.specs.declared.Prompts.{Prompts}
use Rattle.spread.proofs.Every.{open_length}
use Rattle.spread.proofs.Gathering.{few, Placed, placed_within, pooled_none, pools_fit, pools_next}
use Rattle.spread.proofs.Lent.{placed_in}
use Rattle.spread.proofs.book.pools_of.Goals as goal
use Rattle.spread.proofs.book.pools_of.Goals.{After-pool_of-cell, Start}

-- the prompts that are lent
abbrev lent : Start → Prompts
lent s = prompts_in s.args.count s.args.tiers.now s.args.nets.now

-- the prompt of a turn
here : (c : After-pool_of-cell) →
    Placed (open_of (prompts_in c.args.count c.args.tiers.now c.args.nets.now)) c.loop-i.i
    (to_z w64 (of_z w64 (get_or c.args.nets.now c.loop-i.i (pos 0)))) c.pool_of-cell.result
here c =
    let l = c.loop-i in
    let z = get_or c.args.nets.now l.i (pos 0) in
    let f : SFits w64 z = record { sfits = c.net-1.given } in
    placed_in c.args.count c.args.tiers.now c.args.nets.now l.i _ c.pool_of-cell.result c.requires.1.0 c.requires.1.1 c.requires.0
    c.loop-i-test.true (back z f) c.pool_of-cell.ensures

within : (c : After-pool_of-cell) → c.pool_of-cell.result < pool_count
within c = placed_within _ _ _ _ (here c)

pub loop-i-init : goal.loop-i-init
loop-i-init c =
    let at = (goal.at.loop-i-init c).Start in
    (few (lent at) c.requires.0, pooled_none (open_of (lent at)))

pub offset_bounds-cells-cell : goal.offset_bounds-cells-cell
offset_bounds-cells-cell c = let h = within (goal.at.offset_bounds-cells-cell c).After-pool_of-cell in omega arith

pub bounds-cells-cell : goal.bounds-cells-cell
bounds-cells-cell c = within (goal.at.bounds-cells-cell c).After-pool_of-cell

pub overflow_add-cells : goal.overflow_add-cells
overflow_add-cells c =
    let at = goal.at.overflow_add-cells c in
    let l = c.loop-i in
    let e = c.size.ensures in
    let h = pools_fit (lent at.Start) l.i _ c.pool_of-cell.result (here at.After-pool_of-cell) l.cells l.invariant.1 c.requires.0 (omega arith) in
    omega arith

pub bounds-cells-cell-in-loop-i : goal.bounds-cells-cell-in-loop-i
bounds-cells-cell-in-loop-i c = within (goal.at.bounds-cells-cell-in-loop-i c).After-pool_of-cell

pub loop-i-preserved : goal.loop-i-preserved
loop-i-preserved c =
    let at = goal.at.loop-i-preserved c in
    let l = c.loop-i in
    let cell = c.pool_of-cell.result in (
      l.invariant.0,
      pools_next (lent at.Start) l.i _ cell (here at.After-pool_of-cell) l.cells l.invariant.1 _
          (ap (λ (x : ℕ). set l.cells cell (get_or l.cells cell 0 + x)) c.size.ensures),
    )

pub returns : goal.returns
returns c =
    let p = lent (goal.at.returns c).Start in
    let l = c.loop-i in
    let n = open_length p c.requires.1.0 (length-map c.args.nets.now _ ∙ c.requires.1.1) l.invariant.0 in
    subst (λ (ps : List Open). Pooled l.cells ps) (take_all l.i (open_of p) (omega arith)) l.invariant.1
