use Prim.Native.Nat.{ℕ, ◌+◌, ◌<◌}
use native.Mathlib.Omega.{arith}
use mathlib.Core.Path.{sym, ◌∙◌, subst}
use lib.IntN.{ℤ, pos, nat_abs}
use lib.ListN.{length-map, get_or, set}
use mir.Syntax.{w64}
use mir.Val.{SFits, to_z, of_z}
use Rattle.exact.proofs.Integers.{back}
use Rattle.spread.specs.Accepted.{open_of}
use Rattle.spread.specs.code.Cells.{pool_count}
use Rattle.spread.specs.code.Lent.{prompts_in}
use Rattle.spread.specs.declared.Prompts.{Prompts}
use Rattle.spread.proofs.Every.{open_length}
use Rattle.spread.proofs.Gathering.{few, Placed, placed_within}
use Rattle.spread.proofs.Laying.{Laying, laying_none, laying_next, laying_all}
use Rattle.spread.proofs.Lent.{placed_in}
use Rattle.spread.proofs.touches.lay.Goals as goal
use Rattle.spread.proofs.touches.lay.Goals.{After-pool_of-cell, Start}

-- the prompts that are lent
abbrev lent : Start → Prompts
lent s = prompts_in s.args.count s.args.tiers.now s.args.nets.now

-- a net delta as it is read
abbrev read : Start → ℕ → ℤ
read s k = to_z w64 (of_z w64 (get_or s.args.nets.now k (pos 0)))

-- the prompt of a turn
here : (c : After-pool_of-cell) →
    Placed (open_of (lent (goal.at.bounds-pool-k c).Start)) c.loop-k.k (read (goal.at.bounds-pool-k c).Start c.loop-k.k) c.pool_of-cell.result
here c =
    let l = c.loop-k in
    let z = get_or c.args.nets.now l.k (pos 0) in
    let f : SFits w64 z = record { sfits = c.net-1.given } in
    placed_in c.args.count c.args.tiers.now c.args.nets.now l.k _ c.pool_of-cell.result c.requires.1.0.0 c.requires.1.0.1 c.requires.0
    c.loop-k-test.true (back z f) c.pool_of-cell.ensures

within : (c : After-pool_of-cell) → c.pool_of-cell.result < pool_count
within c = placed_within _ _ _ _ (here c)

pub loop-k-init : goal.loop-k-init
loop-k-init c =
    let at = (goal.at.loop-k-init c).Start in
    let r = c.requires.1.1 in (
      few (lent at) c.requires.0,
      laying_none (open_of (lent at)) c.args.pool.now c.args.size.now c.args.at.now r.0 r.1.0 r.1.1,
    )

pub bounds-pool-k : goal.bounds-pool-k
bounds-pool-k c =
    let l = c.loop-k in omega (arith, l.invariant.0, l.invariant.1.pools, c.loop-k-test.true)

pub bounds-size-k : goal.bounds-size-k
bounds-size-k c =
    let l = c.loop-k in omega (arith, l.invariant.0, l.invariant.1.sizes, c.loop-k-test.true)

pub offset_bounds-at-cell : goal.offset_bounds-at-cell
offset_bounds-at-cell c = let h = within (goal.at.offset_bounds-at-cell c).After-pool_of-cell in omega arith

pub bounds-at-cell : goal.bounds-at-cell
bounds-at-cell c =
    omega (arith, within (goal.at.bounds-at-cell c).After-pool_of-cell, c.loop-k.invariant.1.places)

pub offset_bounds-at-cell-in-loop-k : goal.offset_bounds-at-cell-in-loop-k
offset_bounds-at-cell-in-loop-k c =
    let h = within (goal.at.offset_bounds-at-cell-in-loop-k c).After-pool_of-cell in
    omega arith

pub bounds-at-cell-in-loop-k : goal.bounds-at-cell-in-loop-k
bounds-at-cell-in-loop-k c =
    omega (arith, within (goal.at.bounds-at-cell-in-loop-k c).After-pool_of-cell, c.loop-k.invariant.1.places)

pub loop-k-preserved : goal.loop-k-preserved
loop-k-preserved c =
    let at = goal.at.loop-k-preserved c in
    let l = c.loop-k in
    let q = open_of (lent at.Start) in
    let cell = c.pool_of-cell.result in (
      l.invariant.0,
      subst (λ (a : ℕ). Laying q (l.k + 1) (set l.pool l.k cell) (set l.size l.k a) (set l.at cell c.min.result))
          (sym c.size.ensures)
          (subst (λ (a : ℕ). Laying q (l.k + 1) (set l.pool l.k cell) (set l.size l.k (nat_abs (read at.Start l.k))) (set l.at cell a))
          (sym c.min.ensures)
          (laying_next q l.k _ cell (here at.After-pool_of-cell) l.pool l.size l.at (omega arith) l.invariant.1)),
    )

pub returns : goal.returns
returns c =
    let l = c.loop-k in
    let p = lent (goal.at.returns c).Start in
    let n = open_length p c.requires.1.0.0 (length-map c.args.nets.now _ ∙ c.requires.1.0.1) l.invariant.0 in
    laying_all (open_of p) l.k l.pool l.size l.at (omega (arith, n, c.loop-k-test.false)) (omega arith) l.invariant.1
