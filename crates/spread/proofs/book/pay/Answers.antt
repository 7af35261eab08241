use Prim.Native.Nat.{ℕ, zero, suc, ◌-◌, ◌≤◌, ◌<◌, ◌^◌, min}
use native.Mathlib.Omega.{arith}
use mathlib.Core.List.{List}
use mathlib.Core.Path.{◌≡◌, ◌∙◌, ap, subst⁻¹}
use lib.IntN.{ℤ, pos, negsuc, neg_ℤ, ◌-ℤ◌}
use lib.ListN.{length, length-map, get_or, set, replicate}
use mir.Syntax.{w64}
use mir.Val.{SFits, to_z, of_z}
use Rattle.exact.proofs.Integers.{back, seen, taken_sign}
use Rattle.exact.specs.Signed.{towards_zero}
use Rattle.spread.specs.Accepted.{open_of, prompt_places}
use Rattle.spread.specs.code.Cells.{pool_count}
use Rattle.spread.specs.code.Lent.{deltas_from, prompts_in}
use Rattle.spread.specs.declared.Prompts.{Prompts}
use Rattle.spread.proofs.Every.{open_length}
use Rattle.spread.proofs.Gathering.{few, Placed, placed_within}
use Rattle.spread.proofs.Lent.{placed_in}
use Rattle.spread.proofs.Paying.{Paying, paying_none, pay_next, paying_all}
use Rattle.spread.proofs.book.pay.Goals as goal
use Rattle.spread.proofs.book.pay.Goals.{After-pool_of-cell, After-towards_zero-kept, Start}

-- what is taken of a delta in range is in range
negative_fits : (m n : ℕ) → m ≤ suc n → n < 2 ^ 63 → SFits w64 (neg_ℤ (pos m))
negative_fits zero n h f = record { sfits = omega arith }
negative_fits (suc m) n h f = record { sfits = omega arith }

taken-fits : (z : ℤ) (a : ℕ) → SFits w64 z → SFits w64 (z -ℤ towards_zero z a)
taken-fits (pos n) a f = let h = f.sfits in rw (taken_sign (pos n) a) (record { sfits = omega arith })
taken-fits (negsuc n) a f = let h = f.sfits in rw (taken_sign (negsuc n) a) (negative_fits (min a (suc n)) n (omega arith) (omega arith))

-- what is taken, as it is read back
used_is : (z y : ℤ) (a : ℕ) → SFits w64 z → SFits w64 y → y ≡ towards_zero z a
    → to_z w64 (of_z w64 (to_z w64 (of_z w64 z) -ℤ to_z w64 (of_z w64 y))) ≡ z -ℤ towards_zero z a
used_is z y a f g e = rw (back z f, back y g, e) (back (z -ℤ towards_zero z a) (taken-fits z a f))

-- the prompts that are lent
abbrev lent : Start → Prompts
lent s = prompts_in s.args.count s.args.tiers.now s.args.nets.now

-- a net delta as it is read
abbrev read : List ℤ → ℕ → ℤ
read zs k = to_z w64 (of_z w64 (get_or zs k (pos 0)))

-- the prompt of a turn
here : (c : After-pool_of-cell) →
    Placed (open_of (prompts_in c.args.count c.args.tiers.now c.args.nets.now)) c.loop-k.k (read c.args.nets.now c.loop-k.k) c.pool_of-cell.result
here c =
    let l = c.loop-k in
    let z = get_or c.args.nets.now l.k (pos 0) in
    let f : SFits w64 z = record { sfits = c.net-1.given } in
    placed_in c.args.count c.args.tiers.now c.args.nets.now l.k _ c.pool_of-cell.result c.requires.1.0.0 c.requires.1.0.1 c.requires.0
    c.loop-k-test.true (back z f) c.pool_of-cell.ensures

within : (c : After-pool_of-cell) → c.pool_of-cell.result < pool_count
within c = placed_within _ _ _ _ (here c)

-- the part that is kept
kept-is : (c : After-towards_zero-kept) →
    c.towards_zero-kept.result ≡ towards_zero (read c.args.nets.now c.loop-k.k) c.saturating_sub-due.result
kept-is c =
    let z = read c.args.nets.now c.loop-k.k in
    let f : SFits w64 z = record { sfits = c.struct_told-1.given.0.1 } in
    seen (λ (x : ℤ). towards_zero x c.saturating_sub-due.result) z f c.towards_zero-kept.ensures

pub loop-k-init : goal.loop-k-init
loop-k-init c =
    let at = (goal.at.loop-k-init c).Start in
    let cells = c.args.pools in
    let len : length cells ≡ pool_count = c.well_formed.1.1.1.0.1.0.1 in
    let none = paying_none cells c.args.left.now (open_of (lent at)) len in (
      few (lent at) c.requires.0,
      subst⁻¹ (λ (zs : List ℤ). Paying cells c.args.left.now (open_of (lent at)) 0 cells (deltas_from zs) (deltas_from c.args.unused.now))
          c.requires.1.1.1.0
          (subst⁻¹ (λ (zs : List ℤ). Paying cells c.args.left.now (open_of (lent at)) 0 cells (deltas_from (replicate prompt_places (pos 0))) (deltas_from zs))
          c.requires.1.1.1.1 none),
    )

pub offset_bounds-had-cell : goal.offset_bounds-had-cell
offset_bounds-had-cell c = let h = within c in omega arith

pub bounds-had-cell : goal.bounds-had-cell
bounds-had-cell c = within c

pub offset_bounds-left-cell : goal.offset_bounds-left-cell
offset_bounds-left-cell c = let h = within c in omega arith

pub bounds-left-cell : goal.bounds-left-cell
bounds-left-cell c =
    omega (arith, within (goal.at.bounds-left-cell c).After-pool_of-cell, c.requires.1.1.0)

pub offset_bounds-had-cell-in-loop-k : goal.offset_bounds-had-cell-in-loop-k
offset_bounds-had-cell-in-loop-k c =
    let h = within (goal.at.offset_bounds-had-cell-in-loop-k c).After-pool_of-cell in
    omega arith

pub bounds-had-cell-in-loop-k : goal.bounds-had-cell-in-loop-k
bounds-had-cell-in-loop-k c =
    within (goal.at.bounds-had-cell-in-loop-k c).After-pool_of-cell

pub offset_bounds-had-cell-in-loop-k-2 : goal.offset_bounds-had-cell-in-loop-k-2
offset_bounds-had-cell-in-loop-k-2 c =
    let h = within (goal.at.offset_bounds-had-cell-in-loop-k-2 c).After-pool_of-cell in
    omega arith

pub bounds-had-cell-in-loop-k-2 : goal.bounds-had-cell-in-loop-k-2
bounds-had-cell-in-loop-k-2 c =
    within (goal.at.bounds-had-cell-in-loop-k-2 c).After-pool_of-cell

pub loop-k-preserved : goal.loop-k-preserved
loop-k-preserved c =
    let at = goal.at.loop-k-preserved c in
    let l = c.loop-k in
    let cell = c.pool_of-cell.result in
    let z = read c.args.nets.now l.k in
    let y = c.towards_zero-kept.result in
    let f : SFits w64 z = record { sfits = c.struct_told-in-loop-k-1.given.0.1 } in
    let g : SFits w64 y = record { sfits = c.towards_zero-kept.type_inv } in
    let kept = kept-is at.After-towards_zero-kept in (
      l.invariant.0,
      pay_next c.args.pools c.args.left.now (open_of (lent at.Start)) l.k l.had _ l.used l.unused _ cell
          c.saturating_sub-due.result _ _ (omega arith) (here at.After-pool_of-cell) c.saturating_sub-due.ensures
          (used_is z y c.saturating_sub-due.result f g kept) (back y g ∙ kept)
          (ap (set l.had cell) (c.saturating_sub.ensures ∙ ap (λ (a : ℕ). get_or l.had cell 0 - a) c.size.ensures))
          l.invariant.1,
    )

pub returns : goal.returns
returns c =
    let l = c.loop-k in
    let p = lent (goal.at.returns c).Start in
    let n = open_length p c.requires.1.0.0 (length-map c.args.nets.now _ ∙ c.requires.1.0.1) l.invariant.0 in
    paying_all c.args.pools c.args.left.now (open_of p) l.k l.had (deltas_from l.used) (deltas_from l.unused) (omega arith) l.invariant.1
