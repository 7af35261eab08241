use Prim.Native.Nat.{ℕ, ◌+◌, ◌*◌, ◌≤◌}
use native.Mathlib.Omega.{arith}
use mathlib.Core.Bool.{true}
use mathlib.Core.Path.{◌≡◌, refl, ◌∙◌}
use lib.ListN.{length, length-map, get_or}
use borrow.Author.Rules.{rules}
use Rattle.spread.specs.Accepted.{open_of, table_spreads, steps_of, sound_prompts, sound_table, spread_places}
use Rattle.spread.specs.code.Cells.{most_number}
use Rattle.spread.specs.code.Lent.{prompts_in}
use Rattle.spread.specs.Steps.{numbers}
use Rattle.spread.specs.declared.Prompts.{Prompts}
use Rattle.spread.proofs.Both.{and_left, and_right}
use Rattle.spread.proofs.Counting.{Formed, formed_by, numbers_small, counting_none, counting_all, table_counting}
use Rattle.spread.proofs.Gathering.{few_in_table}
use Rattle.spread.proofs.Running.{table_length}
use Rattle.spread.proofs.touches.touches_in.Goals as goal
use Rattle.spread.proofs.touches.touches_in.Goals.{Start}

tables : (s : Start) → length s.args.table.spread ≡ spread_places
tables s = search rules

-- the prompts that are lent
abbrev lent : Start → Prompts
lent s = prompts_in s.args.count s.args.tiers.now s.args.nets.now

sound-lent : (s : Start) → sound_prompts (lent s) ≡ true
sound-lent s = and_left (sound_prompts (lent s)) (sound_table s.args.table) s.requires.0

few : (s : Start) → s.args.table.count ≤ spread_places
few s = few_in_table s.args.table (and_right (sound_prompts (lent s)) (sound_table s.args.table) s.requires.0)

formed : (s : Start) → Formed (table_spreads s.args.table) (open_of (lent s)) s.args.first.now s.args.second.now
formed s = formed_by (lent s) s.args.table s.args.first.now s.args.second.now s.requires.0 s.requires.1

-- no number is more than the most
number_small : (s : Start) (k n : ℕ) → n ≡ get_or (numbers (steps_of s.args.table) (open_of (lent s))) k 0 → n ≤ most_number
number_small s k n e =
    let most = numbers_small (lent s) s.args.table (search rules) (length-map s.args.nets.now _ ∙ search rules) (sound-lent s) k in
    omega arith

pub lay-requires : goal.lay-requires
lay-requires c = (
  sound-lent (goal.at.lay-requires c).Start,
  (((search rules), (search rules)), (search rules, (refl, search rules))),
)

pub loop-i-init : goal.loop-i-init
loop-i-init c = (
  few (goal.at.loop-i-init c).Start,
  omega arith,
  record { places = search rules; pools = search rules; sizes = search rules; begun = c.lay.ensures.1 },
  λ ps h f. counting_none (table_spreads c.args.table) ps _ _ h,
)

pub step_touches-one-requires : goal.step_touches-one-requires
step_touches-one-requires c =
    let s = (goal.at.step_touches-one-requires c).Start in
    let i = c.loop-i.i in
    (c.loop-i.invariant.2, number_small s (2 * i) _ (formed s i (omega arith)).0)

pub step_touches-two-requires : goal.step_touches-two-requires
step_touches-two-requires c =
    let s = (goal.at.step_touches-two-requires c).Start in
    let i = c.loop-i.i in
    (c.step_touches-one.ensures.ready, number_small s (2 * i + 1) _ (formed s i (omega arith)).1)

pub loop-i-preserved : goal.loop-i-preserved
loop-i-preserved c =
    let two = c.step_touches-two in
    let one = c.step_touches-one in
    let l = c.loop-i in
    let s = (goal.at.loop-i-preserved c).Start in (
      l.invariant.0,
      omega (arith, two.ensures.few, one.ensures.few, l.invariant.1),
      two.ensures.ready,
      λ ps h f.
          let formed = f l.i (omega arith) in
          table_counting c.args.table ps l.i _ _ _ _ _ _ _ _ _ _ _ _ (tables s) (few s)
          c.loop-i-test.true formed.0 formed.1
          one.ensures two.ensures (l.invariant.3 ps h f),
    )

pub returns : goal.returns
returns c =
    let l = c.loop-i in
    let s = (goal.at.returns c).Start in
    let n = table_length c.args.table (tables s) (few s) in
    counting_all (table_spreads c.args.table) (open_of (lent s)) l.i _ _ _ (omega (arith, n, c.loop-i-test.false))
    (l.invariant.3 (open_of (lent s)) c.lay.ensures.0 (formed s))
