-- The numbers that the steps formed, and what they used, are those of the book.
-- Assumes nothing.
use mathlib.Core.Path.{◌≡◌, sym, ap, ◌∙◌}
use native.Mathlib.Omega.{arith}
use lib.ListN.{length, length-map, take}
use lib.Seq.{sets}
use Rattle.spread.specs.Accepted.{prompt_places, spread_places}
use Rattle.spread.specs.code.Lent.{deltas_from, prompts_in}
use Rattle.spread.specs.declared.Prompts.{Prompts}
use Rattle.spread.proofs.Lent.{deltas_again}
use Rattle.formulas.proofs.UnspreadLaws.{unused_given}
use Rattle.margin.proofs.AnswerLaws.{few_prompts, touched, run_lent, run_signed, run_numbers}
use borrow.Author.Rules.{rules}
use Rattle.margin.proofs.books.put_table.Goals as goal
use Rattle.margin.proofs.books.put_table.Goals.{Start}

-- the prompts, and the places of the arrays
abbrev prompts : Start → Prompts
prompts s = prompts_in s.args.count s.args.tiers.now s.args.nets.now

net-places : (s : Start) → length (prompts s).net ≡ prompt_places
net-places s = length-map s.args.nets.now _ ∙ s.requires.1.0.1

spread-places : (s : Start) → length s.args.table.spread ≡ spread_places
spread-places s = search rules

pub touches_in-touches-requires : goal.touches_in-touches-requires
touches_in-touches-requires c = (c.requires.0, record { firsts = c.requires.1.1.1.first; seconds = c.requires.1.1.1.second })

pub put_numbers-requires : goal.put_numbers-requires
put_numbers-requires c =
    let first = c.args.first.now in
    let second = c.args.second.now in
    let used = c.args.used.now in
    let unused = c.args.unused.now in
    let is = c.requires.1.1.1 in
    let p = prompts (goal.at.put_numbers-requires c).Start in
    let t = c.args.table in
    let few = few_prompts p t c.requires.1.0.0 (net-places (goal.at.put_numbers-requires c).Start) (spread-places (goal.at.put_numbers-requires c).Start) c.requires.0 in (
      run_lent p t c.requires.1.0.0 (net-places (goal.at.put_numbers-requires c).Start) (spread-places (goal.at.put_numbers-requires c).Start) c.requires.0 first second used unused is c.args.nets.now
          (omega (arith, few, c.requires.1.0.1)),
      (
        run_signed p t c.requires.1.0.0 (net-places (goal.at.put_numbers-requires c).Start) (spread-places (goal.at.put_numbers-requires c).Start) c.requires.0 first second used unused is,
        (
          omega (arith, c.touches_in-touches.ensures, touched p t c.requires.1.0.0 (net-places (goal.at.put_numbers-requires c).Start) (spread-places (goal.at.put_numbers-requires c).Start) c.requires.0),
          omega (arith, c.requires.1.1.0),
        ),
      ),
    )

pub returns : goal.returns
returns c =
    let nets = c.args.nets.now in
    c.put_numbers.ensures
    ∙ ap (sets c.args.out.now 0)
    (run_numbers (prompts (goal.at.returns c).Start) c.args.table c.requires.1.0.0 (net-places (goal.at.returns c).Start) (spread-places (goal.at.returns c).Start) c.requires.0
    c.args.first.now c.args.second.now c.args.used.now c.args.unused.now c.requires.1.1.1 nets
    c.touches_in-touches.result
    (ap (take c.args.count) (sym (deltas_again nets))
    ∙ sym (unused_given c.args.count c.args.tiers.now (deltas_from nets) (omega (arith, net-places (goal.at.returns c).Start, c.requires.1.0.0))))
    c.touches_in-touches.ensures)
