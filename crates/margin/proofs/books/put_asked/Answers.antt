-- The book of no spreads, or the one that the steps run.
-- Assumes nothing.
use mathlib.Core.Bool.{true}
use mathlib.Core.List.{List, []}
use mathlib.Core.Path.{◌≡◌, sym, ap, ◌∙◌, subst⁻¹}
use Prim.Native.Nat.{ℕ}
use native.Mathlib.Omega.{arith}
use lib.ListN.{length, length-map, take}
use lib.Seq.{sets}
use Rattle.spread.specs.Accepted.{open_of, steps_of, sound, prompt_places, spread_places}
use Rattle.spread.specs.Steps.{Taker, steps}
use Rattle.spread.specs.code.Lent.{prompts_in}
use Rattle.spread.specs.declared.Prompts.{Prompts}
use Rattle.spread.proofs.Lent.{prompts_back}
use Rattle.formulas.proofs.UnspreadLaws.{unused_given}
use Rattle.margin.specs.Books.{book_by}
use Rattle.margin.proofs.AnswerLaws.{few_prompts}
use borrow.Author.Rules.{rules}
use Rattle.margin.proofs.books.put_asked.Goals as goal
use Rattle.margin.proofs.books.put_asked.Goals.{After-plain-nets, Start}

-- the places of its arrays
tier-places : (s : Start) → length s.args.prompts.tier ≡ prompt_places
tier-places s = search rules

net-places : (s : Start) → length s.args.prompts.net ≡ prompt_places
net-places s = search rules

spread-places : (s : Start) → length s.args.table.spread ≡ spread_places
spread-places s = search rules

-- the net deltas as plain numbers
nets-long : (c : After-plain-nets) → length c.plain-nets.result ≡ prompt_places
nets-long c =
    ap length c.plain-nets.ensures ∙ length-map c.args.prompts.net _ ∙ (search rules)

same : (c : After-plain-nets) →
    let p = c.args.prompts in
    prompts_in p.count p.tier c.plain-nets.result ≡ p
same c =
    let p = c.args.prompts in
    prompts_back p c.plain-nets.result c.plain-nets.ensures

pub put_unspread-requires : goal.put_unspread-requires
put_unspread-requires c =
    let few = few_prompts c.args.prompts c.args.table (tier-places (goal.at.put_unspread-requires c).Start) (net-places (goal.at.put_unspread-requires c).Start) (spread-places (goal.at.put_unspread-requires c).Start) c.requires.0 in
    (omega (arith, few), (omega (arith, few, nets-long (goal.at.put_unspread-requires c).After-plain-nets), omega (arith, c.requires.1)))

pub returns-then-table-eq0 : goal.returns-then-table-eq0
returns-then-table-eq0 c =
    let p = c.args.prompts in
    let t = c.args.table in
    let none : steps_of t ≡ [] = ap (λ (n : ℕ). steps (take n t.spread)) c.if-table-eq0.true in
    c.put_unspread.ensures (open_of p)
    (ap (take p.count) c.plain-nets.ensures ∙ sym (unused_given p.count p.tier p.net (omega (arith, tier-places (goal.at.returns-then-table-eq0 c).Start, net-places (goal.at.returns-then-table-eq0 c).Start))))
    ∙ ap (λ (ss : List (List Taker)). sets c.args.out.now 0 (book_by ss (open_of p))) (sym none)

pub run_table-requires : goal.run_table-requires
run_table-requires c = (
  subst⁻¹ (λ (q : Prompts). sound q c.args.table ≡ true) (same (goal.at.run_table-requires c).After-plain-nets) c.requires.0,
  ((tier-places (goal.at.run_table-requires c).Start, nets-long (goal.at.run_table-requires c).After-plain-nets), omega (arith, c.requires.1)),
)

pub returns-else-table-eq0 : goal.returns-else-table-eq0
returns-else-table-eq0 c =
    c.run_table.ensures ∙ ap (λ (q : Prompts). sets c.args.out.now 0 (book_by (steps_of c.args.table) (open_of q))) (same (goal.at.returns-else-table-eq0 c).After-plain-nets)
