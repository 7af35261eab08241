-- `judge`: what is not accepted has no list; then the counts; then the steps.
use mathlib.Core.Path.{◌≡◌, sym, ◌∙◌}
use borrow.Author.Rules.{rules}
use lib.ListN.{length}
use Rattle.spread.specs.Accepted.{prompt_places, spread_places}
use Rattle.judging.proofs.Walking.{not_accepted, counts_differ, counts_same}
use Rattle.judging.proofs.judge.Goals as goal
use Rattle.judging.proofs.judge.Goals.{Start, else-accepted-via-then-accepted+else-same_counts, else-accepted-via-else-accepted}

-- the arrays have their places
tier-places : (s : Start) → length s.args.prompts.tier ≡ prompt_places
tier-places s = search rules

net-places : (s : Start) → length s.args.prompts.net ≡ prompt_places
net-places s = search rules

spread-places : (s : Start) → length s.args.table.spread ≡ spread_places
spread-places s = search rules

pub returns-then-same_counts : goal.returns-then-same_counts
returns-then-same_counts c =
    let at = (goal.at.returns-then-same_counts c).Start in
    let a = c.args in
    c.judge_steps.ensures
    ∙ counts_same a.prompts a.table a.sent a.numbers.now a.uses.now (sym c.accepted.ensures ∙ c.if-accepted.true) (tier-places at) (net-places at) (spread-places at)
    (sym c.same_counts.ensures ∙ c.if-same_counts.true)

pub returns-else-accepted : goal.returns-else-accepted
returns-else-accepted c =
    let at = (goal.at.returns-else-accepted c).Start in
    let a = c.args in
    elim c.else-accepted.branch [
      | else-accepted-via-then-accepted+else-same_counts w ↦
          counts_differ a.prompts a.table a.sent a.numbers.now a.uses.now (sym c.accepted.ensures ∙ w.if-accepted.true) (tier-places at) (net-places at)
          (spread-places at) (sym w.same_counts.ensures ∙ w.if-same_counts.false)
      | else-accepted-via-else-accepted w ↦
          not_accepted a.prompts a.table a.sent a.numbers.now a.uses.now (sym c.accepted.ensures ∙ w.if-accepted.false)
    ]
