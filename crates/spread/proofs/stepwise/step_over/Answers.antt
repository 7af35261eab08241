-- `step_over`: what is refused takes nothing; what is accepted has what the pools, the take and the spend give.
-- Assumes nothing.
use mathlib.Core.Bool.{true}
use mathlib.Core.Path.{◌≡◌, refl, sym, ◌∙◌, ap, subst, subst⁻¹}
use lib.ListN.{length, length-map}
use borrow.Author.Rules.{rules}
use Rattle.spread.specs.Accepted.{open_of, sound_prompts, sound_spread, prompt_places}
use Rattle.spread.specs.Uses.{sound_for}
use Rattle.spread.specs.code.Book.{Spent}
use Rattle.spread.specs.code.Cells.{Pooled}
use Rattle.spread.specs.code.Lent.{prompts_in}
use Rattle.spread.specs.declared.Prompts.{Prompts}
use Rattle.spread.proofs.Both.{and_left, and_right}
use Rattle.spread.proofs.Bounds.{pooled_small, pools_small}
use Rattle.spread.proofs.Lent.{prompts_back}
use Rattle.spread.proofs.Stepping.{stepped_refused, stepped_accepted}
use Rattle.spread.proofs.Taking.{taken_of}
use Rattle.spread.proofs.stepwise.step_over.Goals as goal
use Rattle.spread.proofs.stepwise.step_over.Goals.{After-plain-nets}

-- prompts that are accepted, and their plain numbers
module _ (c : After-plain-nets) where
  abbrev given : Prompts
  given = c.args.prompts

  abbrev lent : Prompts
  lent = prompts_in given.count given.tier c.plain-nets.result

  same : lent ≡ given
  same = prompts_back given c.plain-nets.result c.plain-nets.ensures

  both : sound_for given c.args.spread ≡ true
  both = sym c.can_step.ensures ∙ c.if-not-can_step.false

  sound-lent : sound_prompts lent ≡ true
  sound-lent =
      subst⁻¹ (λ (p : Prompts). sound_prompts p ≡ true) same
      (and_left (sound_prompts given) (sound_spread c.args.spread) both)

  sound-given : sound_spread c.args.spread ≡ true
  sound-given = and_right (sound_prompts given) (sound_spread c.args.spread) both

  tiers : length given.tier ≡ prompt_places
  tiers = search rules

  nets : length given.net ≡ prompt_places
  nets = search rules

  numbers : length c.plain-nets.result ≡ prompt_places
  numbers = ap length c.plain-nets.ensures ∙ length-map given.net _ ∙ nets

pub returns-then-not-can_step : goal.returns-then-not-can_step
returns-then-not-can_step c =
    stepped_refused c.args.prompts c.args.spread c.args.second c.not_taken.result
    (sym c.can_step.ensures ∙ c.if-not-can_step.true) c.not_taken.ensures

pub pools_of-pools-requires : goal.pools_of-pools-requires
pools_of-pools-requires c =
    let at = (goal.at.pools_of-pools-requires c).After-plain-nets in
    (sound-lent at, (tiers at, numbers at))

pub pools_for-requires : goal.pools_for-requires
pools_for-requires c = (c.pools_of-pools.ensures.size, sound-given (goal.at.pools_for-requires c).After-plain-nets)

pub take-took-requires : goal.take-took-requires
take-took-requires c =
    let at = (goal.at.take-took-requires c).After-plain-nets in (
      sound-given at,
      pools_small _ _ _ _ c.pools_for.ensures
          (pooled_small (lent at) _ (tiers at) (length-map c.plain-nets.result _ ∙ numbers at) (sound-lent at) c.pools_of-pools.ensures),
    )

pub pay-requires : goal.pay-requires
pay-requires c =
    let at = (goal.at.pay-requires c).After-plain-nets in
    (sound-lent at, ((tiers at, numbers at), (search rules, (refl, refl))))

pub returns : goal.returns
returns c =
    let at = (goal.at.returns c).After-plain-nets in
    let s = c.args in
    let cells = c.pools_of-pools.result in
    let left = c.put_back.new.cells in
    let spent = c.pay.ensures in
    stepped_accepted (given at) s.spread s.second (both at) (tiers at) (nets at) cells _ _ _ _
    (subst (λ (q : Prompts). Pooled cells (open_of q)) (same at) c.pools_of-pools.ensures)
    (taken_of s.second s.spread (sound-given at) cells _ c.pools_for.ensures _ _ _ c.take-took.ensures
    c.put_back.ensures)
    (subst (λ (q : Prompts). Spent cells left (open_of q) c.deltas_from.result c.deltas_from-2.result) (same at)
    (record { useds = c.deltas_from.ensures ∙ spent.useds; unuseds = c.deltas_from-2.ensures ∙ spent.unuseds }))
