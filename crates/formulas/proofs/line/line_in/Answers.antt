-- The line of a contract: each part is asked for within its bounds, and gives the contract's number.
-- Assumes nothing.
use Prim.Native.Nat.{ℕ, ◌≤◌}
use mathlib.Core.Path.{◌≡◌, ◌∙◌, sym, ap, subst, subst⁻¹}
use mathlib.Core.List.{List, map}
use lib.IntN.{ℤ, nat_abs}
use lib.ListN.{length}
use Rattle.exact.specs.Lists.{sum, sum_ℤ}
use Rattle.account.specs.Records.{records}
use Rattle.spread.specs.Accepted.{prompt_places}
use Rattle.spread.specs.Steps.{steps}
use Rattle.spread.specs.code.Lent.{book_in, deltas_from, spreads_from}
use Rattle.formulas.specs.Bounds.{most_delta}
use Rattle.formulas.specs.Deltas.{opens_with, interprompt}
use Rattle.formulas.specs.code.Position.{position_in}
use Rattle.formulas.specs.code.Promised.{BookOf, Charged}
use Rattle.formulas.specs.code.Sums.{deltas_in, SpreadsWithin, PromptsWithin}
use Rattle.formulas.proofs.ContractLaws.{net_sizes, spreads_room, prompts_room, line_is, line_with}
use Rattle.spread.proofs.Lent.{deltas_again}
use Rattle.formulas.proofs.line.line_in.Goals as goal
use Rattle.formulas.proofs.line.line_in.Goals.{Start}

-- the book, over the net deltas of the position
book_is : (c : Start) →
    let a = c.args in
    BookOf (steps (map interprompt (records a.spreads.now))) (opens_with (records a.prompts.now) (deltas_in (deltas_from a.nets.now)))
    (book_in a.first.now a.second.now a.used.now a.unused.now)
book_is c =
    let a = c.args in
    subst⁻¹ (λ (zs : List ℤ). BookOf (steps (map interprompt (records a.spreads.now))) (opens_with (records a.prompts.now) zs)
    (book_in a.first.now a.second.now a.used.now a.unused.now)) (deltas_again a.nets.now) c.requires.1

pub interprompt_charge-requires : goal.interprompt_charge-requires
interprompt_charge-requires c =
    let w = c.requires.0 in
    let spreads = records c.args.spreads.now in
    subst⁻¹ (λ (n : ℕ). SpreadsWithin n spreads (spreads_from c.args.first.now) (spreads_from c.args.second.now)) c.unit-unit.ensures.0
    (spreads_room w.rates c.args.own.now (records c.args.prompts.now) w.rows spreads w.fit _ w.is w.most c.args.first.now c.args.second.now
    c.args.used.now c.args.unused.now (book_is (goal.at.interprompt_charge-requires c).Start))

pub prompt_charges-requires : goal.prompt_charges-requires
prompt_charges-requires c =
    let w = c.requires.0 in
    let prompts = records c.args.prompts.now in
    subst⁻¹ (λ (n : ℕ). PromptsWithin n prompts c.args.used.now c.args.unused.now) c.unit-unit.ensures.0
    (prompts_room w.rates c.args.own.now prompts w.rows (records c.args.spreads.now) w.fit _ w.is w.most c.args.first.now c.args.second.now
    c.args.used.now c.args.unused.now (book_is (goal.at.prompt_charges-requires c).Start))

pub net_in-requires : goal.net_in-requires
net_in-requires c =
    let w = c.requires.0 in
    subst (λ (zs : List ℤ). (length zs ≡ prompt_places) × (sum (map nat_abs zs) ≤ most_delta)) (deltas_again c.args.nets.now) (
      w.most.nets_most.as_many,
      net_sizes w.rates c.args.own.now (records c.args.prompts.now) w.rows (records c.args.spreads.now) w.fit _ w.is w.most,
    )

pub returns : goal.returns
returns c =
    let w = c.requires.0 in
    let own = c.args.own.now in
    let prompts = records c.args.prompts.now in
    let spreads = records c.args.spreads.now in
    let rate = c.short_option_rate in
    let least = c.short_option_minimum in
    let u = c.unit-unit in
    let interprompt = c.interprompt_charge in
    let prompt = c.prompt_charges in
    let p = position_in c.args.totals.now c.args.nets.now c.args.shorts in
    line_with w.rates own prompts w.rows spreads p w.is _
    (line_is w.rates own prompts w.rows spreads w.fit p w.is w.most c.args.first.now c.args.second.now
    c.args.used.now c.args.unused.now (book_is (goal.at.returns c).Start) _ rate.result
    c.contract.ensures.0 u.ensures.0 c.scanned-risks.ensures
    (subst (λ (n : ℕ). Charged n prompts spreads c.args.first.now c.args.second.now c.args.used.now c.args.unused.now
    interprompt.result.0 prompt.result.0) u.ensures.0 (record {
      interprompt_is = interprompt.ensures.0;
      prompt_is = prompt.ensures.0;
      interprompt_within = interprompt.ensures.1;
      prompt_within = prompt.ensures.1;
    }))
    rate.ensures.0 least.ensures.0 least.ensures.1
    (c.net_in.ensures ∙ ap sum_ℤ (sym (deltas_again c.args.nets.now))))
