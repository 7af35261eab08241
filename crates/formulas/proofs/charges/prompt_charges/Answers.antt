use mathlib.Core.Path.{◌≡◌, ◌∙◌, sym, ap, subst⁻¹}
use Prim.Native.Nat.{ℕ, ◌+◌}
use native.Mathlib.Omega.{arith}
use lib.IntN.{ℤ}
use Rattle.std.proofs.Common.{length, length-append, refl}
use Rattle.record.specs.Layout.{Record}
use Rattle.account.specs.Records.{records, record_count}
use Rattle.formulas.specs.code.Sums.{PromptRoom}
use Rattle.exact.proofs.Integers.{back, sfits_abs}
use Rattle.formulas.proofs.Calls.{handed}
use Rattle.formulas.proofs.RecordLaws.{below_records, length_cut}
use Rattle.formulas.proofs.SumLaws.{next, finish, prompt_from, prompt_step, prompt_none}
use Rattle.formulas.proofs.ChunkLaws.{NumberedTurn, numbered_turn, all_numbered}
use Rattle.formulas.proofs.charges.prompt_charges.Goals as goal
use Rattle.formulas.proofs.charges.prompt_charges.Goals.{In-Some}

-- the numbers read are those of the prompt
used-read : {unit : ℕ} {r : Record} {used unused : ℤ} → PromptRoom unit r used unused → handed used ≡ used
used-read {unit} {r} {used} {unused} h = back used (sfits_abs used (omega (arith, h.used_within)))

unused-read : {unit : ℕ} {r : Record} {used unused : ℤ} → PromptRoom unit r used unused → handed unused ≡ unused
unused-read {unit} {r} {used} {unused} h = back unused (sfits_abs unused (omega (arith, h.unused_within)))

room-handed : (unit : ℕ) (r : Record) (used unused : ℤ) → PromptRoom unit r used unused → PromptRoom unit r (handed used) (handed unused)
room-handed unit r used unused h =
    subst⁻¹ (λ (z : ℤ). PromptRoom unit r z (handed unused)) (used-read h) (subst⁻¹ (λ (z : ℤ). PromptRoom unit r used z) (unused-read h) h)

-- the prompt of a turn
prompt : (c : In-Some) → NumberedTurn c.args.prompts.now (length c.loop-i.yielded) c.in-Some.i c.in-Some.p.now c.next.new.self
prompt c = numbered_turn _ _ _ c.loop-i.invariant.0 _ c.in-Some.i c.in-Some.p c.in-Some.ensures.steps

pub bounds-used-i : goal.bounds-used-i
bounds-used-i c =
    let p = prompt (goal.at.bounds-used-i c).In-Some in
    omega (arith, c.requires.most, length_cut (record_count c.args.prompts.now) c.args.prompts.now)

pub bounds-unused-i : goal.bounds-unused-i
bounds-unused-i c =
    let p = prompt (goal.at.bounds-unused-i c).In-Some in
    omega (arith, c.requires.most, length_cut (record_count c.args.prompts.now) c.args.prompts.now)

pub charge_of_prompt-charge-requires : goal.charge_of_prompt-charge-requires
charge_of_prompt-charge-requires c =
    let p = prompt (goal.at.charge_of_prompt-charge-requires c).In-Some in
    let k = length c.loop-i.yielded in
    rw (p.number, ← p.is) (room-handed c.args.unit _ _ _ (c.requires.each k (below_records c.args.prompts.now k p.there)))

pub overflow_add-sum : goal.overflow_add-sum
overflow_add-sum c =
    let p = prompt (goal.at.overflow_add-sum c).In-Some in
    let t = c.loop-i.invariant.1.small in
    let h = c.requires.most in
    let n = length_cut (record_count c.args.prompts.now) c.args.prompts.now in
    let m = c.charge_of_prompt-charge.ensures.1 in
    omega arith

pub loop-i-preserved : goal.loop-i-preserved
loop-i-preserved c =
    let l = c.loop-i in
    let k = length l.yielded in
    let f = c.args.prompts.now in
    let us = c.args.used.now in
    let ns = c.args.unused.now in
    let p = prompt (goal.at.loop-i-preserved c).In-Some in
    let here = below_records f k p.there in
    let room = c.requires.each k here in
    simp length-append (
      p.passed,
      next k l.sum c.charge_of_prompt-charge.result.0 l.invariant.1 p.there
          (prompt_step c.args.unit (records f) us ns c.requires.used_there c.requires.unused_there k here
          ∙ ap (λ (x : ℕ). x + prompt_from c.args.unit (records f) us ns (k + 1))
          (sym (c.charge_of_prompt-charge.ensures.0 ∙ rw (p.number, ← p.is, used-read room, unused-read room) refl)))
          c.charge_of_prompt-charge.ensures.1,
    )

pub returns : goal.returns
returns c =
    let l = c.loop-i in
    let k = length l.yielded in
    let f = c.args.prompts.now in
    let all = all_numbered f k l.i-iterator l.invariant.0 c.next.new.self c.in-None.ensures.steps in
    let n = length_cut (record_count f) f in
    let h = c.requires.most in
    let t = l.invariant.1.small in (
      finish k l.sum l.invariant.1 (omega arith)
          (prompt_none c.args.unit (records f) c.args.used.now c.args.unused.now k (omega arith)),
      omega arith,
    )
