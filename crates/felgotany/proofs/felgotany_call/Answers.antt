-- The call, told to C.
-- Assumes nothing.
use mathlib.Core.Path.{refl, ap, ap₂, subst, ◌∙◌}
use Rattle.questions.specs.declared.noon.Call.{Call}
use lib.IntN.{ℤ}
use mir.Syntax.{w64}
use mir.Val.{to_z, of_z}
use Rattle.exact.proofs.Integers.{back}
use Rattle.questions.specs.Noon.{joined_call}
use Rattle.felgotany.specs.code.Outcomes.{TellsCall}
use Rattle.felgotany.proofs.felgotany_call.Goals as goal

pub returns : goal.returns
returns c =
    let m = c.cover_call-made in
    let a = joined_call c.args.morning.now c.args.noon.now in
    let l = back c.args.last c.ranges.last in
    let t = back c.args.threshold c.ranges.threshold in
    let k = back c.args.collateral c.ranges.collateral in
    subst (λ (x : Call). TellsCall x (record { outcome = c.tell_of.result; call = m.result.amount.0 }))
    (m.ensures ∙ ap₂ (λ (x y : ℤ). a x y (to_z w64 (of_z w64 c.args.collateral))) l t ∙ ap (a c.args.last c.args.threshold) k)
    (record { outcome_is = c.tell_of.ensures; call_is = refl })
