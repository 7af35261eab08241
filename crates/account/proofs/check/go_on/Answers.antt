-- `account::check::go_on` meets its contract. Assumes nothing.
use mathlib.Core.Path.{sym, ◌∙◌}
use native.Mathlib.Omega.{arith}
use Rattle.account.proofs.Runs.{step_runs, step_alone}
use Rattle.account.proofs.check.go_on.Goals as goal

pub passes_from-next-requires : goal.passes_from-next-requires
passes_from-next-requires c =
    let pre = c.requires in
    (pre.inside, pre.sizes)

pub note_to-requires : goal.note_to-requires
note_to-requires c =
    let runs = c.passes_from-next.ensures in
    let some = c.if-k-next.true in
    (c.requires, (runs.fine some, (some, runs.high)))

pub returns-then-k-next : goal.returns-then-k-next
returns-then-k-next c =
    step_runs c.passes_from-next.ensures c.if-k-next.true c.note_to.ensures
    c.one_if_contract.ensures c.whole_at.ensures

pub returns-then-number-ne0 : goal.returns-then-number-ne0
returns-then-number-ne0 c = (c.fault_at-number.ensures, c.if-number-ne0.true)

pub note_to-requires-2 : goal.note_to-requires-2
note_to-requires-2 c =
    let pre = c.requires in
    (pre, (sym c.fault_at-number.ensures ∙ c.if-number-ne0.false, (omega arith, omega (arith, pre.inside))))

pub returns : goal.returns
returns c =
    step_alone (sym c.fault_at-number.ensures ∙ c.if-number-ne0.false) c.requires.inside c.note_to-2.ensures c.one_if_contract-2.ensures c.whole_at-2.ensures
