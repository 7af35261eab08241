-- How many numbers the answer of a question has, over a pair of files: none of a refused pair.
-- Assumes nothing.
use mathlib.Core.Path.{◌≡◌, sym, ◌∙◌}
use Rattle.account.proofs.AcceptedOnly.{err_some, err_none}
use Rattle.account.specs.Answers.{number_of}
use Rattle.questions.proofs.NoonLaws.{pair_stands, none_needed, needed_accepted}
use Rattle.questions.proofs.noon.needed.Goals as goal
use Rattle.questions.proofs.noon.needed.Goals.{Else-is_err}

-- nothing is refused so far
clear : (c : Else-is_err) → number_of c.check_pair-checked.result.verdict.answer ≡ 0
clear c = err_none _ (sym c.is_err.ensures.value ∙ c.if-is_err.false)

pub returns-then-is_err : goal.returns-then-is_err
returns-then-is_err c =
    let a = c.args in
    let o = c.check_pair-checked in
    none_needed a.morning.now a.noon.now o.result o.ensures (err_some _ (sym c.is_err.ensures.value ∙ c.if-is_err.true)) a.question

pub needed_over-requires : goal.needed_over-requires
needed_over-requires c =
    let a = c.args in
    let o = c.check_pair-checked in
    pair_stands a.morning.now a.noon.now o.result o.ensures (clear (goal.at.needed_over-requires c).Else-is_err)

pub returns : goal.returns
returns c =
    let a = c.args in
    let o = c.check_pair-checked in
    let r = c.needed_over in
    needed_accepted a.morning.now a.noon.now o.result o.ensures (clear (goal.at.returns c).Else-is_err) a.question r.result r.ensures
