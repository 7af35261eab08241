-- A question over a pair that is checked: its refusal, or what the joined account answers.
-- Assumes nothing.
use mathlib.Core.Path.{◌≡◌, sym, ◌∙◌}
use Rattle.account.proofs.AcceptedOnly.{err_some, err_none}
use Rattle.account.specs.Answers.{number_of}
use Rattle.questions.proofs.NoonLaws.{pair_stands, answer_refused, answer_accepted}
use Rattle.questions.proofs.noon.answer_pair.Goals as goal
use Rattle.questions.proofs.noon.answer_pair.Goals.{Else-is_err}

-- nothing is refused so far
clear : (c : Else-is_err) → number_of c.args.checked.now.verdict.answer ≡ 0
clear c = err_none _ (sym c.is_err.ensures.value ∙ c.if-is_err.false)

pub returns-then-is_err : goal.returns-then-is_err
returns-then-is_err c =
    let a = c.args in
    answer_refused a.morning.now a.noon.now a.checked.now c.requires (err_some _ (sym c.is_err.ensures.value ∙ c.if-is_err.true))
    a.question a.out.now

pub answer_over-requires : goal.answer_over-requires
answer_over-requires c =
    let a = c.args in
    pair_stands a.morning.now a.noon.now a.checked.now c.requires (clear (goal.at.answer_over-requires c).Else-is_err)

pub returns : goal.returns
returns c =
    let a = c.args in
    let r = c.answer_over in
    let v = c.of_joined in
    answer_accepted a.morning.now a.noon.now a.checked.now c.requires (clear (goal.at.returns c).Else-is_err) a.question a.out.now
    r.new.out r.result v.result v.ensures r.ensures
