-- The verdict on the records, then on the rates.
-- Assumes nothing.
use mathlib.Core.Path.{◌≡◌, sym, ap, ◌∙◌}
use Rattle.account.proofs.AcceptedOnly.{err_some, err_none}
use Rattle.account.specs.Answers.{number_of}
use Rattle.account.specs.code.Pair.{verdict_by}
use Rattle.account.proofs.NoonLaws.{verdict_stops, verdict_clear, verdict_goes, verdict_ends}
use Rattle.account.proofs.noon.pair_verdict.Goals as goal
use Rattle.account.proofs.noon.pair_verdict.Goals.{After-verdict_of-verdict, Else-is_err}

-- the verdict on the records
by : (c : After-verdict_of-verdict)
    → c.verdict_of-verdict.result ≡ verdict_by c.args.first c.args.second c.args.account.records
by c =
    let s = c.args in
    c.verdict_of-verdict.ensures ∙ ap (verdict_by s.first s.second) c.record_total.ensures

none : (c : Else-is_err) → number_of c.verdict_of-verdict.result.answer ≡ 0
none c = err_none _ (sym c.is_err.ensures.value ∙ c.if-is_err.false)

pub returns-then-is_err : goal.returns-then-is_err
returns-then-is_err c =
    verdict_stops c.args.morning.now c.args.noon.now c.args.first c.args.second c.args.account c.requires.0 c.requires.1.0 c.requires.1.1
    c.verdict_of-verdict.result (by (goal.at.returns-then-is_err c).After-verdict_of-verdict) (err_some _ (sym c.is_err.ensures.value ∙ c.if-is_err.true))

pub conversions_answer-requires : goal.conversions_answer-requires
conversions_answer-requires c =
    verdict_clear c.args.morning.now c.args.noon.now c.args.first c.args.second c.args.account c.requires.0 c.requires.1.0 c.requires.1.1
    c.verdict_of-verdict.result (by (goal.at.conversions_answer-requires c).After-verdict_of-verdict) (none (goal.at.conversions_answer-requires c).Else-is_err)

pub returns-then-first-second : goal.returns-then-first-second
returns-then-first-second c =
    verdict_goes c.args.morning.now c.args.noon.now c.args.first c.args.second c.args.account c.requires.0 c.requires.1.0 c.requires.1.1
    c.verdict_of-verdict.result (by (goal.at.returns-then-first-second c).After-verdict_of-verdict) (none (goal.at.returns-then-first-second c).Else-is_err) c.conversions_answer.result c.conversions_answer.ensures

pub returns : goal.returns
returns c =
    verdict_ends c.args.morning.now c.args.noon.now c.args.first c.args.second c.args.account c.requires.0 c.requires.1.0 c.requires.1.1
    c.verdict_of-verdict.result (by (goal.at.returns c).After-verdict_of-verdict) (none (goal.at.returns c).Else-is_err) c.if-first-second.false
