-- The place by what the check hands out of both files.
-- Assumes nothing.
use mathlib.Core.Path.{◌≡◌, sym, ◌∙◌}
use native.Mathlib.Omega.{arith}
use Rattle.account.proofs.AcceptedOnly.{err_some, err_none}
use Rattle.account.specs.Answers.{number_of}
use Rattle.account.proofs.NoonLaws.{Joining, place_refused, place-beyond, place_noon, place_morning, place-nowhere}
use Rattle.account.proofs.noon.prompt_place.Goals as goal
use Rattle.account.proofs.noon.prompt_place.Goals.{After-pair_verdict-verdict, Else-contract-ge-CONTRACTS}

-- both files checked and joined, with the verdict
abbrev known : (c : After-pair_verdict-verdict) → Joining c.args.morning.now c.args.noon.now
known c =
    let m = c.take_survey-first in
    let n = c.take_survey-second in
    let j = c.join-account in
    record {
      first = m.result;
      second = n.result;
      account = j.result;
      first_is = m.ensures;
      second_is = n.ensures;
      joined_by = j.ensures;
      verdict = c.pair_verdict-verdict.result;
      verdict_is = c.pair_verdict-verdict.ensures;
    }

-- nothing is refused, and the number is a contract's
clear : (c : Else-contract-ge-CONTRACTS) → number_of c.pair_verdict-verdict.result.answer ≡ 0
clear c = err_none _ (sym c.is_err.ensures.value ∙ c.if-is_err.false)

pub pair_verdict-verdict-requires : goal.pair_verdict-verdict-requires
pair_verdict-verdict-requires c = (c.take_survey-first.ensures, (c.take_survey-second.ensures, c.join-account.ensures))

pub returns-then-is_err : goal.returns-then-is_err
returns-then-is_err c =
    let s = c.args in
    c.nowhere.ensures
    ∙ sym (place_refused s.morning.now s.noon.now (known (goal.at.returns-then-is_err c).After-pair_verdict-verdict) s.contract (err_some _ (sym c.is_err.ensures.value ∙ c.if-is_err.true)))

pub returns-then-contract-ge-CONTRACTS : goal.returns-then-contract-ge-CONTRACTS
returns-then-contract-ge-CONTRACTS c =
    let s = c.args in
    c.nowhere-then-contract-ge-CONTRACTS.ensures ∙ sym (place-beyond s.morning.now s.noon.now (known (goal.at.returns-then-contract-ge-CONTRACTS c).After-pair_verdict-verdict) s.contract c.if-contract-ge-CONTRACTS.true)

pub returns-then-second-contract-ne0 : goal.returns-then-second-contract-ne0
returns-then-second-contract-ne0 c =
    let s = c.args in
    c.place_in.ensures
    ∙ place_noon s.morning.now s.noon.now (known (goal.at.returns-then-second-contract-ne0 c).After-pair_verdict-verdict) s.contract (clear (goal.at.returns-then-second-contract-ne0 c).Else-contract-ge-CONTRACTS) (omega (arith, c.if-contract-ge-CONTRACTS.false)) c.if-second-contract-ne0.true

pub returns-then-first-contract-ne0 : goal.returns-then-first-contract-ne0
returns-then-first-contract-ne0 c =
    let s = c.args in
    c.place_in-then-first-contract-ne0.ensures
    ∙ place_morning s.morning.now s.noon.now (known (goal.at.returns-then-first-contract-ne0 c).After-pair_verdict-verdict) s.contract (clear (goal.at.returns-then-first-contract-ne0 c).Else-contract-ge-CONTRACTS) (omega (arith, c.if-contract-ge-CONTRACTS.false))
    (omega (arith, c.if-second-contract-ne0.false)) c.if-first-contract-ne0.true

pub returns : goal.returns
returns c =
    let s = c.args in
    c.nowhere-2.ensures
    ∙ sym (place-nowhere s.morning.now s.noon.now (known (goal.at.returns c).After-pair_verdict-verdict) s.contract (clear (goal.at.returns c).Else-contract-ge-CONTRACTS) (omega (arith, c.if-contract-ge-CONTRACTS.false))
    (omega (arith, c.if-second-contract-ne0.false)) (omega (arith, c.if-first-contract-ne0.false)))
