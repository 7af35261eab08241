-- The question leaves the figures in 129 zeros, and what is found in them is what the account adds.
-- Assumes nothing.
use mathlib.Core.Path.{ap, subst, subst⁻¹, ◌∙◌}
use mathlib.Core.List.{List}
use lib.Dec.{ltb}
use lib.IntN.{ℤ}
use Rattle.account.specs.Answers.{number_of}
use Rattle.account.specs.Check.{most_contracts}
use Rattle.committee.specs.code.Sums.{Fit, FoundIn}
use Rattle.committee.proofs.Padded.{fit, account_is}
use Rattle.committee.proofs.Flags.{flag}
use Rattle.committee.proofs.figures.answer_account.Goals as goal

pub found_in-found-requires : goal.found_in-found-requires
found_in-found-requires c =
    let f = c.answer-told in
    subst⁻¹ Fit f.ensures.1 (fit c.args.account.now)

pub returns : goal.returns
returns c =
    let f = c.answer-told in
    let n = c.number_of-refusal in
    let found = c.found_in-found in
    account_is c.args.account.now found.result
    (subst (λ (xs : List ℤ). FoundIn xs most_contracts found.result) f.ensures.1 found.ensures)
    n.result c.from.result (n.ensures ∙ ap number_of f.ensures.0) (c.from.ensures ∙ flag (ltb 0 found.result.credits))
