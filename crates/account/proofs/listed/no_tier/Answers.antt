use mathlib.Core.Bool.{not}
use mathlib.Core.Path.{ap, ◌∙◌}
use native.Mathlib.Omega.{arith}
use Rattle.std.proofs.Common.{rules, tests}
use Rattle.std.proofs.lemmas.Iterator.{YieldsList-from_range}
use Rattle.std.proofs.lemmas.Iterator.Search.{any_from_yields_List}
use Rattle.account.specs.Parts.{on_tier}
use Rattle.account.specs.Records.{record_at, record_count}
use Rattle.account.proofs.Walk.{any_at_places}
use Rattle.account.proofs.listed.no_tier.Goals as goal

pub returns : goal.returns
returns c =
    let file = c.args.prompts.now in
    let n = record_count file in
    ap not (any_from_yields_List (λ i. on_tier c.args.t (record_at file i)) _ _ _ c.any.ensures.ran
    (YieldsList-from_range 0 n n (cc) (omega arith)) (λ i b q k. search (rules, tests))
    ∙ any_at_places (on_tier c.args.t) file)
