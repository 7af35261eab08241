-- A contract's prompts and spreads are accepted by the steps, and are those that its uses go by.
-- Assumes nothing.
use mathlib.Core.List.{List, []}
use mathlib.Core.Path.{sym, ◌∙◌, subst}
use native.Mathlib.Omega.{arith}
use Rattle.account.specs.Records.{records}
use Rattle.spread.specs.declared.Delta.{Delta}
use Rattle.formulas.specs.Contract.{contract_steps, opens_of}
use Rattle.formulas.specs.code.Promised.{contract_with}
use Rattle.formulas.specs.code.Tables.{TiersOf}
use Rattle.formulas.specs.declared.rows.Position.{Position}
use Rattle.formulas.proofs.RecordLaws.{count_is}
use Rattle.margin.specs.code.Asking.{Asks}
use Rattle.margin.proofs.UsesLaws.{contract-asks}
use Rattle.margin.proofs.over.contract_asking.Goals as goal

pub prompts_with-requires : goal.prompts_with-requires
prompts_with-requires c = omega (arith, c.requires.fits.fits.fit.few_prompts, count_is c.args.prompts.now)

pub interprompt_table-requires : goal.interprompt_table-requires
interprompt_table-requires c =
    omega (arith, c.requires.fits.fits.fit.few_spreads, count_is c.args.spreads.now)

pub returns : goal.returns
returns c =
    let its = c.prompts_with in
    let t = c.interprompt_table in
    let ps = records c.args.prompts.now in
    let ss = records c.args.spreads.now in
    let q = c.requires.position in
    let asks =
    contract-asks c.args.prompts.now c.args.spreads.now q c.requires.fits its.result t.result
    (subst (λ (ns : List Delta). TiersOf c.args.prompts.now ns its.result) (sym c.requires.nets_are) its.ensures) t.ensures in
    let with-nets : Position → List Delta → Position = λ p ns. record { totals = p.totals; nets = ns; shorts = p.shorts } in
    λ p e.
    subst (λ (ns : List Delta). Asks (contract_steps (contract_with [] ps ss (with-nets p ns))) (opens_of (contract_with [] ps ss (with-nets p ns)))
    (record { prompts = its.result; table = t.result }))
    (c.requires.nets_are ∙ sym e) asks
