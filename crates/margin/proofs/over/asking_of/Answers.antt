-- What is asked about by a contract number, by what its rows come to.
-- Assumes nothing.
use mathlib.Core.Path.{refl, subst}
use mathlib.Core.List.{List, []}
use Rattle.record.specs.Layout.{Record}
use Rattle.account.specs.code.Lent.{account_in}
use Rattle.account.specs.Joined.{account_of}
use Rattle.account.specs.Parts.{rows_of}
use Rattle.formulas.specs.code.Position.{with_nets}
use Rattle.formulas.specs.Contract.{Contract, contract_steps, opens_of}
use Rattle.formulas.specs.code.Promised.{BookFit, contract_with}
use Rattle.margin.specs.code.Asking.{Asks}
use Rattle.margin.proofs.StandLaws.{parts_read, parts_told, book_fits, by_number}
use Rattle.margin.proofs.over.asking_of.Goals as goal

pub contract_asking-requires : goal.contract_asking-requires
contract_asking-requires c =
    let a = account_of c.args.morning.now c.args.noon.now in
    let st = c.requires.0 in
    let j = account_in c.args.account.now in
    let n = c.args.c in
    let h = c.requires.1 in
    let w = c.whereabouts_of-w.ensures in
    let ps = c.prompts_part-prompts in
    let ss = c.spreads_part-spreads in
    let p = with_nets [] 1 (rows_of n a) c.nets_at-nets.result in
    record {
      position = p;
      nets_are = refl;
      fits =
          parts_read a st.lawful n h ps.result.now ss.result.now (ps.ensures j n st h w) (ss.ensures j n st h w)
          (λ (xs ys : List Record). BookFit xs ys p) (book_fits a st.lawful n h p c.nets_at-nets.ensures);
    }

pub returns : goal.returns
returns c =
    let a = account_of c.args.morning.now c.args.noon.now in
    let st = c.requires.0 in
    let j = account_in c.args.account.now in
    let n = c.args.c in
    let h = c.requires.1 in
    let w = c.whereabouts_of-w.ensures in
    let ps = c.prompts_part-prompts in
    let ss = c.spreads_part-spreads in
    let p = with_nets [] 1 (rows_of n a) c.nets_at-nets.result in
    let r = c.contract_asking in
    subst (λ (k : Contract). Asks (contract_steps k) (opens_of k) r.result) (by_number a st.lawful n h p c.nets_at-nets.ensures)
    (parts_told a st.lawful n h ps.result.now ss.result.now (ps.ensures j n st h w) (ss.ensures j n st h w)
    (λ (xs ys : List Record). Asks (contract_steps (contract_with [] xs ys p)) (opens_of (contract_with [] xs ys p)) r.result) (r.ensures p refl))
