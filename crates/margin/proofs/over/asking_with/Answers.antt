-- What is asked about by a contract number: its parts are the account's.
-- Assumes nothing.
use mathlib.Core.List.{List, []}
use mathlib.Core.Path.{refl}
use Rattle.record.specs.Layout.{Record}
use Rattle.account.specs.code.Lent.{account_in}
use Rattle.account.specs.Joined.{account_of}
use Rattle.formulas.specs.Contract.{contract_steps, opens_of}
use Rattle.formulas.specs.code.Promised.{BookFit, contract_with}
use Rattle.margin.specs.code.Asking.{Asks}
use Rattle.margin.proofs.StandLaws.{parts_read, parts_told}
use Rattle.margin.proofs.over.asking_with.Goals as goal

pub contract_asking-requires : goal.contract_asking-requires
contract_asking-requires c =
    let st = c.requires.0 in
    let j = account_in c.args.account.now in
    let n = c.args.c in
    let h = c.requires.1.0 in
    let w = c.whereabouts_of-w.ensures in
    let ps = c.prompts_part-prompts in
    let ss = c.spreads_part-spreads in
    record {
      position = c.args.p;
      nets_are = refl;
      fits =
          parts_read (account_of c.args.morning.now c.args.noon.now) st.lawful n h ps.result.now ss.result.now
          (ps.ensures j n st h w) (ss.ensures j n st h w) (λ (xs ys : List Record). BookFit xs ys c.args.p) c.requires.1.1;
    }

pub returns : goal.returns
returns c =
    let st = c.requires.0 in
    let j = account_in c.args.account.now in
    let n = c.args.c in
    let h = c.requires.1.0 in
    let w = c.whereabouts_of-w.ensures in
    let ps = c.prompts_part-prompts in
    let ss = c.spreads_part-spreads in
    let r = c.contract_asking in
    parts_told (account_of c.args.morning.now c.args.noon.now) st.lawful n h ps.result.now ss.result.now
    (ps.ensures j n st h w) (ss.ensures j n st h w)
    (λ (xs ys : List Record). Asks (contract_steps (contract_with [] xs ys c.args.p)) (opens_of (contract_with [] xs ys c.args.p)) r.result)
    (r.ensures c.args.p refl)
